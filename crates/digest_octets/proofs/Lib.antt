pub mod NumberWrites
pub mod WordWrites
