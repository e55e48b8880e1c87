pub mod Onward
pub mod Linking
