pub mod FieldEnds
pub mod FieldPlaces
