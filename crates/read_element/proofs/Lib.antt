pub mod LengthWays
pub mod ElementPlaces
