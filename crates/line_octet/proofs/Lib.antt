pub mod UnitPlaces
pub mod UnitWalk
