pub mod WildcardTests
pub mod HostNames
pub mod RequestPlaces
pub mod BasePlaces
pub mod RequestWalk
pub mod AcceptedNames
