pub mod TagTests
pub mod LinePlaces
pub mod ValuePlaces
