mod NamePlaces
mod ValueTests
pub mod ValuePlaces
