pub mod PropertyPlaces
