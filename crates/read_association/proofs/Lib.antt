pub mod AssociationPlaces
