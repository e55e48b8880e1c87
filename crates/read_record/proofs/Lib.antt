pub mod FieldsAndData
pub mod RecordFields
pub mod RecordPlaces
pub mod RecordWays
pub mod BookWalk
