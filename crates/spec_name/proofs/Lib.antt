pub mod NameLaws
pub mod WholeNames
pub mod Ancestors
pub mod NameField
