pub mod RowStores
pub mod RowLaws
pub mod Filling
