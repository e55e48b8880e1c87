pub mod Indexes
pub mod Theorems
