pub mod Filled
pub mod Theorems
