pub mod Limits
pub mod Theorems
