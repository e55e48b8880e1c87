pub mod Reach
pub mod Theorems
