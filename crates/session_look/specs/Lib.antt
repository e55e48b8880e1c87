pub mod Looks
pub mod Theorems
