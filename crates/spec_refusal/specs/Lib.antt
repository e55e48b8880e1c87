pub mod Refusal
pub mod Order
pub mod Checks
pub mod Theorems
