pub mod Lines
pub mod Pinned
pub mod Theorems
