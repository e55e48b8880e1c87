pub mod Packs
pub mod Answers
pub mod Theorems
