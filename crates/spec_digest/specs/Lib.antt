pub mod Words
pub mod Padding
pub mod Family
pub mod Members
pub mod Roots
pub mod Examples
pub mod Pinned
pub mod Theorems
