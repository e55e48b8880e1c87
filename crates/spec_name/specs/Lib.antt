pub mod Names
pub mod Pinned
pub mod NameEdges
pub mod Theorems
