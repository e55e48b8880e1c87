pub mod Edits
pub mod Meaning
pub mod Pinned
pub mod Theorems
pub mod EditEdges
