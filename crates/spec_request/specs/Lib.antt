pub mod Request
pub mod RequestEdges
pub mod Theorems
