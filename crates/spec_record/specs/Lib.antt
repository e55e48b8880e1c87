pub mod Property
pub mod Records
pub mod Kinds
pub mod BookEdges
pub mod Pinned
pub mod Theorems
