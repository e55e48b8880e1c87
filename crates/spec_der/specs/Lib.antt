pub mod Elements
pub mod Certificate
pub mod Key
pub mod Edges
pub mod Pinned
pub mod Theorems
