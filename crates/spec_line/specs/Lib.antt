pub mod Written
pub mod Read
pub mod Calls
pub mod Grammar
pub mod LineEdges
pub mod LineCalls
pub mod Pinned
pub mod Theorems
