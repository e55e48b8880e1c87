pub mod Hex
pub mod Lines
pub mod Calls
pub mod Grammar
pub mod LineEdges
pub mod LineCalls
pub mod Pinned
pub mod Theorems
