pub mod TwoElements
pub mod KeyWays
