pub mod LentRest
pub mod Filled
mod Lowered
pub mod PutLoops
