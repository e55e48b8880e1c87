pub mod Touching
pub mod Elsewhere
pub mod EditCalls
pub mod Table
