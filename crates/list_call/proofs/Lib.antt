pub mod CallWays
pub mod Exactly
