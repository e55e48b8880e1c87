pub mod OwnerParts
pub mod OwnerWays
