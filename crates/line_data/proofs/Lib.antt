pub mod UnitLoops
pub mod DataParts
pub mod DataWays
