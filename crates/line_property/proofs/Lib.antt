pub mod ValueLoops
pub mod LineParts
pub mod Measures
pub mod PropertyWays
