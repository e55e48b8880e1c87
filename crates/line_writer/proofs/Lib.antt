pub mod WriteWays
