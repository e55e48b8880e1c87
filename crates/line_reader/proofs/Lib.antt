pub mod ReadWays
