pub mod ReachWays
