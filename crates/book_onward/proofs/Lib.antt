pub mod OnwardWays
