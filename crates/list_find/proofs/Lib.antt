mod FoundWays
