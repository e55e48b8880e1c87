mod GrantWays
