mod GrantLoops
