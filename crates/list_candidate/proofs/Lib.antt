mod CandidateWays
