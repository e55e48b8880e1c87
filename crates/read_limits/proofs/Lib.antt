mod LimitWalk
