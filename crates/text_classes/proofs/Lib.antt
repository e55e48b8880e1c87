mod TrimWalk
