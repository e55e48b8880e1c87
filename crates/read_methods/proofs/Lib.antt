mod ItemWalk
