pub mod ChainWalk
