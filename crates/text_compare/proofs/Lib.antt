mod TextWalk
mod PairWalk
