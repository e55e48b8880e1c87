pub mod LabelTests
pub mod PieceEnds
pub mod PieceWalk
pub mod AnyLength
