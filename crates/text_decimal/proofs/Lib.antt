pub mod DecimalPieces
pub mod DecimalWalk
