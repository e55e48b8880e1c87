pub mod PaddingWrites
pub mod HashTail
