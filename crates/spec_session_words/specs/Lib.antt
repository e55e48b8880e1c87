pub mod SessionWords
pub mod SessionDoor
pub mod SessionWordEdges
