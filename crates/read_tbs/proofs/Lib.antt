pub mod PastLaws
pub mod ElementWalk
pub mod TbsWalk
