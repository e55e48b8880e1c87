pub mod AskedLaws
pub mod TableMade
pub mod NameWalk
pub mod Exactly
