pub mod NumberLists
pub mod JoinedLaws
