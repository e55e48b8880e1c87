pub mod Grants
pub mod Candidates
pub mod Rounds
pub mod Questions
pub mod PermittedBy
pub mod Theorems
