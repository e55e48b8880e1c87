pub mod IssueValues
pub mod Parameters
pub mod Productions
pub mod ValueEdges
pub mod ParameterEdges
pub mod Theorems
