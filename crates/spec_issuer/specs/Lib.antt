pub mod Issuer
pub mod IssuerEdges
pub mod Theorems
