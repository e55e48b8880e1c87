pub mod AssociationLaws
pub mod Ports
pub mod OwnerLaws
pub mod MatchLaws
pub mod CallLaws
pub mod Table
