pub mod AliasHeads
pub mod TouchLaws
