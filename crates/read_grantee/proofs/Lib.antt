pub mod ValueEnd
pub mod Grantees
