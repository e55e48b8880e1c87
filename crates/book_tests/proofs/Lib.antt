pub mod DataTests
pub mod GrantTests
