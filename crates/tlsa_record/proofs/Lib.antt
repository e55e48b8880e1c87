pub mod DataTests
