pub mod HexTests
