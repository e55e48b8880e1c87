pub mod PortWalk
pub mod ServiceTests
