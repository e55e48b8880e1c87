pub mod RequestedNames
pub mod Requests
pub mod Table
