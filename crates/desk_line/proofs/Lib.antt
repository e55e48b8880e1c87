pub mod DeskLines
