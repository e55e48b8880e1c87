pub mod Places
pub mod DottedLabels
