pub mod Refusals
pub mod Recorded
pub mod Rows
