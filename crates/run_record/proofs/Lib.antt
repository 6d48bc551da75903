pub mod Tally
pub mod Pushes
