pub mod Words
pub mod Member
pub mod Flags
