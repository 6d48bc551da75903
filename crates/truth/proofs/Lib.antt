pub mod Conditions
pub mod Places
pub mod Letters
