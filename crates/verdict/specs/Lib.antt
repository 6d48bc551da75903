pub mod Verdicts
pub mod Refusals
pub mod Counting
pub mod Asked
