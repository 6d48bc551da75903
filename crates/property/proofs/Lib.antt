pub mod Known
pub mod Held
pub mod Trees
