pub mod Bitwise
pub mod Sets
pub mod Counted
