pub mod Rows
pub mod Cell
pub mod Answer
