pub mod Entries
pub mod Sizes
pub mod FirstSection
pub mod WholeFile
