pub mod Columns
pub mod Lines
pub mod Matrix
pub mod Solution
