pub mod Bytes
pub mod Writing
pub mod Checks
pub mod Elements
