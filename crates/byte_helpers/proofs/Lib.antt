pub mod SwappedBytes
pub mod PlainBytes
pub mod Accepted
pub mod CircleBytes
