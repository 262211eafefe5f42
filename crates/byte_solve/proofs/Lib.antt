pub mod LowerRead
pub mod SolveBytes
