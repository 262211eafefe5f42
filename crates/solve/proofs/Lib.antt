pub mod Example
pub mod LowerRow
pub mod SolveLaws
pub mod LowerPart
pub mod FiniteRows
pub mod Accepted
pub mod Ends
