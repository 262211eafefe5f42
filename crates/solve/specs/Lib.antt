pub mod Checks
pub mod Substitution
pub mod LowerPart
pub mod Accepted
pub mod Example
