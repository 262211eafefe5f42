pub mod Matrix
pub mod Table
pub mod Swap
pub mod Search
pub mod Eigenvalues
pub mod Plain
pub mod Checks
pub mod Calls
