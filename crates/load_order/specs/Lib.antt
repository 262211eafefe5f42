pub mod LoadOrder
pub mod Calls
pub mod OwnOrder
pub mod TieRule
pub mod Numbered
pub mod Solve
