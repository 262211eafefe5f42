pub mod Cursor
pub mod MatrixRecord
pub mod Record
