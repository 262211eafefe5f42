pub mod Between
pub mod NumberOrder
