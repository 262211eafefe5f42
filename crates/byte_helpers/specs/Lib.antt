pub mod Helpers
