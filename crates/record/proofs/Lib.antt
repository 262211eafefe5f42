pub mod Walk
pub mod Accepted
pub mod Answers
pub mod Early
pub mod SoundFits
pub mod Whole
