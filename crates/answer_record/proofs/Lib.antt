pub mod WriteFields
pub mod AnswerLength
