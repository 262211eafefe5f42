pub mod Field
pub mod AnswerRecord
pub mod Writing
