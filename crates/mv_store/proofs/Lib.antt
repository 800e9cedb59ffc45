pub mod AnswerLaws
pub mod StoredLaws
