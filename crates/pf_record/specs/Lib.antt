pub mod AnswerText
pub mod FieldName
pub mod Keys
pub mod Reading
pub mod Record
pub mod TranslationText
pub mod Words
