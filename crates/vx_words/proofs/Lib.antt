pub mod Listed
pub mod WordExamples
