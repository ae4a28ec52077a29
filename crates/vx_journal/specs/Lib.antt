pub mod Transcript
pub mod TrailerLines
pub mod ReadJournal
pub mod SpelledJournal
pub mod RunJournal
