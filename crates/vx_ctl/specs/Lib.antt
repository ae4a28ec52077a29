pub mod Answers
pub mod Firing
