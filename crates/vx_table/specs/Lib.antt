pub mod Back
pub mod Cutting
pub mod Reading
pub mod Rows
pub mod Spelling
