pub mod Held
pub mod Law
pub mod Example
