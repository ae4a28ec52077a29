pub mod Mix
pub mod Trimmed
