pub mod Counting
pub mod Formed
pub mod Names
