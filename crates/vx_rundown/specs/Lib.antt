pub mod Leaving
pub mod Steps
