pub mod Answering
pub mod Called
pub mod Carrying
pub mod Exploring
pub mod Lawful
pub mod Reported
