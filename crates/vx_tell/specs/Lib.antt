pub mod Code
pub mod Lines
pub mod Unread
pub mod Refused
pub mod Told
pub mod Scripts
