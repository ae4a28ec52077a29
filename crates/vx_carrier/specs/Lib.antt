pub mod Desk
pub mod Pool
pub mod Turns
