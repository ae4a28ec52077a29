pub mod Digest
pub mod Places
pub mod Requests
pub mod Slots
pub mod Sought
