pub mod Boxes
pub mod Digest
pub mod Heads
pub mod Places
