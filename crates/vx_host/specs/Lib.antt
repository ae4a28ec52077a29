pub mod Causes
pub mod Memory
pub mod Streams
