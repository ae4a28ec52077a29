pub mod Calls
pub mod Fine
pub mod Heads
pub mod Runs
