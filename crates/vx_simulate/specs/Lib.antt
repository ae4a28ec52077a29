pub mod Simulated
pub mod Simulating
pub mod Followed
pub mod Picking
pub mod Summed
pub mod Summing
