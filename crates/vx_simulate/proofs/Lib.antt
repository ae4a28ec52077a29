pub mod ChosenRuns
pub mod Simulated
pub mod Following
pub mod Picking
pub mod Summing
