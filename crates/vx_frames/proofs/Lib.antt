pub mod Active
pub mod Reversed
