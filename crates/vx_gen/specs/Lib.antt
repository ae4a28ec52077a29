pub mod Counted
pub mod Generated
