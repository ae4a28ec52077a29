pub mod Common
pub mod Flagged
pub mod Inward
pub mod Told
pub mod Ticking
