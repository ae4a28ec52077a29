pub mod Cancelled
pub mod Entering
pub mod Freed
pub mod Left
pub mod Modes
pub mod Shelf
pub mod Standing
