pub mod Asking
pub mod Boxes
pub mod Cancelling
pub mod Finishing
pub mod Moving
pub mod Rooms
pub mod Steady
