pub mod Chosen
pub mod Executives
pub mod Rows
pub mod Shortest
pub mod Stopped
pub mod Summed
pub mod Told
pub mod Viewed
