pub mod Carried
pub mod Explored
pub mod Reported
pub mod Shown
pub mod Threads
pub mod Top
