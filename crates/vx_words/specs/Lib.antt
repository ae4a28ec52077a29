pub mod Words
pub mod Options
pub mod Places
pub mod Listing
pub mod Crew
