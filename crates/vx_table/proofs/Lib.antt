pub mod Back
pub mod Cuts
pub mod Laws
pub mod Steps
pub mod Texts
pub mod Calls
