pub mod Any
pub mod Blocks
pub mod Leases
pub mod Lined
pub mod Units
