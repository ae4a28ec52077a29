pub mod Few
pub mod Lists
pub mod Sound
