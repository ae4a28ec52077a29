pub mod Along
pub mod Script
pub mod Small
