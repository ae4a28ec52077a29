pub mod Computed
pub mod Filled
pub mod KeptStmts
pub mod KeptTerms
pub mod Mixed
pub mod Packed
pub mod Steps
