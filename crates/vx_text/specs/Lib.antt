pub mod Bytes
pub mod First
pub mod Lex
pub mod Lines
pub mod Quote
pub mod Quoted
