pub mod Behind
pub mod Escapes
