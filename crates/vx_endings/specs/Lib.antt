pub mod Endings
pub mod EndsSo
pub mod Example
pub mod Explored
pub mod Interleavings
pub mod Text
pub mod Worst
pub mod Same
