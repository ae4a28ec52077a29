pub mod Chans
