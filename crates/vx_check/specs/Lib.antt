pub mod Following
pub mod Judging
pub mod Laws
pub mod Verdict
