pub mod Clusters
pub mod Sound
