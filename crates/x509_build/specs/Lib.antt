pub mod Links
pub mod Pools
pub mod Builds
pub mod Runs
