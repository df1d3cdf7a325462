pub mod Faults
pub mod Pools
pub mod States
