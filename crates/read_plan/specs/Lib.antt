pub mod Laws
pub mod Planners
pub mod Plans
pub mod Settling
