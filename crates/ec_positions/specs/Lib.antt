pub mod Commands
pub mod Laws
pub mod Objects
pub mod Positions
pub mod Refusals
pub mod Updates
pub mod Windows
