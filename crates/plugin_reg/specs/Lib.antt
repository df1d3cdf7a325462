pub mod Boxes
pub mod Canonical
pub mod Laws
pub mod Opening
pub mod Picks
