pub mod Laws
pub mod Sound
pub mod States
pub mod Steps
