pub mod Choice
pub mod Inner
pub mod Laws
pub mod Meanings
pub mod States
