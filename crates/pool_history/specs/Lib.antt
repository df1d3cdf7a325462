pub mod Choices
pub mod Consistency
pub mod Histories
pub mod Images
pub mod Laws
pub mod Layouts
pub mod Transitions
