pub mod Ready
pub mod Started
