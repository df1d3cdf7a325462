pub mod LastLemmas
pub mod KeptLemmas
pub mod PositionLemmas
pub mod ReplayLemmas
pub mod SoundLemmas
