pub mod AlikeLemmas
pub mod StripeLemmas
