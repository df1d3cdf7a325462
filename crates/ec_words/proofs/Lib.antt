pub mod CallerLemmas
mod FieldLemmas
mod HexTextLemmas
mod IntervalLemmas
mod MaskLemmas
mod NumberLemmas
pub mod ReaderLemmas
pub mod SetLemmas
