mod OrderLemmas
mod SearchLemmas
pub mod SetLemmas
mod SettlingLemmas
mod TableLemmas
