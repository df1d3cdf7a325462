pub mod FirstLemmas
pub mod MoveLemmas
