pub mod CallerLemmas
pub mod CanonicalLemmas
pub mod OpeningLemmas
mod PrintLemmas
pub mod PushLemmas
pub mod WritableLemmas
