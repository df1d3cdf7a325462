pub mod CallerLemmas
mod EntryLemmas
mod FailureLemmas
pub mod GrammarLemmas
mod ItemLemmas
mod PieceLemmas
mod SaidLemmas
mod ShowLemmas
mod ToldLemmas
mod TryLemmas
