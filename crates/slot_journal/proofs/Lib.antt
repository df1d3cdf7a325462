pub mod CallerLemmas
mod CommitLemmas
mod FrontLemmas
mod GrammarLemmas
mod HeadLemmas
mod HeaderLemmas
mod InUseLemmas
mod MakeLemmas
mod OnlyReadsLemmas
mod PieceLemmas
mod RecordLemmas
mod SpellingLemmas
mod StepLemmas
mod WorkingLemmas
