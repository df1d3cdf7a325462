mod AlikeLemmas
pub mod CallerLemmas
mod ChoiceLemmas
mod DecidedLemmas
mod EligibleLemmas
mod KeptLemmas
mod LawLemmas
mod MaskLemmas
mod OrderLemmas
mod StateLemmas
mod SurveyLemmas
