pub mod AgainLemmas
mod ChoosingLemmas
mod DecidingLemmas
mod EncodeLemmas
pub mod GivenLemmas
pub mod KeptLemmas
pub mod LayerJsonLemmas
pub mod LayerTextLemmas
pub mod LayerValueLemmas
pub mod LayoutAgainLemmas
pub mod LayoutLemmas
pub mod LineLemmas
pub mod LrcAgainLemmas
pub mod LrcRefusalLemmas
pub mod ReadingLemmas
pub mod RefusalLemmas
pub mod ShecAgainLemmas
pub mod ShecLemmas
pub mod TableLemmas
pub mod WrittenLemmas
