mod BodyLemmas
pub mod CallerLemmas
mod FaultLemmas
mod FrontLemmas
mod HeldLemmas
mod MadeLemmas
mod MakeLemmas
mod OneMapLemmas
mod PlainLemmas
mod RangeLemmas
mod ReadingLemmas
pub mod SoundLemmas
mod StateLemmas
mod TextLemmas
mod WorkLemmas
