pub mod StoryLemmas
pub mod ReadingLemmas
pub mod StoreLemmas
pub mod LoadLemmas
pub mod MakeLemmas
pub mod FetchLemmas
pub mod LawLemmas
pub mod OnSlotLemmas
mod OneStoryLemmas
pub mod StayLemmas
pub mod ShortLemmas
