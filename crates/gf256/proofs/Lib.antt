pub mod CallerLemmas
pub mod KernelLemmas
pub mod LinearLemmas
pub mod FieldLemmas
pub mod StepLemmas
pub mod InverseLemmas
pub mod NibbleLemmas
