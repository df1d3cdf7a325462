mod CommandLemmas
mod CreateLemmas
mod KeptLemmas
pub mod LineLemmas
mod ListingLemmas
mod MapLemmas
pub mod OverlayLemmas
mod ProfileLemmas
mod RequestLemmas
mod RunLemmas
mod ServeLemmas
mod StatusLemmas
mod StoredLemmas
mod WordLemmas
