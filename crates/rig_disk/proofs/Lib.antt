mod AgreeLemmas
pub mod Areas
pub mod CallerLemmas
pub mod FrameLemmas
pub mod Instants
mod LogLemmas
pub mod Moments
mod PickLemmas
mod ReplayLemmas
mod RigLemmas
mod SpoilLemmas
mod TakeLemmas
