pub mod FaultLemmas
pub mod ProfileLemmas
pub mod StateLemmas
pub mod StoreLemmas
