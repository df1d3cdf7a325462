pub mod AssemblyLemmas
mod ChunkLemmas
mod DataSetLemmas
mod DecodingJoinLemmas
pub mod DecodingLemmas
pub mod DecodingMaskLemmas
mod DecodingSumLemmas
mod MadeLemmas
mod EncodingLemmas
mod SizeLemmas
mod TouchLemmas
