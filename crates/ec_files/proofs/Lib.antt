pub mod BackLemmas
mod ChunkFileLemmas
mod ChunkPieceLemmas
pub mod DecodeLemmas
pub mod EncodeLemmas
mod FetchLemmas
mod FileLemmas
mod JoinLemmas
mod MapLemmas
mod OwnChunkLemmas
mod PaddedLemmas
mod PieceLemmas
mod PlanLemmas
mod PositionLemmas
pub mod QuotientLemmas
pub mod SameDecodeLemmas
pub mod SameEncodeLemmas
