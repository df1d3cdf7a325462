pub mod DecodingLemmas
pub mod EncodingLemmas
pub mod PairLemmas
