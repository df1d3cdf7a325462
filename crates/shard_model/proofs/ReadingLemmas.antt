-- Readers read what their bytes spell.
pub use Rattle.ec_words.proofs.ReaderLemmas.{same_read, not_read, rest_bytes, parts, on, both_reading, counted_reading, with_has, byte_reading, list_reading, u32_reading, u64_reading, counted_list, mapped_reads, version_reading}
