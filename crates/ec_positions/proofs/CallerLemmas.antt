-- What layers above cite.
pub use Rattle.ec_positions.proofs.WindowLemmas.{part_list, window_is}
pub use Rattle.ec_positions.proofs.UsageLemmas.{len-shard_of, usage-shard_of}
pub use Rattle.ec_positions.proofs.RefusalLemmas.{refusal_is, usage_after, no_usage, full_count, full_usage, full_accepted}
