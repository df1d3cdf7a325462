-- What layers above cite.
pub use Rattle.auth_log.proofs.SurveyLemmas.{some_survey}
pub use Rattle.auth_log.proofs.LawLemmas.{one_survey, no_older_epoch, greater_is_sufficient, decides_more, same_mask, blocked_not_sufficient, one_blocked, one_state}
pub use Rattle.auth_log.proofs.DecidedLemmas.{all_decided}
pub use Rattle.auth_log.proofs.EligibleLemmas.{slot_added, slot_left}
pub use Rattle.auth_log.proofs.MaskLemmas.{has_both, both_below, one_counted, few_counted}
pub use Rattle.auth_log.proofs.StateLemmas.{joined_set, some_state}
pub use Rattle.auth_log.proofs.AlikeLemmas.{choose_alike}
pub use Rattle.auth_log.proofs.KeptLemmas.{alive_among}
