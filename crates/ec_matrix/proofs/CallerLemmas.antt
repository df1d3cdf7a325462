-- What layers above cite: the laws of sums of products.
pub use Rattle.ec_matrix.proofs.SumLaws.{sum_below-same, sum_below-sum, sum_below-times, sum_below-zero, sum_below-lt, sum_below-single, sum_below-change, sum_below-front, dot_of_sum, dot_of_times, dot-lt, dot_comm, sum_dot, dot_unit, dot_front, sum_below-exchange, dot_of_combined}
pub use Rattle.ec_matrix.proofs.SolutionLemmas.{combined_product, never_both}
