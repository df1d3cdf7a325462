pub mod CallerLemmas
mod ColumnLemmas
mod CombinationLemmas
mod MatrixLemmas
pub mod SolutionLemmas
pub mod SumLaws
