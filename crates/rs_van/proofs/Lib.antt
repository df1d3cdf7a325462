mod AnyKLemmas
mod InterpolationLemmas
mod PolynomialLemmas
mod RootLemmas
pub mod SystematicLemmas
