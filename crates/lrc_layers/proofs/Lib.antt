mod CheckLemmas
mod CodeLemmas
mod LayoutFaultLemmas
mod MarkLemmas
mod NumberLemmas
mod OneCodeLemmas
mod RowLemmas
mod TextLemmas
