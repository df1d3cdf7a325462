use Rattle.std.proofs.Common.{◌∙◌, ℕ, List, set, get_or, inl, inr, sym, ap, replicate}
use Rattle.std.proofs.lemmas.Bool.{cases_eq}
use Rattle.std.proofs.lemmas.List.{get_or-set_same, get_or-set_other, get_or-replicate}
use Rattle.ec_model.specs.Rows.{unit_entry}
use Rattle.stripe_map.proofs.MadeLemmas.{unit_self, unit_other}
use Rattle.stripe_map.proofs.combining.unit_row.Goals as goal

pub returns-clause-entries : goal.returns-clause-entries
returns-clause-entries c = λ q lt.
    let p = c.args.p in
    let zeros : List ℕ = replicate 16 0 in
    elim (cases_eq q p) [
      | inl e ↦ ap (λ t. get_or (set zeros p 1) t 0) e ∙ get_or-set_same zeros p 1 0 c.requires ∙ sym (unit_self p) ∙ ap (unit_entry p) (sym e)
      | inr ne ↦ get_or-set_other zeros p q 1 0 ne ∙ get_or-replicate 16 q 0 0 lt ∙ sym (unit_other p q ne)
    ]
