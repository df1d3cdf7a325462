-- What a line that is said leaves of the making of a pool.
use Rattle.std.proofs.Common.{◌≡◌, ◌≢◌, ◌⊎◌, inl, inr, ℕ, List, [], ◌∷◌, Option, subst, sym, arith}
use Rattle.std.specs.Prelude.{Result, Ok, Err}
use Rattle.std.specs.Io.KnownBytes.{Appends}
use Rattle.ec_model.specs.Codes.{CodeRows}
use Rattle.ec_code.specs.declared.profile.Profile.{Profile}
use Rattle.rig_disk.specs.Disk.{Image, Saying}
use Rattle.rig_disk.specs.During.{During}
use Rattle.rig_disk.proofs.CallerLemmas.{Appends-none}
use Rattle.rig_disk.proofs.Moments.{at_end, goes_on}
use Rattle.pool_moves.specs.Contents.{layout_of}
use Rattle.pool_moves.specs.Creating.{HasNoneOrFirst}
use Rattle.pool_moves.specs.Making.{AllAreTold, HaveNoPool}
use Rattle.pool_making.specs.Faults.{Names}
use Rattle.pool_making.specs.declared.fault.MakeFault.{MakeFault}
use Rattle.pool_making.specs.declared.fault.MakeFault.TheVariants.{Exists}
use Rattle.pool_run.specs.Texts.{OneOf}

pub not_ok : {T E : Type 0} (x : T) (e f : E) → (◌≡◌ {A = Result T E} (Ok x) (Err e)) ⊎ (◌≡◌ {A = Result T E} (Ok x) (Err f)) → ⊥
not_ok x e f (inl is) = absurd (cc)
not_ok x e f (inr is) = absurd (cc)

-- that there is a pool names no slot
pub exists_names_none : {T : Type 0} (fault : MakeFault) → fault ≡ Exists → (slot : ℕ) → Names {T = T} (Err fault) slot → ⊥
exists_names_none fault is slot (inl e) = cc
exists_names_none fault is slot (inr map) = let e = map.1 in cc

pub nothing_said : (before now : Option (List ℕ)) → now ≡ before → Appends before now []
nothing_said before now same = subst (λ (s : Option (List ℕ)). Appends before s []) (sym same) (Appends-none before)

module _ {R : Type 0} (reads : R → ℕ → ℕ → Option (List ℕ)) (clock : R → ℕ) (images : R → ℕ → Image → List ℕ → Type 0) (p : Profile) (code : CodeRows) where
  abbrev pub First : Image → List ℕ → Type 0
  First image text = HasNoneOrFirst (layout_of p code) p code.k image

  -- at each instant between the two there is no pool, or the new one whole
  abbrev pub AnyMoment : R → R → Type 0
  AnyMoment old new = AllAreTold (reads old) → HaveNoPool (images old (clock old)) → During clock images old new First

  -- there is none at the second if there is none at the first
  abbrev pub KeepsNone : R → R → Type 0
  KeepsNone old new = HaveNoPool (images old (clock old)) → HaveNoPool (images new (clock new))

  pub moments_then_said : (old mid new : R) (line : List ℕ) → AnyMoment old mid → During clock images mid new (Saying (images mid (clock mid)) line) → AnyMoment old new
  moments_then_said old mid new line first say told none =
      let run = first told none in
      goes_on clock images old mid new First (Saying (images mid (clock mid)) line) run say (λ image text is. at_end clock images old mid First run image is.before is.was)

  pub none_then_said : (old mid new : R) (line : List ℕ) → KeepsNone old mid → During clock images mid new (Saying (images mid (clock mid)) line) → KeepsNone old new
  none_then_said old mid new line kept say none image text now =
      let is = at_end clock images mid new (Saying (images mid (clock mid)) line) say image text now in
      kept none image is.before is.was

  -- the same where memory may run out before the line is said
  pub moments_then_slot : (old mid new : R) (line : List ℕ) (status : ℕ) → OneOf status (5 ∷ 9 ∷ 13 ∷ []) → AnyMoment old mid → (status ≡ 13 → new ≡ mid)
      → (status ≢ 13 → During clock images mid new (Saying (images mid (clock mid)) line)) → AnyMoment old new
  moments_then_slot old mid new line status (inl e) first same say = moments_then_said old mid new line first (say (λ f. omega (arith, e, f)))
  moments_then_slot old mid new line status (inr (inl e)) first same say = moments_then_said old mid new line first (say (λ f. omega (arith, e, f)))
  moments_then_slot old mid new line status (inr (inr (inl e))) first same say = subst (AnyMoment old) (sym (same e)) first
  moments_then_slot old mid new line status (inr (inr (inr e))) first same say = absurd e

  pub none_then_slot : (old mid new : R) (line : List ℕ) (status : ℕ) → OneOf status (5 ∷ 9 ∷ 13 ∷ []) → KeepsNone old mid → (status ≡ 13 → new ≡ mid)
      → (status ≢ 13 → During clock images mid new (Saying (images mid (clock mid)) line)) → KeepsNone old new
  none_then_slot old mid new line status (inl e) first same say = none_then_said old mid new line first (say (λ f. omega (arith, e, f)))
  none_then_slot old mid new line status (inr (inl e)) first same say = none_then_said old mid new line first (say (λ f. omega (arith, e, f)))
  none_then_slot old mid new line status (inr (inr (inl e))) first same say = subst (KeepsNone old) (sym (same e)) first
  none_then_slot old mid new line status (inr (inr (inr e))) first same say = absurd e
