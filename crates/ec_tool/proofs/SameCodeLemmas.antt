-- An accepted profile has one code.
use Rattle.std.proofs.Common.{◌≡◌, ◌⊎◌, ◌+◌, ◌-◌, ◌<◌, ◌≤◌, ◌^◌, ℕ, Bool, true, false, Option, Some, bit_xor, sym, subst, ◌∙◌, arith, inl, inr}
use Rattle.std.proofs.Math.Nat.{eq-zero-or-pos}
use Rattle.std.proofs.lemmas.Bool.{cases_eq, cases_lt}
use Rattle.std.proofs.lemmas.Nat.{xor_lt}
use Rattle.ec_model.specs.Codes.{CodeRows}
use Rattle.ec_model.specs.Field.{field_product}
use Rattle.ec_model.specs.Lrc.{IsLrc, mapping_of, layers_of, position_count}
use Rattle.ec_model.specs.ReedSolVan.{IsCodingEntry, IsReedSolVan}
use Rattle.ec_model.specs.Rows.{entry_at}
use Rattle.ec_model.specs.Shec.{IsLeftOut, IsShecEntry, IsShec}
use Rattle.ec_code.specs.Bounds.{Given}
use Rattle.ec_code.specs.LrcFaults.{mapping_text, layer_texts, has_number, HasFaultBy, IsCodeBy}
use Rattle.ec_code.specs.Refusals.{HasFaultOf, IsPluginsCode}
use Rattle.ec_code.specs.declared.fault.ProfileFault.{ProfileFault}
use Rattle.ec_code.specs.declared.fault.ProfileFault.TheVariants as fault
use Rattle.ec_code.specs.declared.profile.Plugin.{Plugin}
use Rattle.ec_code.specs.declared.profile.Plugin.TheVariants as plugin
use Rattle.ec_code.specs.declared.profile.Profile.{Profile}
use Rattle.ec_code.proofs.LayoutLemmas.{data_of_made, length_of_made, length_of_text, counted, lrc_coding}
use Rattle.gf256.proofs.CallerLemmas.{field_product-lt}
use Rattle.lrc_layers.specs.Laws.{AreAlike, LayersHaveOneCode}
use Rattle.ec_tool.specs.Laws.{CodesAreOne}
use Rattle.ec_files.proofs.QuotientLemmas.{equal_from_sum, one_quotient, product_some}

-- ---- the entries of coding rows

-- a coding entry is one number
one_entry : (k m r j e f : ℕ) → k + m ≤ 16 → r < m → j < k → IsCodingEntry k m r j e → IsCodingEntry k m r j f → e ≡ f
one_entry k m r j e f few lr lj one other = elim (eq-zero-or-pos r) [
  | inl first ↦ one.first first ∙ sym (other.first first)
  | inr later ↦ elim (last_or_not r m lr) [
    | inl last ↦
        one_quotient e f k (λ z. omega (arith, z, lj)) (omega (arith, few)) (one.last later last).byte (other.last later last).byte
        ((one.last later last).quotient ∙ sym (other.last later last).quotient)
    | inr between ↦
        one_quotient e f (field_product k (bit_xor (k + r) j))
        (product_some k (bit_xor (k + r) j) (λ z. omega (arith, z, lj)) (λ z. (let s = equal_from_sum (k + r) j z in omega (arith, s, lj))) (omega (arith, few)) (sum_small (omega (arith, few, lr)) (omega (arith, few, lj))))
        (field_product-lt k (bit_xor (k + r) j)) (one.between later between).byte (other.between later between).byte
        ((one.between later between).quotient ∙ sym (other.between later between).quotient)
  ]
] where
  last_or_not : (r m : ℕ) → r < m → (r + 1 ≡ m) ⊎ (r + 1 < m)
  last_or_not r m lt = grind arith

  sum_small : k + r < 2 ^ 8 → j < 2 ^ 8 → bit_xor (k + r) j < 2 ^ 8
  sum_small a b = xor_lt 8 (k + r) j a b

one_shec_entry : (k m c r j e f : ℕ) → k + m ≤ 16 → r < m → j < k → IsShecEntry k m c r j e → IsShecEntry k m c r j f → e ≡ f
one_shec_entry k m c r j e f few lr lj one other = elim (cases_eq e f) [
  | inl same ↦ same
  | inr differ ↦
      let inside : IsLeftOut k m c r j → ⊥ = λ out. differ (one.left_out out ∙ sym (other.left_out out)) in
      absurd (differ (one_entry k m r j e f few lr lj (one.others inside) (other.others inside)))
]

-- ---- the codes of the plugins

one_reed_sol_van : (k m : ℕ) (one other : CodeRows) → k + m ≤ 16 → IsReedSolVan k m one → IsReedSolVan k m other → AreAlike one other
one_reed_sol_van k m one other few a b = record {
  data_chunks = a.data_chunks ∙ sym b.data_chunks;
  positions = a.positions ∙ sym b.positions;
  divisor = a.divisor ∙ sym b.divisor;
  rows = λ p j lp lj.
      let inside : j < k = omega (arith, lj, a.data_chunks) in
      elim (cases_lt p k) [
        | inl is_data ↦ a.units p j is_data inside ∙ sym (b.units p j is_data inside)
        | inr coding ↦
            let at : k + (p - k) ≡ p = omega (arith, coding) in
            let short : p - k < m = omega (arith, lp, a.positions, coding) in
            subst (λ (q : ℕ). entry_at one.rows q j ≡ entry_at other.rows q j) at
            (one_entry k m (p - k) j (entry_at one.rows (k + (p - k)) j) (entry_at other.rows (k + (p - k)) j) few short inside (a.coding (p - k) j short inside) (b.coding (p - k) j short inside))
      ];
  places = λ j lj. let inside : j < k = omega (arith, lj, a.data_chunks) in a.places j inside ∙ sym (b.places j inside);
}

one_shec : (k m c : ℕ) (one other : CodeRows) → k + m ≤ 16 → IsShec k m c one → IsShec k m c other → AreAlike one other
one_shec k m c one other few a b = record {
  data_chunks = a.data_chunks ∙ sym b.data_chunks;
  positions = a.positions ∙ sym b.positions;
  divisor = a.divisor ∙ sym b.divisor;
  rows = λ p j lp lj.
      let inside : j < k = omega (arith, lj, a.data_chunks) in
      elim (cases_lt p k) [
        | inl is_data ↦ a.units p j is_data inside ∙ sym (b.units p j is_data inside)
        | inr coding ↦
            let at : k + (p - k) ≡ p = omega (arith, coding) in
            let short : p - k < m = omega (arith, lp, a.positions, coding) in
            subst (λ (q : ℕ). entry_at one.rows q j ≡ entry_at other.rows q j) at
            (one_shec_entry k m c (p - k) j (entry_at one.rows (k + (p - k)) j) (entry_at other.rows (k + (p - k)) j) few short inside (a.coding (p - k) j short inside) (b.coding (p - k) j short inside))
      ];
  places = λ j lj. let inside : j < k = omega (arith, lj, a.data_chunks) in a.places j inside ∙ sym (b.places j inside);
}

some_same : {A : Type 0} (a b : A) → Some a ≡ Some b → a ≡ b
some_same a b e = cc

-- what two facts say of one setting they say of one value
both_given : {A : Type 0} (setting : Option A) (P Q : A → Type 0) → Given setting P → Given setting Q → (value : A) × (setting ≡ Some value) × P value × Q value
both_given {A} setting P Q (v, e, p) (w, f, q) = (v, e, p, subst Q (some_same w v (sym f ∙ e)) q)

at_most : (n most : ℕ) → (most < n → ⊥) → n ≤ most
at_most n most never = elim (cases_lt most n) [ inl more ↦ absurd (never more) | inr le ↦ le ]

one_by_numbers : LayersHaveOneCode → (p : Profile) (one other : CodeRows) → ((f : ProfileFault) → HasFaultBy true p f → ⊥) → one.k < one.n → IsCodeBy true p one → IsCodeBy true p other
    → AreAlike one other
one_by_numbers law p one other ok coding a b =
    let (k, ek, ak, bk) = both_given p.k (λ k. Given p.m (λ m. Given p.l (λ l. IsLrc (mapping_of k m l) (layers_of k m l) one))) (λ k. Given p.m (λ m. Given p.l (λ l. IsLrc (mapping_of k m l) (layers_of k m l) other))) a b in
    let (m, em, am, bm) = both_given p.m (λ m. Given p.l (λ l. IsLrc (mapping_of k m l) (layers_of k m l) one)) (λ m. Given p.l (λ l. IsLrc (mapping_of k m l) (layers_of k m l) other)) ak bk in
    let (l, el, al, bl) = both_given p.l (λ l. IsLrc (mapping_of k m l) (layers_of k m l) one) (λ l. IsLrc (mapping_of k m l) (layers_of k m l) other) am bm in
    let some : 1 ≤ k = at_most 1 k (λ none. ok fault.SmallK (k, ek, none)) in
    let groups : 0 < l = elim (eq-zero-or-pos l) [ inl z ↦ absurd (ok fault.Divides (k, ek, (m, em, (l, el, inl z)))) | inr pos ↦ pos ] in
    let few = at_most (position_count k m l) 16 (λ many. ok fault.TooMany (k, ek, (m, em, (l, el, (groups, many))))) in
    law (mapping_of k m l) (layers_of k m l) one other (record {
      whole = record {
        few = omega (arith, few, length_of_made k m l);
        some_data = omega (arith, some, data_of_made k m l some (λ uneven. ok fault.Divides (k, ek, (m, em, (l, el, uneven)))));
        some_coding = omega (arith, coding, al.data_chunks, al.positions);
      };
      lengths = λ wrong. ok fault.LayerLength (k, ek, (m, em, (l, el, wrong)));
      inputs = λ wrong. ok fault.LayerInput (k, ek, (m, em, (l, el, wrong)));
      outputs = λ wrong. ok fault.LayerOutput (k, ek, (m, em, (l, el, wrong)));
    }) al bl

one_by_texts : LayersHaveOneCode → (p : Profile) (one other : CodeRows) → ((f : ProfileFault) → HasFaultBy false p f → ⊥) → one.k < one.n → IsCodeBy false p one → IsCodeBy false p other
    → AreAlike one other
one_by_texts law p one other ok coding a b =
    let (mapping, em, am, bm) = both_given p.mapping (λ mapping. Given p.layers (λ layers. IsLrc (mapping_text mapping) (layer_texts layers) one)) (λ mapping. Given p.layers (λ layers. IsLrc (mapping_text mapping) (layer_texts layers) other)) a b in
    let (layers, el, al, bl) = both_given p.layers (λ layers. IsLrc (mapping_text mapping) (layer_texts layers) one) (λ layers. IsLrc (mapping_text mapping) (layer_texts layers) other) am bm in
    let few = at_most mapping.len 16 (λ many. ok fault.TooMany (mapping, em, many)) in
    law (mapping_text mapping) (layer_texts layers) one other (record {
      whole = record {
        few = omega (arith, few, length_of_text mapping.first mapping.len);
        some_data = omega (arith, counted mapping few, at_most 1 _ (λ none. ok fault.SmallK (mapping, em, none)));
        some_coding = omega (arith, coding, al.data_chunks, al.positions);
      };
      lengths = λ wrong. ok fault.LayerLength (mapping, em, (layers, el, wrong));
      inputs = λ wrong. ok fault.LayerInput (mapping, em, (layers, el, wrong));
      outputs = λ wrong. ok fault.LayerOutput (mapping, em, (layers, el, wrong));
    }) al bl

one_lrc : LayersHaveOneCode → (by : Bool) (p : Profile) (one other : CodeRows) → ((f : ProfileFault) → HasFaultBy by p f → ⊥) → one.k < one.n → IsCodeBy by p one → IsCodeBy by p other
    → AreAlike one other
one_lrc law true p one other ok coding a b = one_by_numbers law p one other ok coding a b
one_lrc law false p one other ok coding a b = one_by_texts law p one other ok coding a b

one_by_plugin : LayersHaveOneCode → (x : Plugin) (p : Profile) (one other : CodeRows) → ((f : ProfileFault) → HasFaultOf x p f → ⊥) → IsPluginsCode x p one → IsPluginsCode x p other
    → AreAlike one other
one_by_plugin law plugin.Jerasure p one other ok a b =
    let (k, ek, ak, bk) = both_given p.k (λ k. Given p.m (λ m. IsReedSolVan k m one)) (λ k. Given p.m (λ m. IsReedSolVan k m other)) a b in
    let (m, em, am, bm) = both_given p.m (λ m. IsReedSolVan k m one) (λ m. IsReedSolVan k m other) ak bk in
    one_reed_sol_van k m one other (at_most (k + m) 16 (λ many. ok fault.TooMany (k, ek, (m, em, many)))) am bm
one_by_plugin law plugin.Lrc p one other ok a b = one_lrc law (has_number p) p one other ok (lrc_coding p one ok a) a b
one_by_plugin law plugin.Shec p one other ok a b =
    let (k, ek, ak, bk) = both_given p.k (λ k. Given p.m (λ m. Given p.c (λ c. IsShec k m c one))) (λ k. Given p.m (λ m. Given p.c (λ c. IsShec k m c other))) a b in
    let (m, em, am, bm) = both_given p.m (λ m. Given p.c (λ c. IsShec k m c one)) (λ m. Given p.c (λ c. IsShec k m c other)) ak bk in
    let (c, ec, ac, bc) = both_given p.c (λ c. IsShec k m c one) (λ c. IsShec k m c other) am bm in
    one_shec k m c one other (at_most (k + m) 16 (λ many. ok fault.TooMany (k, ek, (m, em, inl many)))) ac bc

pub codes_one : LayersHaveOneCode → CodesAreOne
codes_one law p one other ok a b = one_by_plugin law p.plugin p one other ok a b
