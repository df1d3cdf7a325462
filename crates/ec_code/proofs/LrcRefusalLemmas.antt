-- The first fault of a profile of the plugin lrc, one after another.
use Rattle.std.proofs.Common.{◌≡◌, ◌⊎◌, ℕ, List, [], ◌∷◌, ◌<◌, Some, None, ◌≤◌, Bool, true, false, length, refl, ap, sym, ◌∙◌, subst, arith, inl, inr}
use Rattle.std.specs.Prelude.{codes, is_some, ◌||◌}
use Rattle.std.specs.declared.option.Option.{Option}
use Rattle.ec_model.specs.Codes.{CodeRows}
use Rattle.ec_model.specs.Lrc.{IsLrc, data_count, HasLengthFault, HasInputFault, HasOutputFault, HasManyPositions, HasUnevenGroups, MakesGroups, mapping_of, layers_of}
use Rattle.ec_code.specs.declared.mapping.Mapping.{Mapping}
use Rattle.ec_code.specs.declared.mapping.Layers.{Layers}
use Rattle.ec_code.specs.declared.profile.Plugin.{Plugin}
use Rattle.ec_code.specs.declared.profile.Plugin.TheVariants as plugin
use Rattle.ec_code.specs.declared.profile.Profile.{Profile}
use Rattle.ec_code.specs.declared.fault.ProfileFault.{ProfileFault}
use Rattle.ec_code.specs.declared.fault.ProfileFault.TheVariants as fault
use Rattle.ec_code.specs.declared.fault.Key.TheVariants as key
use Rattle.ec_code.specs.Bounds.{Given, IsUnit}
use Rattle.ec_code.specs.Profiles.{name_of}
use Rattle.ec_code.specs.LrcFaults.{mapping_text, layer_texts, data_chunks_of, HasLayoutFault, GivenNumbers, GivenTexts, HasNumbersFault, HasWrittenFault, HasFaultBy, has_number, IsCodeBy, IsLrcsCode}
use Rattle.ec_code.specs.Refusals.{fault_order, HasFaultOf, IsFirst, IsRefusedBy, IsAccepted, IsPluginsCode, IsCodeOf, KeepsPromise}

-- a setting that is given
abbrev IsValue : {A : Type 0} → A → Option A → Type 0
IsValue {A} value (Some other) = value ≡ other
IsValue {A} value None = ⊥

pub same_value : {A : Type 0} (setting : Option A) (value other : A) → setting ≡ Some value → setting ≡ Some other → value ≡ other
same_value {A} setting value other e f = subst (IsValue value) (sym e ∙ f) refl

given : {A : Type 0} (setting : Option A) (value : A) → setting ≡ Some value → setting ≡ None → ⊥
given {A} setting value e f = subst (IsValue value) (sym e ∙ f) refl

-- the faults from the counts on, and from the layers on
abbrev late_faults : List ProfileFault
late_faults = fault.SmallK ∷ fault.SmallM ∷ fault.TooMany ∷ fault.Divides ∷ fault.LayerLength ∷ fault.LayerInput ∷ fault.LayerOutput ∷ fault.Unit
    ∷ fault.MinSize ∷ fault.Order ∷ []

abbrev layout_faults : List ProfileFault
layout_faults = fault.LayerLength ∷ fault.LayerInput ∷ fault.LayerOutput ∷ fault.Unit ∷ fault.MinSize ∷ fault.Order ∷ []

-- where the same is wrong, the first fault is the same
first_same : (has other : ProfileFault → Type 0) (order : List ProfileFault) (f : ProfileFault) → ((g : ProfileFault) → has g → other g)
    → ((g : ProfileFault) → other g → has g) → IsFirst has order f → IsFirst other order f
first_same has other [] f to from is = is
first_same has other (g ∷ order) f to from (inl is) = inl (to g is.0, is.1)
first_same has other (g ∷ order) f to from (inr is) = inr (λ h. is.0 (from g h), first_same has other order f to from is.1)

-- no fault of a layout lies before those of layers
from_layers : (mapping : List ℕ) (layers : List (List ℕ)) (unit : ℕ) (least : Option ℕ) (f : ProfileFault)
    → IsFirst (HasLayoutFault mapping layers unit least) layout_faults f → IsFirst (HasLayoutFault mapping layers unit least) fault_order f
from_layers mapping layers unit least f is =
    inr (
      λ x. x,
      inr (
        λ x. x,
        inr (
          λ x. x,
          inr (
            λ x. x,
            inr (
              λ x. x,
              inr (
                λ x. x,
                inr (
                  λ x. x,
                  inr (
                    λ x. x,
                    inr (
                      λ x. x,
                      inr (
                        λ x. x,
                        inr (λ x. x, inr (λ x. x, inr (λ x. x, inr (λ x. x, is)))),
                      ),
                    ),
                  ),
                ),
              ),
            ),
          ),
        ),
      ),
    )

pub length_first : (mapping : List ℕ) (layers : List (List ℕ)) (unit : ℕ) (least : Option ℕ) → HasLengthFault mapping layers
    → IsFirst (HasLayoutFault mapping layers unit least) fault_order fault.LayerLength
length_first mapping layers unit least is = from_layers mapping layers unit least fault.LayerLength (inl (is, refl))

pub input_first : (mapping : List ℕ) (layers : List (List ℕ)) (unit : ℕ) (least : Option ℕ) → (HasLengthFault mapping layers → ⊥) → HasInputFault mapping layers
    → IsFirst (HasLayoutFault mapping layers unit least) fault_order fault.LayerInput
input_first mapping layers unit least a is = from_layers mapping layers unit least fault.LayerInput (inr (a, inl (is, refl)))

pub output_first : (mapping : List ℕ) (layers : List (List ℕ)) (unit : ℕ) (least : Option ℕ) → (HasLengthFault mapping layers → ⊥) → (HasInputFault mapping layers → ⊥)
    → HasOutputFault mapping layers → IsFirst (HasLayoutFault mapping layers unit least) fault_order fault.LayerOutput
output_first mapping layers unit least a b is = from_layers mapping layers unit least fault.LayerOutput (inr (a, inr (b, inl (is, refl))))

-- nothing is wrong with some layers
pub record PassesLayers (mapping : List ℕ) (layers : List (List ℕ)) : Type 0 where
  pub lengths : HasLengthFault mapping layers → ⊥
  pub inputs : HasInputFault mapping layers → ⊥
  pub outputs : HasOutputFault mapping layers → ⊥

pub unit_of_layout_first : (mapping : List ℕ) (layers : List (List ℕ)) (unit : ℕ) (least : Option ℕ) → PassesLayers mapping layers → (IsUnit unit → ⊥)
    → IsFirst (HasLayoutFault mapping layers unit least) fault_order fault.Unit
unit_of_layout_first mapping layers unit least h is = from_layers mapping layers unit least fault.Unit (inr (h.lengths, inr (h.inputs, inr (h.outputs, inl (is, refl)))))

pub least_of_layout_first : (mapping : List ℕ) (layers : List (List ℕ)) (unit : ℕ) (least : Option ℕ) → PassesLayers mapping layers → IsUnit unit
    → Given least (λ least. (least < data_count mapping) ⊎ (length mapping < least)) → IsFirst (HasLayoutFault mapping layers unit least) fault_order fault.MinSize
least_of_layout_first mapping layers unit least h u is =
    from_layers mapping layers unit least fault.MinSize (inr (h.lengths, inr (h.inputs, inr (h.outputs, inr (λ other. other u, inl (is, refl))))))

pub layout_accepted : (mapping : List ℕ) (layers : List (List ℕ)) (unit : ℕ) (least : Option ℕ) → PassesLayers mapping layers → IsUnit unit
    → (Given least (λ least. (least < data_count mapping) ⊎ (length mapping < least)) → ⊥) → (f : ProfileFault) → HasLayoutFault mapping layers unit least f → ⊥
layout_accepted mapping layers unit least h u g fault.UnknownPlugin is = is
layout_accepted mapping layers unit least h u g (fault.UnknownKey name) is = is
layout_accepted mapping layers unit least h u g (fault.BadValue name) is = is
layout_accepted mapping layers unit least h u g (fault.Missing key.K) is = is
layout_accepted mapping layers unit least h u g (fault.Missing key.M) is = is
layout_accepted mapping layers unit least h u g (fault.Missing key.C) is = is
layout_accepted mapping layers unit least h u g (fault.Missing key.L) is = is
layout_accepted mapping layers unit least h u g (fault.Missing key.Technique) is = is
layout_accepted mapping layers unit least h u g (fault.Missing key.Mapping) is = is
layout_accepted mapping layers unit least h u g (fault.Missing key.Layers) is = is
layout_accepted mapping layers unit least h u g fault.Technique is = is
layout_accepted mapping layers unit least h u g fault.Width is = is
layout_accepted mapping layers unit least h u g fault.SmallK is = is
layout_accepted mapping layers unit least h u g fault.SmallM is = is
layout_accepted mapping layers unit least h u g fault.TooMany is = is
layout_accepted mapping layers unit least h u g fault.Divides is = is
layout_accepted mapping layers unit least h u g fault.LayerLength is = h.lengths is
layout_accepted mapping layers unit least h u g fault.LayerInput is = h.inputs is
layout_accepted mapping layers unit least h u g fault.LayerOutput is = h.outputs is
layout_accepted mapping layers unit least h u g fault.Unit is = is u
layout_accepted mapping layers unit least h u g fault.MinSize is = g is
layout_accepted mapping layers unit least h u g fault.Order is = is
layout_accepted mapping layers unit least h u g fault.Json is = is
layout_accepted mapping layers unit least h u g fault.Setting is = is

pub layout_passes : (mapping : List ℕ) (layers : List (List ℕ)) (unit : ℕ) (least : Option ℕ) → ((f : ProfileFault) → HasLayoutFault mapping layers unit least f → ⊥)
    → PassesLayers mapping layers
layout_passes mapping layers unit least none = record { lengths = none fault.LayerLength; inputs = none fault.LayerInput; outputs = none fault.LayerOutput }

-- of texts that are the same
pub first_of_texts : (one other : List ℕ) (some others : List (List ℕ)) (unit : ℕ) (least : Option ℕ) (f : ProfileFault) → one ≡ other → some ≡ others
    → IsFirst (HasLayoutFault one some unit least) fault_order f → IsFirst (HasLayoutFault other others unit least) fault_order f
first_of_texts one other some others unit least f e d is =
    subst (λ t. IsFirst (HasLayoutFault other t unit least) fault_order f) d (subst (λ t. IsFirst (HasLayoutFault t some unit least) fault_order f) e is)

pub none_of_texts : (one other : List ℕ) (some others : List (List ℕ)) (unit : ℕ) (least : Option ℕ) → one ≡ other → some ≡ others
    → ((f : ProfileFault) → HasLayoutFault one some unit least f → ⊥) → (f : ProfileFault) → HasLayoutFault other others unit least f → ⊥
none_of_texts one other some others unit least e d none =
    subst (λ t. (f : ProfileFault) → HasLayoutFault other t unit least f → ⊥) d (subst (λ t. (f : ProfileFault) → HasLayoutFault t some unit least f → ⊥) e none)

-- what is known of a profile whose k, m and l are given
pub record HasKml (p : Profile) (k m l : ℕ) : Type 0 where
  pub of_lrc : p.plugin ≡ plugin.Lrc
  pub first : p.k ≡ Some k
  pub second : p.m ≡ Some m
  pub third : p.l ≡ Some l

kml_given : (p : Profile) (k m l : ℕ) (P : ℕ → ℕ → ℕ → Type 0) → HasKml p k m l → GivenNumbers p P → P k m l
kml_given p k m l P h (k', ek, (m', em, (l', el, is))) =
    subst (λ t. P t m l) (same_value p.k k' k ek h.first) (subst (λ t. P k' t l) (same_value p.m m' m em h.second) (subst (λ t. P k' m' t) (same_value p.l l' l el h.third) is))

give_kml : (p : Profile) (k m l : ℕ) (P : ℕ → ℕ → ℕ → Type 0) → HasKml p k m l → P k m l → GivenNumbers p P
give_kml p k m l P h is = (k, h.first, (m, h.second, (l, h.third, is)))

-- the faults of a profile with one of k, m and l are those of its numbers, and those of another are those of its texts
refused_by_case : (p : Profile) (f : ProfileFault) (b : Bool) → p.plugin ≡ plugin.Lrc → has_number p ≡ b → IsFirst (HasFaultBy b p) fault_order f → IsRefusedBy p f
refused_by_case p f b e case is =
    let P : Plugin → Type 0 = λ q. IsFirst (HasFaultOf q p) fault_order f in
    subst P (sym e) (let Q : Bool → Type 0 = λ b. IsFirst (HasFaultBy b p) fault_order f in subst Q (sym case) is)

accepted_by_case : (p : Profile) (b : Bool) → p.plugin ≡ plugin.Lrc → has_number p ≡ b → ((f : ProfileFault) → HasFaultBy b p f → ⊥) → IsAccepted p
accepted_by_case p b e case ok =
    let P : Plugin → Type 0 = λ q. (f : ProfileFault) → HasFaultOf q p f → ⊥ in
    subst P (sym e) (let Q : Bool → Type 0 = λ b. (f : ProfileFault) → HasFaultBy b p f → ⊥ in subst Q (sym case) ok)

pub missing_k_first : (p : Profile) → p.plugin ≡ plugin.Lrc → has_number p ≡ true → p.k ≡ None → IsRefusedBy p (fault.Missing key.K)
missing_k_first p e b none = refused_by_case p (fault.Missing key.K) true e b (inr (λ x. x, inr (λ x. x, inl (none, refl))))

pub missing_l_first : (p : Profile) (k : ℕ) → p.plugin ≡ plugin.Lrc → has_number p ≡ true → p.k ≡ Some k → p.l ≡ None → IsRefusedBy p (fault.Missing key.L)
missing_l_first p k e b ek none =
    refused_by_case p (fault.Missing key.L) true e b (inr (λ x. x, inr (λ x. x, inr (given p.k k ek, inl (none, refl)))))

pub missing_m_first : (p : Profile) (k l : ℕ) → p.plugin ≡ plugin.Lrc → has_number p ≡ true → p.k ≡ Some k → p.l ≡ Some l → p.m ≡ None → IsRefusedBy p (fault.Missing key.M)
missing_m_first p k l e b ek el none =
    refused_by_case p (fault.Missing key.M) true e b (inr (λ x. x, inr (λ x. x, inr (given p.k k ek, inr (given p.l l el, inr (λ x. x, inl (none, refl)))))))

pub missing_layers_first : (p : Profile) → p.plugin ≡ plugin.Lrc → has_number p ≡ false → p.layers ≡ None → IsRefusedBy p (fault.Missing key.Layers)
missing_layers_first p e b none =
    refused_by_case p (fault.Missing key.Layers) false e b (inr (λ x. x, inr (λ x. x, inr (λ x. x, inr (λ x. x, inl (none, refl))))))

pub missing_mapping_first : (p : Profile) (layers : Layers) → p.plugin ≡ plugin.Lrc → has_number p ≡ false → p.layers ≡ Some layers → p.mapping ≡ None
    → IsRefusedBy p (fault.Missing key.Mapping)
missing_mapping_first p layers e b el none =
    refused_by_case p (fault.Missing key.Mapping) false e b
    (inr (λ x. x, inr (λ x. x, inr (λ x. x, inr (λ x. x, inr (given p.layers layers el, inr (λ x. x, inl (none, refl))))))))

pub some_number : (p : Profile) (k : ℕ) → p.k ≡ Some k → has_number p ≡ true
some_number p k e = subst (λ t. (is_some t || (is_some p.m || is_some p.l)) ≡ true) (sym e) refl

-- past the missing keys
numbers_late : (p : Profile) (f : ProfileFault) (k m l : ℕ) → HasKml p k m l → IsFirst (HasNumbersFault p) late_faults f → IsRefusedBy p f
numbers_late p f k m l h late =
    refused_by_case p f true h.of_lrc (some_number p k h.first)
    (inr (
      λ x. x,
      inr (
        λ x. x,
        inr (
          given p.k k h.first,
          inr (
            given p.l l h.third,
            inr (
              λ x. x,
              inr (
                given p.m m h.second,
                inr (
                  λ x. x,
                  inr (
                    λ x. x,
                    inr (λ x. x, inr (λ x. x, late)),
                  ),
                ),
              ),
            ),
          ),
        ),
      ),
    ))

some_k : (p : Profile) (k m l : ℕ) → HasKml p k m l → 1 ≤ k → HasNumbersFault p fault.SmallK → ⊥
some_k p k m l h le is = let e = same_value p.k k is.0 h.first is.1 in omega (arith, e, is.2)

some_m : (p : Profile) (k m l : ℕ) → HasKml p k m l → 1 ≤ m → HasNumbersFault p fault.SmallM → ⊥
some_m p k m l h le is = let e = same_value p.m m is.0 h.second is.1 in omega (arith, e, is.2)

pub few_data_first : (p : Profile) (k m l : ℕ) → HasKml p k m l → k < 1 → IsRefusedBy p fault.SmallK
few_data_first p k m l h lt = numbers_late p fault.SmallK k m l h (inl ((k, h.first, lt), refl))

pub few_coding_first : (p : Profile) (k m l : ℕ) → HasKml p k m l → 1 ≤ k → m < 1 → IsRefusedBy p fault.SmallM
few_coding_first p k m l h le lt = numbers_late p fault.SmallM k m l h (inr (some_k p k m l h le, inl ((m, h.second, lt), refl)))

pub many_positions_first : (p : Profile) (k m l : ℕ) → HasKml p k m l → 1 ≤ k → 1 ≤ m → HasManyPositions k m l → IsRefusedBy p fault.TooMany
many_positions_first p k m l h lk lm many =
    numbers_late p fault.TooMany k m l h (inr (some_k p k m l h lk, inr (some_m p k m l h lm, inl (give_kml p k m l HasManyPositions h many, refl))))

pub uneven_groups_first : (p : Profile) (k m l : ℕ) → HasKml p k m l → 1 ≤ k → 1 ≤ m → (HasManyPositions k m l → ⊥) → HasUnevenGroups k m l → IsRefusedBy p fault.Divides
uneven_groups_first p k m l h lk lm few uneven =
    numbers_late p fault.Divides k m l h (inr (
      some_k p k m l h lk,
      inr (
        some_m p k m l h lm,
        inr (λ many. few (kml_given p k m l HasManyPositions h many), inl (give_kml p k m l HasUnevenGroups h uneven, refl)),
      ),
    ))

pub made_to : (p : Profile) (k m l : ℕ) → HasKml p k m l → (f : ProfileFault) → HasLayoutFault (mapping_of k m l) (layers_of k m l) p.stripe_unit p.min_size f → HasNumbersFault p f
made_to p k m l h fault.UnknownPlugin is = absurd is
made_to p k m l h (fault.UnknownKey name) is = absurd is
made_to p k m l h (fault.BadValue name) is = absurd is
made_to p k m l h (fault.Missing key.K) is = absurd is
made_to p k m l h (fault.Missing key.M) is = absurd is
made_to p k m l h (fault.Missing key.C) is = absurd is
made_to p k m l h (fault.Missing key.L) is = absurd is
made_to p k m l h (fault.Missing key.Technique) is = absurd is
made_to p k m l h (fault.Missing key.Mapping) is = absurd is
made_to p k m l h (fault.Missing key.Layers) is = absurd is
made_to p k m l h fault.Technique is = absurd is
made_to p k m l h fault.Width is = absurd is
made_to p k m l h fault.SmallK is = absurd is
made_to p k m l h fault.SmallM is = absurd is
made_to p k m l h fault.TooMany is = absurd is
made_to p k m l h fault.Divides is = absurd is
made_to p k m l h fault.LayerLength is = give_kml p k m l (λ k m l. HasLayoutFault (mapping_of k m l) (layers_of k m l) p.stripe_unit p.min_size fault.LayerLength) h is
made_to p k m l h fault.LayerInput is = give_kml p k m l (λ k m l. HasLayoutFault (mapping_of k m l) (layers_of k m l) p.stripe_unit p.min_size fault.LayerInput) h is
made_to p k m l h fault.LayerOutput is = give_kml p k m l (λ k m l. HasLayoutFault (mapping_of k m l) (layers_of k m l) p.stripe_unit p.min_size fault.LayerOutput) h is
made_to p k m l h fault.Unit is = is
made_to p k m l h fault.MinSize is = give_kml p k m l (λ k m l. HasLayoutFault (mapping_of k m l) (layers_of k m l) p.stripe_unit p.min_size fault.MinSize) h is
made_to p k m l h fault.Order is = absurd is
made_to p k m l h fault.Json is = absurd is
made_to p k m l h fault.Setting is = absurd is

made_from : (p : Profile) (k m l : ℕ) → HasKml p k m l → MakesGroups k m l → (f : ProfileFault) → HasNumbersFault p f
    → HasLayoutFault (mapping_of k m l) (layers_of k m l) p.stripe_unit p.min_size f
made_from p k m l h ok fault.UnknownPlugin is = is
made_from p k m l h ok (fault.UnknownKey name) is = is
made_from p k m l h ok (fault.BadValue name) is = is
made_from p k m l h ok (fault.Missing key.K) is = absurd (given p.k k h.first is)
made_from p k m l h ok (fault.Missing key.M) is = absurd (given p.m m h.second is)
made_from p k m l h ok (fault.Missing key.C) is = is
made_from p k m l h ok (fault.Missing key.L) is = absurd (given p.l l h.third is)
made_from p k m l h ok (fault.Missing key.Technique) is = is
made_from p k m l h ok (fault.Missing key.Mapping) is = is
made_from p k m l h ok (fault.Missing key.Layers) is = is
made_from p k m l h ok fault.Technique is = is
made_from p k m l h ok fault.Width is = is
made_from p k m l h ok fault.SmallK is = absurd (some_k p k m l h ok.some_data is)
made_from p k m l h ok fault.SmallM is = absurd (some_m p k m l h ok.some_coding is)
made_from p k m l h ok fault.TooMany is = absurd (ok.few (kml_given p k m l HasManyPositions h is))
made_from p k m l h ok fault.Divides is = absurd (ok.even (kml_given p k m l HasUnevenGroups h is))
made_from p k m l h ok fault.LayerLength is = kml_given p k m l (λ k m l. HasLayoutFault (mapping_of k m l) (layers_of k m l) p.stripe_unit p.min_size fault.LayerLength) h is
made_from p k m l h ok fault.LayerInput is = kml_given p k m l (λ k m l. HasLayoutFault (mapping_of k m l) (layers_of k m l) p.stripe_unit p.min_size fault.LayerInput) h is
made_from p k m l h ok fault.LayerOutput is = kml_given p k m l (λ k m l. HasLayoutFault (mapping_of k m l) (layers_of k m l) p.stripe_unit p.min_size fault.LayerOutput) h is
made_from p k m l h ok fault.Unit is = is
made_from p k m l h ok fault.MinSize is = kml_given p k m l (λ k m l. HasLayoutFault (mapping_of k m l) (layers_of k m l) p.stripe_unit p.min_size fault.MinSize) h is
made_from p k m l h ok fault.Order is = is
made_from p k m l h ok fault.Json is = is
made_from p k m l h ok fault.Setting is = is

-- a profile of good numbers is refused by the first fault of the layout that they make, and accepted where that has none
pub made_layout_first : (p : Profile) (f : ProfileFault) (k m l : ℕ) → HasKml p k m l → MakesGroups k m l
    → IsFirst (HasLayoutFault (mapping_of k m l) (layers_of k m l) p.stripe_unit p.min_size) fault_order f → IsRefusedBy p f
made_layout_first p f k m l h ok is =
    refused_by_case p f true h.of_lrc (some_number p k h.first)
    (first_same (HasLayoutFault (mapping_of k m l) (layers_of k m l) p.stripe_unit p.min_size) (HasNumbersFault p) fault_order f (made_to p k m l h) (made_from p k m l h ok) is)

pub made_layout_accepted : (p : Profile) (k m l : ℕ) → HasKml p k m l → MakesGroups k m l
    → ((f : ProfileFault) → HasLayoutFault (mapping_of k m l) (layers_of k m l) p.stripe_unit p.min_size f → ⊥) → IsAccepted p
made_layout_accepted p k m l h ok none =
    accepted_by_case p true h.of_lrc (some_number p k h.first) (λ f is. none f (made_from p k m l h ok f is))

-- what is known of a profile with a mapping and layers
pub record HasTexts (p : Profile) (mapping : Mapping) (layers : Layers) : Type 0 where
  pub of_lrc : p.plugin ≡ plugin.Lrc
  pub written : has_number p ≡ false
  pub first : p.mapping ≡ Some mapping
  pub second : p.layers ≡ Some layers

texts_late : (p : Profile) (f : ProfileFault) (mapping : Mapping) (layers : Layers) → HasTexts p mapping layers → IsFirst (HasWrittenFault p) late_faults f → IsRefusedBy p f
texts_late p f mapping layers h late =
    refused_by_case p f false h.of_lrc h.written
    (inr (
      λ x. x,
      inr (
        λ x. x,
        inr (
          λ x. x,
          inr (
            λ x. x,
            inr (
              given p.layers layers h.second,
              inr (
                λ x. x,
                inr (
                  given p.mapping mapping h.first,
                  inr (
                    λ x. x,
                    inr (λ x. x, inr (λ x. x, late)),
                  ),
                ),
              ),
            ),
          ),
        ),
      ),
    ))

mapping_given : (p : Profile) (mapping : Mapping) (P : Mapping → Type 0) → p.mapping ≡ Some mapping → Given p.mapping P → P mapping
mapping_given p mapping P e is = subst P (same_value p.mapping is.0 mapping is.1 e) is.2

texts_given : (p : Profile) (mapping : Mapping) (layers : Layers) (P : List ℕ → List (List ℕ) → Type 0) → HasTexts p mapping layers → GivenTexts p P
    → P (mapping_text mapping) (layer_texts layers)
texts_given p mapping layers P h (mapping', em, (layers', el, is)) =
    subst (λ t. P (mapping_text t) (layer_texts layers)) (same_value p.mapping mapping' mapping em h.first)
    (subst (λ t. P (mapping_text mapping') (layer_texts t)) (same_value p.layers layers' layers el h.second) is)

pub no_data_first : (p : Profile) (mapping : Mapping) (layers : Layers) → HasTexts p mapping layers → data_chunks_of mapping < 1 → IsRefusedBy p fault.SmallK
no_data_first p mapping layers h lt = texts_late p fault.SmallK mapping layers h (inl ((mapping, h.first, lt), refl))

some_d : (p : Profile) (mapping : Mapping) (layers : Layers) → HasTexts p mapping layers → 1 ≤ data_chunks_of mapping → HasWrittenFault p fault.SmallK → ⊥
some_d p mapping layers h le is = let lt = mapping_given p mapping (λ t. data_chunks_of t < 1) h.first is in omega (arith, le, lt)

pub all_data_first : (p : Profile) (mapping : Mapping) (layers : Layers) → HasTexts p mapping layers → 1 ≤ data_chunks_of mapping
    → data_chunks_of mapping ≡ mapping.len → IsRefusedBy p fault.SmallM
all_data_first p mapping layers h le e = texts_late p fault.SmallM mapping layers h (inr (some_d p mapping layers h le, inl ((mapping, h.first, e), refl)))

not_all : (p : Profile) (mapping : Mapping) (layers : Layers) → HasTexts p mapping layers → (data_chunks_of mapping ≡ mapping.len → ⊥) → HasWrittenFault p fault.SmallM → ⊥
not_all p mapping layers h ne is = ne (mapping_given p mapping (λ t. data_chunks_of t ≡ t.len) h.first is)

pub long_mapping_first : (p : Profile) (mapping : Mapping) (layers : Layers) → HasTexts p mapping layers → 1 ≤ data_chunks_of mapping
    → (data_chunks_of mapping ≡ mapping.len → ⊥) → 16 < mapping.len → IsRefusedBy p fault.TooMany
long_mapping_first p mapping layers h le ne lt =
    texts_late p fault.TooMany mapping layers h (inr (some_d p mapping layers h le, inr (not_all p mapping layers h ne, inl ((mapping, h.first, lt), refl))))

-- nothing is wrong with the mapping by itself
pub record PassesMapping (mapping : Mapping) : Type 0 where
  pub some_data : 1 ≤ data_chunks_of mapping
  pub some_coding : data_chunks_of mapping ≡ mapping.len → ⊥
  pub few : mapping.len ≤ 16

pub texts_to : (p : Profile) (mapping : Mapping) (layers : Layers) → HasTexts p mapping layers → (f : ProfileFault)
    → HasLayoutFault (mapping_text mapping) (layer_texts layers) p.stripe_unit p.min_size f → HasWrittenFault p f
texts_to p mapping layers h fault.UnknownPlugin is = absurd is
texts_to p mapping layers h (fault.UnknownKey name) is = absurd is
texts_to p mapping layers h (fault.BadValue name) is = absurd is
texts_to p mapping layers h (fault.Missing key.K) is = absurd is
texts_to p mapping layers h (fault.Missing key.M) is = absurd is
texts_to p mapping layers h (fault.Missing key.C) is = absurd is
texts_to p mapping layers h (fault.Missing key.L) is = absurd is
texts_to p mapping layers h (fault.Missing key.Technique) is = absurd is
texts_to p mapping layers h (fault.Missing key.Mapping) is = absurd is
texts_to p mapping layers h (fault.Missing key.Layers) is = absurd is
texts_to p mapping layers h fault.Technique is = absurd is
texts_to p mapping layers h fault.Width is = absurd is
texts_to p mapping layers h fault.SmallK is = absurd is
texts_to p mapping layers h fault.SmallM is = absurd is
texts_to p mapping layers h fault.TooMany is = absurd is
texts_to p mapping layers h fault.Divides is = absurd is
texts_to p mapping layers h fault.LayerLength is = (mapping, h.first, (layers, h.second, is))
texts_to p mapping layers h fault.LayerInput is = (mapping, h.first, (layers, h.second, is))
texts_to p mapping layers h fault.LayerOutput is = (mapping, h.first, (layers, h.second, is))
texts_to p mapping layers h fault.Unit is = is
texts_to p mapping layers h fault.MinSize is = (mapping, h.first, (layers, h.second, is))
texts_to p mapping layers h fault.Order is = absurd is
texts_to p mapping layers h fault.Json is = absurd is
texts_to p mapping layers h fault.Setting is = absurd is

texts_from : (p : Profile) (mapping : Mapping) (layers : Layers) → HasTexts p mapping layers → PassesMapping mapping → (f : ProfileFault) → HasWrittenFault p f
    → HasLayoutFault (mapping_text mapping) (layer_texts layers) p.stripe_unit p.min_size f
texts_from p mapping layers h ok fault.UnknownPlugin is = is
texts_from p mapping layers h ok (fault.UnknownKey name) is = is
texts_from p mapping layers h ok (fault.BadValue name) is = is
texts_from p mapping layers h ok (fault.Missing key.K) is = is
texts_from p mapping layers h ok (fault.Missing key.M) is = is
texts_from p mapping layers h ok (fault.Missing key.C) is = is
texts_from p mapping layers h ok (fault.Missing key.L) is = is
texts_from p mapping layers h ok (fault.Missing key.Technique) is = is
texts_from p mapping layers h ok (fault.Missing key.Mapping) is = absurd (given p.mapping mapping h.first is)
texts_from p mapping layers h ok (fault.Missing key.Layers) is = absurd (given p.layers layers h.second is)
texts_from p mapping layers h ok fault.Technique is = is
texts_from p mapping layers h ok fault.Width is = is
texts_from p mapping layers h ok fault.SmallK is = absurd (some_d p mapping layers h ok.some_data is)
texts_from p mapping layers h ok fault.SmallM is = absurd (not_all p mapping layers h ok.some_coding is)
texts_from p mapping layers h ok fault.TooMany is = absurd (omega (arith, ok.few, mapping_given p mapping (λ t. 16 < t.len) h.first is))
texts_from p mapping layers h ok fault.Divides is = is
texts_from p mapping layers h ok fault.LayerLength is = texts_given p mapping layers (λ mapping layers. HasLayoutFault mapping layers p.stripe_unit p.min_size fault.LayerLength) h is
texts_from p mapping layers h ok fault.LayerInput is = texts_given p mapping layers (λ mapping layers. HasLayoutFault mapping layers p.stripe_unit p.min_size fault.LayerInput) h is
texts_from p mapping layers h ok fault.LayerOutput is = texts_given p mapping layers (λ mapping layers. HasLayoutFault mapping layers p.stripe_unit p.min_size fault.LayerOutput) h is
texts_from p mapping layers h ok fault.Unit is = is
texts_from p mapping layers h ok fault.MinSize is = texts_given p mapping layers (λ mapping layers. HasLayoutFault mapping layers p.stripe_unit p.min_size fault.MinSize) h is
texts_from p mapping layers h ok fault.Order is = is
texts_from p mapping layers h ok fault.Json is = is
texts_from p mapping layers h ok fault.Setting is = is

-- a profile of a good mapping is refused by the first fault of its layers, and accepted where they have none
pub text_layout_first : (p : Profile) (f : ProfileFault) (mapping : Mapping) (layers : Layers) → HasTexts p mapping layers → PassesMapping mapping
    → IsFirst (HasLayoutFault (mapping_text mapping) (layer_texts layers) p.stripe_unit p.min_size) fault_order f → IsRefusedBy p f
text_layout_first p f mapping layers h ok is =
    refused_by_case p f false h.of_lrc h.written
    (first_same (HasLayoutFault (mapping_text mapping) (layer_texts layers) p.stripe_unit p.min_size) (HasWrittenFault p) fault_order f
    (texts_to p mapping layers h) (texts_from p mapping layers h ok) is)

pub text_layout_accepted : (p : Profile) (mapping : Mapping) (layers : Layers) → HasTexts p mapping layers → PassesMapping mapping
    → ((f : ProfileFault) → HasLayoutFault (mapping_text mapping) (layer_texts layers) p.stripe_unit p.min_size f → ⊥) → IsAccepted p
text_layout_accepted p mapping layers h ok none =
    accepted_by_case p false h.of_lrc h.written (λ f is. none f (texts_from p mapping layers h ok f is))

-- the code of a profile
pub code_by_texts : (p : Profile) (mapping : Mapping) (layers : Layers) (code : CodeRows) → HasTexts p mapping layers
    → IsLrc (mapping_text mapping) (layer_texts layers) code → IsLrcsCode p code
code_by_texts p mapping layers code h is =
    let P : Bool → Type 0 = λ b. IsCodeBy b p code in
    subst P (sym h.written) (mapping, h.first, (layers, h.second, is))

pub code_by_kml : (p : Profile) (k m l : ℕ) (code : CodeRows) → HasKml p k m l → IsLrc (mapping_of k m l) (layers_of k m l) code → IsLrcsCode p code
code_by_kml p k m l code h is =
    let P : Bool → Type 0 = λ b. IsCodeBy b p code in
    subst P (sym (some_number p k h.first)) (k, h.first, (m, h.second, (l, h.third, is)))

pub lrc_code_by : (p : Profile) → p.plugin ≡ plugin.Lrc → (code : CodeRows) → IsLrcsCode p code → IsCodeOf p code
lrc_code_by p e code is = let P : Plugin → Type 0 = λ q. IsPluginsCode q p code in subst P (sym e) is

pub lrc_promise_by : (q : Plugin) → q ≡ plugin.Lrc → (code : CodeRows) → KeepsPromise q code
lrc_promise_by q e code = let P : Plugin → Type 0 = λ q. KeepsPromise q code in subst P (sym e) tt

pub lrc_by_name : (q : Plugin) → name_of q ≡ codes "lrc" → q ≡ plugin.Lrc
lrc_by_name plugin.Jerasure e = absurd (omega (arith, ap length e))
lrc_by_name plugin.Lrc e = refl
lrc_by_name plugin.Shec e = absurd (omega (arith, ap length e))
