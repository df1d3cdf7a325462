-- What the settings of a profile of the plugin shec are read as: a profile that is accepted too, and means the same code.
use Rattle.std.proofs.Common.{◌≡◌, ◌⊎◌, ℕ, true, false, not, cond, List, [], ◌∷◌, ◌+◌, ◌-◌, ◌<◌, ◌≤◌, ◌^◌, ◌&&◌, ◌||◌, Some, None, Ok, Err, refl, ap, sym, ◌∙◌, subst, arith, inl, inr}
use Rattle.std.specs.Prelude.{codes, is_some}
use Rattle.std.specs.Fmt.{decimal, digits}
use Rattle.std.specs.declared.option.Option.{Option}
use Rattle.ec_model.specs.Codes.{CodeRows}
use Rattle.ec_model.specs.Shec.{IsShec}
use Rattle.ec_code.specs.declared.profile.Plugin.TheVariants as plugin
use Rattle.ec_code.specs.declared.profile.Technique.TheVariants as technique
use Rattle.ec_code.specs.declared.profile.Profile.{Profile}
use Rattle.ec_code.specs.declared.fault.ProfileFault.{ProfileFault}
use Rattle.ec_code.specs.declared.fault.ProfileFault.TheVariants as fault
use Rattle.ec_code.specs.declared.fault.Key.TheVariants as key
use Rattle.ec_code.specs.Settings.{Setting, has_settings, settings_of, keys_of}
use Rattle.ec_code.specs.Readings.{number_of_text, unit_of_text, is_bad, bad_key, least_text, value_or, refused_by, plugin_of, profile_with, profile_of_plugin, profile_of_settings, profile_of, layers_at, GivenLayers}
use Rattle.ec_code.specs.Refusals.{IsUnit, IsAccepted, IsCodeOf}
use Rattle.ec_code.specs.ShecFaults.{HasShecFault, IsShecsCode}
use Rattle.ec_code.proofs.ReadingLemmas.{number_read, unit_read, none_pass}
use Rattle.ec_code.proofs.AgainLemmas.{IsLeastOf, some_same, not_none, sides}

-- the profile of the plugin shec with these numbers, the technique single and words of 8 bits
abbrev pub shec_profile : ℕ → ℕ → ℕ → ℕ → ℕ → Profile
shec_profile c k m least unit = record {
  plugin = plugin.Shec;
  k = Some k;
  m = Some m;
  c = Some c;
  l = None;
  w = Some 8;
  technique = Some technique.Single;
  mapping = None;
  layers = None;
  stripe_unit = unit;
  min_size = Some least;
}

-- the settings of the plugin shec with these texts of numbers
abbrev pub shec_texts : List ℕ → List ℕ → List ℕ → List ℕ → List ℕ → List Setting
shec_texts c k m least unit =
    record { key = codes "c"; value = c } ∷ record { key = codes "k"; value = k } ∷ record { key = codes "m"; value = m }
    ∷ record { key = codes "min_size"; value = least } ∷ record { key = codes "plugin"; value = codes "shec" }
    ∷ record { key = codes "stripe_unit"; value = unit } ∷ record { key = codes "technique"; value = codes "single" }
    ∷ record { key = codes "w"; value = codes "8" } ∷ []

-- what is made of five texts of numbers is made of the numbers that they are read as
pub five_read : (c k m least unit : List ℕ) (c' k' m' least' unit' : ℕ)
    → number_of_text c ≡ Some c' → number_of_text k ≡ Some k' → number_of_text m ≡ Some m' → number_of_text least ≡ Some least' → unit_of_text unit ≡ Some unit'
    → {X : Type 0} (f : Option ℕ → Option ℕ → Option ℕ → Option ℕ → Option ℕ → X)
    → f (number_of_text c) (number_of_text k) (number_of_text m) (number_of_text least) (unit_of_text unit) ≡ f (Some c') (Some k') (Some m') (Some least') (Some unit')
five_read c k m least unit c' k' m' least' unit' first second third fourth fifth f =
    ap (λ o. f o (number_of_text k) (number_of_text m) (number_of_text least) (unit_of_text unit)) first
    ∙ ap (λ o. f (Some c') o (number_of_text m) (number_of_text least) (unit_of_text unit)) second
    ∙ ap (λ o. f (Some c') (Some k') o (number_of_text least) (unit_of_text unit)) third
    ∙ ap (λ o. f (Some c') (Some k') (Some m') o (unit_of_text unit)) fourth
    ∙ ap (λ o. f (Some c') (Some k') (Some m') (Some least') o) fifth

module _ (layers : GivenLayers) (c k m least unit : List ℕ) (c' k' m' least' unit' : ℕ)
    (first : number_of_text c ≡ Some c') (second : number_of_text k ≡ Some k') (third : number_of_text m ≡ Some m')
    (fourth : number_of_text least ≡ Some least') (fifth : unit_of_text unit ≡ Some unit') where
  bad_none : bad_key layers (shec_texts c k m least unit) ≡ None
  unfolding digits
  bad_none = ap least_text (none_pass (is_bad layers (shec_texts c k m least unit)) (keys_of (shec_texts c k m least unit))
      (five_read c k m least unit c' k' m' least' unit' first second third fourth fifth
      (λ c k m least unit. not (not (is_some c) || false) && (not (not (is_some k) || false) && (not (not (is_some m) || false) && (not (not (is_some least) || false) && (not (not (is_some unit) || false) && true)))))))

  profile_is : profile_with plugin.Shec layers (shec_texts c k m least unit) ≡ shec_profile c' k' m' least' unit'
  unfolding digits
  profile_is = five_read c k m least unit c' k' m' least' unit' first second third fourth fifth (λ c k m least unit. record {
    plugin = plugin.Shec;
    k = k;
    m = m;
    c = c;
    l = None;
    w = Some 8;
    technique = Some technique.Single;
    mapping = None;
    layers = None;
    stripe_unit = value_or 4096 unit;
    min_size = least;
  })

  settings_read : profile_of_plugin (plugin_of (shec_texts c k m least unit)) layers (shec_texts c k m least unit) ≡ Ok (shec_profile c' k' m' least' unit')
  settings_read =
      ap (λ bad. refused_by fault.BadValue bad (Ok (profile_with plugin.Shec layers (shec_texts c k m least unit)))) bad_none
      ∙ ap Ok profile_is

-- a text whose settings are those of these numbers is read as the profile with them
pub shec_read : (text : List ℕ) (c k m least unit : ℕ) → c < 2 ^ 32 → k < 2 ^ 32 → m < 2 ^ 32 → least < 2 ^ 32 → unit < 2 ^ 32 → has_settings text ≡ true
    → settings_of text ≡ shec_texts (decimal c) (decimal k) (decimal m) (decimal least) (decimal unit) → profile_of text ≡ Ok (shec_profile c k m least unit)
shec_read text c k m least unit lc lk lm ll lu has is =
    ap (λ h. cond (not h) (Err fault.Setting) (profile_of_settings (layers_at (settings_of text)) (settings_of text))) has
    ∙ ap (λ s. profile_of_settings (layers_at s) s) is
    ∙ settings_read (layers_at (shec_texts (decimal c) (decimal k) (decimal m) (decimal least) (decimal unit))) (decimal c) (decimal k) (decimal m) (decimal least) (decimal unit) c k m least unit (number_read c lc) (number_read k lk) (number_read m lm) (number_read least ll) (unit_read unit lu)

-- the bounds of the numbers of an accepted profile
pub record ShecBounds (c k m least unit : ℕ) : Type 0 where
  pub some_data : 1 ≤ k
  pub some_coding : 1 ≤ m
  pub some_cover : 1 ≤ c
  pub cover : c ≤ m
  pub order : m ≤ k
  pub few : k + m ≤ 16
  pub few_data : k ≤ 12
  pub is_unit : (IsUnit unit → ⊥) → ⊥
  pub from : k ≤ least
  pub to : least ≤ k + m

pub neither : {A B : Type 0} → (A → ⊥) → (B → ⊥) → A ⊎ B → ⊥
neither {A} {B} f g (inl a) = f a
neither {A} {B} f g (inr b) = g b

shec_nothing_wrong : (c k m least unit : ℕ) → ShecBounds c k m least unit → (f : ProfileFault) → HasShecFault (shec_profile c k m least unit) f → ⊥
shec_nothing_wrong c k m least unit b fault.UnknownPlugin h = h
shec_nothing_wrong c k m least unit b (fault.UnknownKey x) h = h
shec_nothing_wrong c k m least unit b (fault.BadValue x) h = h
shec_nothing_wrong c k m least unit b (fault.Missing key.K) h = not_none k h
shec_nothing_wrong c k m least unit b (fault.Missing key.M) h = not_none m h
shec_nothing_wrong c k m least unit b (fault.Missing key.C) h = not_none c h
shec_nothing_wrong c k m least unit b (fault.Missing key.L) h = h
shec_nothing_wrong c k m least unit b (fault.Missing key.Technique) h = not_none technique.Single h
shec_nothing_wrong c k m least unit b (fault.Missing key.Mapping) h = h
shec_nothing_wrong c k m least unit b (fault.Missing key.Layers) h = h
shec_nothing_wrong c k m least unit b fault.Technique h = h.2 (sym (some_same technique.Single h.0 h.1))
shec_nothing_wrong c k m least unit b fault.Width h = h.2 (sym (some_same 8 h.0 h.1))
shec_nothing_wrong c k m least unit b fault.SmallK h = omega (arith, some_same k h.0 h.1, h.2, b.some_data)
shec_nothing_wrong c k m least unit b fault.SmallM h =
    neither (λ less. omega (arith, some_same m less.0 less.1, less.2, b.some_coding)) (λ less. omega (arith, some_same c less.0 less.1, less.2, b.some_cover)) h
shec_nothing_wrong c k m least unit b fault.TooMany h =
    let one = some_same k h.0 h.1 in
    let two = some_same m h.2.0 h.2.1 in
    neither (λ more. omega (arith, one, two, more, b.few)) (λ more. omega (arith, one, two, more, b.few_data)) h.2.2
shec_nothing_wrong c k m least unit b fault.Divides h = h
shec_nothing_wrong c k m least unit b fault.LayerLength h = h
shec_nothing_wrong c k m least unit b fault.LayerInput h = h
shec_nothing_wrong c k m least unit b fault.LayerOutput h = h
shec_nothing_wrong c k m least unit b fault.Unit h = b.is_unit h
shec_nothing_wrong c k m least unit b fault.MinSize h =
    let one = some_same k h.0 h.1 in
    let two = some_same m h.2.0 h.2.1 in
    let three = some_same least h.2.2.0 h.2.2.1 in
    neither (λ low. omega (arith, one, three, low, b.from)) (λ high. omega (arith, one, two, three, high, b.to)) h.2.2.2
shec_nothing_wrong c k m least unit b fault.Order h =
    let one = some_same k h.0 h.1 in
    let two = some_same m h.2.0 h.2.1 in
    let three = some_same c h.2.2.0 h.2.2.1 in
    neither (λ low. omega (arith, two, three, low, b.cover)) (λ high. omega (arith, one, two, high, b.order)) h.2.2.2
shec_nothing_wrong c k m least unit b fault.Json h = h
shec_nothing_wrong c k m least unit b fault.Setting h = h

-- a number isn't below another
pub up_from : (a b : ℕ) → (a < b → ⊥) → b ≤ a
up_from a b isnt = elim (sides a b) [ inl less ↦ absurd (isnt less) | inr fine ↦ fine ]

within : (p : Profile) (k m least : ℕ) (s : Option ℕ) → s ≡ p.min_size → p.k ≡ Some k → p.m ≡ Some m → 1 ≤ m
    → (HasShecFault p fault.MinSize → ⊥) → IsLeastOf s k (k + m) least → (k ≤ least) × (least ≤ k + m)
within p k m least (Some given) same one two some ok is =
    let low = up_from given k (λ less. ok (k, one, (m, two, (given, sym same, inl less)))) in
    let high = up_from (k + m) given (λ more. ok (k, one, (m, two, (given, sym same, inr more)))) in
    (omega (arith, is, low), omega (arith, is, high))
within p k m least None same one two some ok is = (omega (arith, is), omega (arith, is, some))

shec_bounds : (p : Profile) (c k m least : ℕ) → ((f : ProfileFault) → HasShecFault p f → ⊥) → p.k ≡ Some k → p.m ≡ Some m → p.c ≡ Some c
    → IsLeastOf p.min_size k (k + m) least → ShecBounds c k m least p.stripe_unit
shec_bounds p c k m least ok one two three is =
    let some = up_from m 1 (λ less. ok fault.SmallM (inl (m, two, less))) in
    let both = within p k m least p.min_size refl one two some (ok fault.MinSize) is in
    record {
      some_data = up_from k 1 (λ less. ok fault.SmallK (k, one, less));
      some_coding = some;
      some_cover = up_from c 1 (λ less. ok fault.SmallM (inr (c, three, less)));
      cover = up_from m c (λ less. ok fault.Order (k, one, (m, two, (c, three, inl less))));
      order = up_from k m (λ less. ok fault.Order (k, one, (m, two, (c, three, inr less))));
      few = up_from 16 (k + m) (λ less. ok fault.TooMany (k, one, (m, two, inl less)));
      few_data = up_from 12 k (λ less. ok fault.TooMany (k, one, (m, two, inr less)));
      is_unit = ok fault.Unit;
      from = both.0;
      to = both.1;
    }

-- what is known of an accepted profile of the plugin shec and its code
pub record IsShecAgain (p : Profile) (code : CodeRows) (least : ℕ) : Type 0 where
  pub c : ℕ
  pub given : p.c ≡ Some c
  pub bounds : ShecBounds c code.k (code.n - code.k) least p.stripe_unit
  pub code_of : IsShec code.k (code.n - code.k) c code

shec_by : (p : Profile) (code : CodeRows) (c k m least : ℕ) → ((f : ProfileFault) → HasShecFault p f → ⊥) → p.k ≡ Some k → p.m ≡ Some m → p.c ≡ Some c
    → IsShec k m c code → IsLeastOf p.min_size code.k code.n least → IsShecAgain p code least
shec_by p code c k m least ok one two three rows is =
    let data_chunks : k ≡ code.k = sym rows.data_chunks in
    let coding : m ≡ code.n - code.k = omega (arith, rows.data_chunks, rows.positions) in
    let positions : code.n ≡ k + m = rows.positions in
    let least_is = subst (λ (n : ℕ). IsLeastOf p.min_size k n least) positions (subst (λ (x : ℕ). IsLeastOf p.min_size x code.n least) (sym data_chunks) is) in
    let bounds = shec_bounds p c k m least ok one two three least_is in
    record {
      c = c;
      given = three;
      bounds = subst (λ (y : ℕ). ShecBounds c code.k y least p.stripe_unit) coding (subst (λ (x : ℕ). ShecBounds c x m least p.stripe_unit) data_chunks bounds);
      code_of = subst (λ (y : ℕ). IsShec code.k y c code) coding (subst (λ (x : ℕ). IsShec x m c code) data_chunks rows);
    }

pub shec_again : (p : Profile) (code : CodeRows) (least : ℕ) → ((f : ProfileFault) → HasShecFault p f → ⊥) → IsShecsCode p code → IsLeastOf p.min_size code.k code.n least
    → IsShecAgain p code least
shec_again p code least ok is l = shec_by p code is.2.2.0 is.0 is.2.0 least ok is.1 is.2.1 is.2.2.1 is.2.2.2 l

-- the profile with the code's numbers is accepted, and its code is that code
pub shec_accepted : (p : Profile) (code : CodeRows) (least : ℕ) (is : IsShecAgain p code least)
    → IsAccepted (shec_profile is.c code.k (code.n - code.k) least p.stripe_unit) × IsCodeOf (shec_profile is.c code.k (code.n - code.k) least p.stripe_unit) code
shec_accepted p code least is = (
  shec_nothing_wrong is.c code.k (code.n - code.k) least p.stripe_unit is.bounds,
  (code.k, refl, (code.n - code.k, refl, (is.c, refl, is.code_of))),
)
