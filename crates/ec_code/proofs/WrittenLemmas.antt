-- The mapping and the layers of a profile that was read have their marks alone.
use Rattle.std.proofs.Common.{◌≡◌, ℕ, zero, suc, Bool, true, false, not, cond, List, [], ◌∷◌, ◌-◌, ◌<◌, ◌≤◌, ◌&&◌, ◌||◌, length, min, reverse, Some, None, Result, Ok, Err, option_map, option_and_then, refl, ap, sym, ◌∙◌, subst, arith}
use Rattle.std.specs.Prelude.{codes, bytes_eq, filter, nat_le, slice_index_or}
use Rattle.std.specs.List.{list_all, find}
use Rattle.std.specs.Str.{is_utf8}
use Rattle.std.specs.declared.option.Option.{Option}
use Rattle.std.proofs.lemmas.List.{length-reverse, get_or-reverse}
use Rattle.std.proofs.lemmas.List.Sums.{AllPass-from_list_all, list_all-from_AllPass}
use Rattle.std.proofs.lemmas.List.FromFn.{get_or-map-range_with_len, length-map-range_with_len}
use Rattle.std.proofs.lemmas.Bool.{and_parts}
use Rattle.std.proofs.lemmas.Slice.Eq.{bytes_eq-Decides}
use Rattle.serde_json.specs.Data.{Data, null, boolean, number, string, array, object, Items, no_items, item}
use Rattle.serde_json.specs.Events.{items_len}
use Rattle.serde_json.specs.Find.{as_array, get_member}
use Rattle.serde_json.specs.Read.{read}
use Rattle.ec_code.specs.declared.mapping.Layers.{Layers}
use Rattle.ec_code.specs.declared.mapping.Mapping.{Mapping}
use Rattle.ec_code.specs.declared.profile.Plugin.{Plugin}
use Rattle.ec_code.specs.declared.profile.Plugin.TheVariants as plugin
use Rattle.ec_code.specs.declared.profile.Profile.{Profile}
use Rattle.ec_code.specs.declared.fault.ProfileFault.{ProfileFault}
use Rattle.ec_code.specs.declared.fault.ProfileFault.TheVariants as fault
use Rattle.ec_code.specs.JsonProfiles.{settings_of_members, layers_of_members, profile_of_value, profile_of_json, profile_of_settings_text, begins_object, profile_of_bytes}
use Rattle.ec_code.specs.LayerTexts.{is_mark, uncommaed, are_layer_settings, layer_marks, layer_of_items, layer_of_value, each_layer, layers_of_items, layers_of_json, layers_of_text, layers_of_value}
use Rattle.ec_code.specs.LayerValues.{mapping_value, layer_value, layers_value}
use Rattle.ec_code.specs.LrcFaults.{mapping_text, text_of_layer, layer_texts}
use Rattle.ec_code.specs.Mappings.{layer_at}
use Rattle.ec_code.specs.Readings.{GivenLayers, is_place, is_mapping, is_bad, bad_key, unknown_key, least_text, value_or, have_number, refused_by, plugin_of, profile_with, profile_of_plugin, profile_of_settings, profile_of, layers_at}
use Rattle.ec_code.specs.Settings.{Setting, is_empty, has_settings, settings_of, keys_of, value_of}
use Rattle.ec_code.proofs.AgainLemmas.{some_same, not_none}
use Rattle.ec_code.proofs.KeptLemmas.{front_back, mapping_back, layer_value_at}
use Rattle.ec_code.proofs.LayerTextLemmas.{AreMarks}
use Rattle.ec_code.proofs.LayoutLemmas.{length_of_text}

-- ---- layers that were read

-- what a test lets through
let_through : {A : Type 0} (b : Bool) (o : Option A) (a : A) → cond b o None ≡ Some a → (b ≡ true) × (o ≡ Some a)
let_through {A} true o a e = (refl, e)
let_through {A} false o a e = absurd (not_none a (sym e))

and_then_some : {A B : Type 0} (f : A → Option B) (o : Option A) (b : B) → option_and_then f o ≡ Some b → (a : A) × (o ≡ Some a) × (f a ≡ Some b)
and_then_some {A} {B} f (Some a) b e = (a, refl, e)
and_then_some {A} {B} f None b e = absurd (not_none b (sym e))

map_some : {A B : Type 0} (f : A → B) (o : Option A) (b : B) → option_map f o ≡ Some b → (a : A) × (o ≡ Some a) × (f a ≡ b)
map_some {A} {B} f (Some a) b e = (a, refl, some_same (f a) b e)
map_some {A} {B} f None b e = absurd (not_none b (sym e))

marked : (value : Data) (layer : List ℕ) → layer_marks value ≡ Some layer → list_all is_mark layer ≡ true
marked null layer e = absurd (not_none layer (sym e))
marked (boolean b) layer e = absurd (not_none layer (sym e))
marked (number n) layer e = absurd (not_none layer (sym e))
marked (string text) layer e =
    let is = let_through (list_all is_mark text) (Some text) layer e in
    subst (λ (t : List ℕ). list_all is_mark t ≡ true) (some_same text layer is.1) is.0
marked (array items) layer e = absurd (not_none layer (sym e))
marked (object fields) layer e = absurd (not_none layer (sym e))

marked_items : (items : Items) (layer : List ℕ) → layer_of_items items ≡ Some layer → list_all is_mark layer ≡ true
marked_items no_items layer e = absurd (not_none layer (sym e))
marked_items (item marks no_items) layer e = marked marks layer e
marked_items (item marks (item settings no_items)) layer e = marked marks layer (let_through (are_layer_settings settings) (layer_marks marks) layer e).1
marked_items (item marks (item settings (item more items))) layer e = absurd (not_none layer (sym e))

marked_value : (value : Data) (layer : List ℕ) → layer_of_value value ≡ Some layer → list_all is_mark layer ≡ true
marked_value value layer e = let is = and_then_some layer_of_items (as_array value) layer e in marked_items is.0 layer is.2

marked_each : (items : Items) (layers : List (List ℕ)) → each_layer items ≡ Some layers → AreMarks layers
marked_each no_items layers e = subst AreMarks (some_same [] layers e) tt
marked_each (item value items) layers e =
    let one = and_then_some (λ layer. option_map (λ rest. layer ∷ rest) (each_layer items)) (layer_of_value value) layers e in
    let others = map_some (λ rest. one.0 ∷ rest) (each_layer items) layers one.2 in
    subst AreMarks others.2 (marked_value value one.0 one.1, marked_each items others.0 others.1)

-- layers that are given have marks alone
abbrev pub AreGood : GivenLayers → Type 0
AreGood given = (layers : List (List ℕ)) → given ≡ Some layers → AreMarks layers

items_good : (items : Items) → AreGood (layers_of_items items)
items_good items layers e = marked_each items layers (let_through (nat_le (items_len items) 16) (each_layer items) layers e).1

json_good : (text : List ℕ) → AreGood (layers_of_json text)
json_good text layers e =
    let inside = let_through (is_utf8 text) (option_and_then layers_of_items (option_and_then as_array (read text))) layers e in
    let is = and_then_some layers_of_items (option_and_then as_array (read text)) layers inside.1 in
    items_good is.0 layers is.2

text_good : (text : List ℕ) → AreGood (layers_of_text text)
text_good text layers e = json_good (uncommaed false false text) layers e

value_good : (value : Data) → AreGood (layers_of_value value)
value_good null layers e = absurd (not_none layers (sym e))
value_good (boolean b) layers e = absurd (not_none layers (sym e))
value_good (number n) layers e = absurd (not_none layers (sym e))
value_good (string text) layers e = text_good text layers e
value_good (array items) layers e = items_good items layers e
value_good (object fields) layers e = absurd (not_none layers (sym e))

-- ---- a mapping that was read

refused_by_none : {A : Type 0} (carrying : List ℕ → ProfileFault) (key : Option (List ℕ)) (r : Result A ProfileFault) (a : A) → refused_by carrying key r ≡ Ok a
    → (key ≡ None) × (r ≡ Ok a)
refused_by_none {A} carrying (Some key) r a e = absurd (cc)
refused_by_none {A} carrying None r a e = (refl, e)

no_least : (texts : List (List ℕ)) → least_text texts ≡ None → texts ≡ []
no_least [] e = refl
no_least (text ∷ texts) e = absurd (cc)

passes_none : (test : List ℕ → Bool) (settings : List Setting) → filter test (keys_of settings) ≡ [] → list_all (λ s. not (test s.key)) settings ≡ true
passes_none test [] e = refl
passes_none test (s ∷ settings) e = by (test s.key) (passes_none test settings) e
  where
    by : (b : Bool) → (filter test (keys_of settings) ≡ [] → list_all (λ s. not (test s.key)) settings ≡ true)
        → cond b (s.key ∷ filter test (keys_of settings)) (filter test (keys_of settings)) ≡ [] → (not b && list_all (λ s. not (test s.key)) settings) ≡ true
    by true rest f = absurd (cc)
    by false rest f = rest f

all_reversed : (test : Setting → Bool) (settings : List Setting) → list_all test settings ≡ true → list_all test (reverse settings) ≡ true
all_reversed test settings e =
    let all = AllPass-from_list_all test settings e in
    let long = length-reverse settings in
    list_all-from_AllPass test (reverse settings) (λ i d lt.
    ap test (get_or-reverse settings i d (omega (arith, lt, long))) ∙ all (length settings - 1 - i) d (omega (arith, lt, long)))

found : (test other : Setting → Bool) (settings : List Setting) (s : Setting) → list_all other settings ≡ true → find test settings ≡ Some s
    → (test s ≡ true) × (other s ≡ true)
found test other [] s all e = absurd (not_none s (sym e))
found test other (x ∷ settings) s all e = by (test x) refl (found test other settings s (and_parts (other x) (list_all other settings) all).1) e
  where
    by : (b : Bool) → test x ≡ b → (find test settings ≡ Some s → (test s ≡ true) × (other s ≡ true)) → cond b (Some x) (find test settings) ≡ Some s
        → (test s ≡ true) × (other s ≡ true)
    by true is rest f =
        let same = some_same x s f in
        (subst (λ (y : Setting). test y ≡ true) same is, subst (λ (y : Setting). other y ≡ true) same (and_parts (other x) (list_all other settings) all).0)
    by false is rest f = rest f

-- a key that is there isn't a bad one, where none is
not_bad : (layers : GivenLayers) (settings : List Setting) (key value : List ℕ) → bad_key layers settings ≡ None → value_of settings key ≡ Some value
    → not (is_bad layers settings key) ≡ true
not_bad layers settings key value none is =
    let all = passes_none (is_bad layers settings) settings (no_least (filter (is_bad layers settings) (keys_of settings)) none) in
    let at = map_some (λ s. s.value) (find (λ s. bytes_eq s.key key) (reverse settings)) value is in
    let both = found (λ s. bytes_eq s.key key) (λ s. not (is_bad layers settings s.key)) (reverse settings) at.0
    (all_reversed (λ s. not (is_bad layers settings s.key)) settings all) at.1 in
    subst (λ (k : List ℕ). not (is_bad layers settings k) ≡ true) ((bytes_eq-Decides at.0.key key).0 both.0) both.1

not_either : (a b : Bool) → not (not a || b) ≡ true → a ≡ true
not_either true b e = refl
not_either false b e = absurd (cc)

mapping_good : (layers : GivenLayers) (settings : List Setting) (value : List ℕ) → bad_key layers settings ≡ None → value_of settings (codes "mapping") ≡ Some value
    → list_all is_place value ≡ true
mapping_good layers settings value none is =
    let good : is_mapping (value_or [] (value_of settings (codes "mapping"))) ≡ true =
    not_either (is_mapping (value_or [] (value_of settings (codes "mapping")))) (have_number settings) (not_bad layers settings (codes "mapping") value none is) in
    (and_parts (not (is_empty value)) (list_all is_place value) (ap (λ o. is_mapping (value_or [] o)) (sym is) ∙ good)).1

-- ---- profiles that were read

-- a profile is that of some settings, beside layers of marks
pub record IsRead (p : Profile) : Type 0 where
  pub layers : GivenLayers
  pub settings : List Setting
  pub good : AreGood layers
  pub from : profile_of_settings layers settings ≡ Ok p

-- what its mapping and its layers are made of
record IsMade (p : Profile) : Type 0 where
  mapping : (m : Mapping) → p.mapping ≡ Some m → (text : List ℕ) × (mapping_value text ≡ m) × (list_all is_place text ≡ true)
  layers : (ls : Layers) → p.layers ≡ Some ls → (texts : List (List ℕ)) × (layers_value texts ≡ ls) × AreMarks texts

made_with : (q : Plugin) (layers : GivenLayers) (settings : List Setting) → AreGood layers → bad_key layers settings ≡ None → IsMade (profile_with q layers settings)
made_with plugin.Jerasure layers settings good none = record { mapping = λ m e. absurd (not_none m (sym e)); layers = λ ls e. absurd (not_none ls (sym e)) }
made_with plugin.Lrc layers settings good none = record {
  mapping = λ m e.
      let is = map_some mapping_value (value_of settings (codes "mapping")) m e in (is.0, is.2, mapping_good layers settings is.0 none is.1);
  layers = λ ls e. let is = map_some layers_value layers ls e in (is.0, is.2, good is.0 is.1);
}
made_with plugin.Shec layers settings good none = record { mapping = λ m e. absurd (not_none m (sym e)); layers = λ ls e. absurd (not_none ls (sym e)) }

ok_same : {A : Type 0} (a b : A) → ◌≡◌ {A = Result A ProfileFault} (Ok a) (Ok b) → a ≡ b
ok_same {A} a b e = cc

made_by : (o : Option Plugin) (layers : GivenLayers) (settings : List Setting) (p : Profile) → AreGood layers → profile_of_plugin o layers settings ≡ Ok p → IsMade p
made_by None layers settings p good e = absurd (cc)
made_by (Some q) layers settings p good e =
    let known = refused_by_none fault.UnknownKey (unknown_key q settings) (refused_by fault.BadValue (bad_key layers settings) (Ok (profile_with q layers settings))) p e in
    let fine = refused_by_none fault.BadValue (bad_key layers settings) (Ok (profile_with q layers settings)) p known.1 in
    subst IsMade (ok_same (profile_with q layers settings) p fine.1) (made_with q layers settings good fine.0)

made : (p : Profile) → IsRead p → IsMade p
made p is = made_by (plugin_of is.settings) is.layers is.settings p is.good is.from

-- each character of its mapping is `D` or `_`, and each of its layers `D`, `c` or `_`; of texts of more than 16 characters
-- nothing is said
pub read_mapping : (p : Profile) → IsRead p → (m : Mapping) → p.mapping ≡ Some m → length (mapping_text m) ≤ 16 → list_all is_place (mapping_text m) ≡ true
read_mapping p is m e few =
    let known = (made p is).mapping m e in
    let same : mapping_value known.0 ≡ m = known.1 in
    let len = length_of_text (mapping_value known.0).first (mapping_value known.0).len in
    let short : length (mapping_text (mapping_value known.0)) ≤ 16 = subst (λ (x : Mapping). length (mapping_text x) ≤ 16) (sym same) few in
    subst (λ (x : Mapping). list_all is_place (mapping_text x) ≡ true) same
    (ap (list_all is_place) (mapping_back known.0 (omega (arith, len, short))) ∙ known.2)

marks_at : (texts : List (List ℕ)) (i : ℕ) → AreMarks texts → i < length texts → list_all is_mark (slice_index_or texts i []) ≡ true
marks_at [] i are lt = absurd (omega arith)
marks_at (text ∷ texts) zero are lt = are.0
marks_at (text ∷ texts) (suc i) are lt = marks_at texts i are.1 (omega arith)

layer_good : (texts : List (List ℕ)) (i : ℕ) → AreMarks texts → i < length (layer_texts (layers_value texts))
    → length (slice_index_or (layer_texts (layers_value texts)) i []) ≤ 16 → list_all is_mark (slice_index_or (layer_texts (layers_value texts)) i []) ≡ true
layer_good texts i are lt few =
    let long = length-map-range_with_len (λ i. text_of_layer (layer_at (layers_value texts).each i)) 0 (min (length texts) 16) in
    let at : slice_index_or (layer_texts (layers_value texts)) i [] ≡ text_of_layer (layer_value (slice_index_or texts i [])) =
    get_or-map-range_with_len (λ i. text_of_layer (layer_at (layers_value texts).each i)) 0 (min (length texts) 16) i i [] (omega (arith, lt, long)) (omega arith)
    ∙ ap text_of_layer (layer_value_at texts i (omega (arith, lt, long))) in
    let short : length (text_of_layer (layer_value (slice_index_or texts i []))) ≤ 16 = subst (λ (t : List ℕ). length t ≤ 16) at few in
    let len = length_of_text (layer_value (slice_index_or texts i [])).first (layer_value (slice_index_or texts i [])).len in
    ap (list_all is_mark) (at ∙ front_back (slice_index_or texts i []) (omega (arith, len, short))) ∙ marks_at texts i are (omega (arith, lt, long))

pub read_layers : (p : Profile) → IsRead p → (ls : Layers) → p.layers ≡ Some ls → (i : ℕ) → i < length (layer_texts ls)
    → length (slice_index_or (layer_texts ls) i []) ≤ 16 → list_all is_mark (slice_index_or (layer_texts ls) i []) ≡ true
read_layers p is ls e i lt few =
    let known = (made p is).layers ls e in
    let P : Layers → Type 0 = λ x. i < length (layer_texts x) → length (slice_index_or (layer_texts x) i []) ≤ 16 → list_all is_mark (slice_index_or (layer_texts x) i []) ≡ true in
    subst P known.1 (layer_good known.0 i known.2) lt few

-- each profile of a text, of JSON and of bytes was read
pub text_is_read : (text : List ℕ) (p : Profile) → profile_of text ≡ Ok p → IsRead p
text_is_read text p e = by (has_settings text) e
  where
    by : (b : Bool) → cond (not b) (Err fault.Setting) (profile_of_settings (layers_at (settings_of text)) (settings_of text)) ≡ Ok p → IsRead p
    by true f = record {
      layers = layers_at (settings_of text);
      settings = settings_of text;
      good = λ layers g. let is = and_then_some layers_of_text (value_of (settings_of text) (codes "layers")) layers g in text_good is.0 layers is.2;
      from = f;
    }
    by false f = absurd (cc)

value_is_read : (o : Option Data) (p : Profile) → profile_of_value o ≡ Ok p → IsRead p
value_is_read None p e = absurd (cc)
value_is_read (Some null) p e = absurd (cc)
value_is_read (Some (boolean b)) p e = absurd (cc)
value_is_read (Some (number n)) p e = absurd (cc)
value_is_read (Some (string text)) p e = absurd (cc)
value_is_read (Some (array items)) p e = absurd (cc)
value_is_read (Some (object members)) p e = record {
  layers = layers_of_members members;
  settings = settings_of_members members;
  good = λ layers g. let is = and_then_some layers_of_value (get_member (codes "layers") members) layers g in value_good is.0 layers is.2;
  from = e;
}

pub json_is_read : (bytes : List ℕ) (p : Profile) → profile_of_json bytes ≡ Ok p → IsRead p
json_is_read bytes p e = by (is_utf8 bytes) e
  where
    by : (b : Bool) → cond b (profile_of_value (read bytes)) (Err fault.Json) ≡ Ok p → IsRead p
    by true f = value_is_read (read bytes) p f
    by false f = absurd (cc)

settings_are_read : (bytes : List ℕ) (p : Profile) → profile_of_settings_text bytes ≡ Ok p → IsRead p
settings_are_read bytes p e = by (is_utf8 bytes) e
  where
    by : (b : Bool) → cond b (profile_of bytes) (Err fault.Setting) ≡ Ok p → IsRead p
    by true f = text_is_read bytes p f
    by false f = absurd (cc)

pub bytes_are_read : (bytes : List ℕ) (p : Profile) → profile_of_bytes bytes ≡ Ok p → IsRead p
bytes_are_read bytes p e = by (begins_object bytes) e
  where
    by : (b : Bool) → cond b (profile_of_json bytes) (profile_of_settings_text bytes) ≡ Ok p → IsRead p
    by true f = json_is_read bytes p f
    by false f = settings_are_read bytes p f
