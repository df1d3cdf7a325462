-- How the layers of a text or a value are found, step by step.
use Rattle.std.proofs.Common.{◌≡◌, ℕ, Bool, true, false, not, cond, List, [], ◌∷◌, ◌++◌, ◌+◌, ◌-◌, ◌<◌, ◌≤◌, ◌==◌, ◌&&◌, length, get_or, take, drop, Some, None, refl, ap, sym, ◌∙◌, arith}
use Rattle.std.specs.declared.option.Option.{Option}
use Rattle.std.specs.Option.{option_map, option_and_then}
use Rattle.std.proofs.lemmas.List.{drop_more, drop_all, take_rest, append_assoc, append-nil}
use Rattle.std.proofs.lemmas.Bool.{lt-leb, le-leb, eqb-true, and_parts}
use Rattle.std.proofs.lemmas.Str.{IsUtf8-from_is_utf8, is_utf8-from_IsUtf8}
use Rattle.std.specs.Str.{is_utf8, IsUtf8}
use Rattle.serde_json.specs.Read.{read}
use Rattle.serde_json.specs.Data.{Data, null, boolean, number, string, array, object, no_members, member}
use Rattle.serde_json.specs.Events.{items_len}
use Rattle.serde_json.specs.Find.{as_str, as_array, as_object}
use Rattle.serde_json.specs.View.{view, items_view}
use Rattle.serde_json.specs.declared.value.Value.{Value}
use Rattle.serde_json.proofs.Views.{Entry, items_len-items_view}
use Rattle.serde_json.specs.View.{members_view}
use Rattle.ec_code.specs.LayerTexts.{quoted_after, escaped_after, is_closed, uncommaed, are_layer_settings, layer_of_items, layer_of_value, each_layer, layers_of_items, layers_of_json, layers_of_text, layers_of_value}

-- outside quotes it doesn't matter what the last byte inside was
pub outside : (escaped : Bool) (text : List ℕ) → uncommaed false escaped text ≡ uncommaed false false text
unfolding uncommaed
outside escaped [] = refl
outside escaped (b ∷ text) = by ((b == 44) && is_closed text) (outside escaped text)
  where
    by : (drops : Bool) → uncommaed false escaped text ≡ uncommaed false false text
        → cond drops (uncommaed false escaped text) (b ∷ uncommaed (quoted_after false escaped b) (escaped_after false escaped b) text)
        ≡ cond drops (uncommaed false false text) (b ∷ uncommaed (quoted_after false false b) (escaped_after false false b) text)
    by true e = e
    by false e = refl

module _ (text : List ℕ) (i : ℕ) (quoted escaped : Bool) (lt : i < length text) where
  next : uncommaed quoted escaped (drop i text)
      ≡ cond (not quoted && ((get_or text i 0 == 44) && is_closed (drop (i + 1) text))) (uncommaed quoted escaped (drop (i + 1) text))
      (get_or text i 0 ∷ uncommaed (quoted_after quoted escaped (get_or text i 0)) (escaped_after quoted escaped (get_or text i 0)) (drop (i + 1) text))
  unfolding uncommaed
  next = ap (uncommaed quoted escaped) (drop_more text i 0 lt)

  pub next_kept : (not quoted && ((get_or text i 0 == 44) && is_closed (drop (i + 1) text))) ≡ false
      → uncommaed quoted escaped (drop i text)
      ≡ get_or text i 0 ∷ uncommaed (quoted_after quoted escaped (get_or text i 0)) (escaped_after quoted escaped (get_or text i 0)) (drop (i + 1) text)
  next_kept e =
      next ∙ ap (λ drops. cond drops (uncommaed quoted escaped (drop (i + 1) text))
      (get_or text i 0 ∷ uncommaed (quoted_after quoted escaped (get_or text i 0)) (escaped_after quoted escaped (get_or text i 0)) (drop (i + 1) text))) e

  pub next_dropped : (not quoted && ((get_or text i 0 == 44) && is_closed (drop (i + 1) text))) ≡ true
      → uncommaed quoted escaped (drop i text)
      ≡ uncommaed quoted escaped (drop (i + 1) text)
  next_dropped e =
      next ∙ ap (λ drops. cond drops (uncommaed quoted escaped (drop (i + 1) text))
      (get_or text i 0 ∷ uncommaed (quoted_after quoted escaped (get_or text i 0)) (escaped_after quoted escaped (get_or text i 0)) (drop (i + 1) text))) e

isnt : (b : Bool) → not b ≡ true → b ≡ false
isnt true e = absurd (cc)
isnt false e = refl

-- after a comma outside quotes
pub after_comma : (quoted escaped : Bool) (b : ℕ) (text : List ℕ) → quoted ≡ false → b ≡ 44
    → uncommaed (quoted_after quoted escaped b) (escaped_after quoted escaped b) text ≡ uncommaed quoted escaped text
after_comma true escaped b text e is = absurd (cc)
after_comma false escaped b text e is = ap (λ q. uncommaed (q == 34) false text) is ∙ sym (outside escaped text)

pub ended : (text : List ℕ) (i : ℕ) (quoted escaped : Bool) → i ≡ length text → uncommaed quoted escaped (drop i text) ≡ []
unfolding uncommaed
ended text i quoted escaped e = ap (uncommaed quoted escaped) (drop_all i text (omega (arith, e)))

-- a value that is no text
pub other_settings : (d : Data) (entries : List Entry) (none : Bool) → as_str d ≡ None → as_object d ≡ Some (members_view entries)
    → ((none ≡ true → length entries ≡ 0) × (length entries ≡ 0 → none ≡ true)) → none ≡ are_layer_settings d
other_settings (object no_members) [] none s o is = is.1 refl
other_settings (object (member k v ms)) [] none s o is = absurd (cc)
other_settings (object no_members) (e ∷ entries) none s o is = absurd (cc)
other_settings (object (member k v ms)) (e ∷ entries) none s o is = by none is.0
  where
    by : (none : Bool) → (none ≡ true → length (e ∷ entries) ≡ 0) → none ≡ false
    by true h = absurd (omega (arith, h refl))
    by false h = refl
other_settings null entries none s o is = absurd (cc)
other_settings (boolean b) entries none s o is = absurd (cc)
other_settings (number n) entries none s o is = absurd (cc)
other_settings (string t) entries none s o is = absurd (cc)
other_settings (array ds) entries none s o is = absurd (cc)

-- an array of another length is no layer
pub no_layer_of_many : (vs : List Value) → 3 ≤ length vs → layer_of_items (items_view vs) ≡ None
no_layer_of_many [] le = absurd (omega (arith, le))
no_layer_of_many (a ∷ []) le = absurd (omega (arith, le))
no_layer_of_many (a ∷ b ∷ []) le = absurd (omega (arith, le))
no_layer_of_many (a ∷ b ∷ c ∷ vs) le = refl

pub too_many_layers : (vs : List Value) → 16 < length vs → layers_of_items (items_view vs) ≡ None
too_many_layers vs gt = ap (λ b. cond b (each_layer (items_view vs)) None) (lt-leb (items_len (items_view vs)) 16 (omega (arith, gt, items_len-items_view vs)))

pub few_layers : (vs : List Value) → length vs ≤ 16 → layers_of_items (items_view vs) ≡ each_layer (items_view vs)
few_layers vs le = ap (λ b. cond b (each_layer (items_view vs)) None) (le-leb (items_len (items_view vs)) 16 (omega (arith, le, items_len-items_view vs)))

-- the layers of all values, if those before i have given some already
abbrev pub left_after : List (List ℕ) → Option (List (List ℕ)) → Option (List (List ℕ))
left_after texts rest = option_map (λ more. texts ++ more) rest

join_left : (texts : List (List ℕ)) (text : List ℕ) (rest : Option (List (List ℕ)))
    → left_after texts (option_map (λ layers. text ∷ layers) rest) ≡ left_after (texts ++ text ∷ []) rest
join_left texts text None = refl
join_left texts text (Some more) = ap Some (sym (append_assoc texts (text ∷ []) more))

module _ (vs : List Value) (i : ℕ) (d : Value) (lt : i < length vs) where
  each_next : each_layer (items_view (drop i vs))
      ≡ option_and_then (λ layer. option_map (λ layers. layer ∷ layers) (each_layer (items_view (drop (i + 1) vs)))) (layer_of_value (view (get_or vs i d)))
  each_next = ap (λ l. each_layer (items_view l)) (drop_more vs i d lt)

  pub one_more_layer : (texts : List (List ℕ)) (text : List ℕ) → layer_of_value (view (get_or vs i d)) ≡ Some text
      → left_after texts (each_layer (items_view (drop i vs))) ≡ left_after (texts ++ text ∷ []) (each_layer (items_view (drop (i + 1) vs)))
  one_more_layer texts text e =
      ap (left_after texts) (each_next ∙ ap (option_and_then (λ layer. option_map (λ layers. layer ∷ layers) (each_layer (items_view (drop (i + 1) vs))))) e)
      ∙ join_left texts text (each_layer (items_view (drop (i + 1) vs)))

  pub no_more_layer : (texts : List (List ℕ)) → layer_of_value (view (get_or vs i d)) ≡ None → left_after texts (each_layer (items_view (drop i vs))) ≡ None
  no_more_layer texts e =
      ap (left_after texts) (each_next ∙ ap (option_and_then (λ layer. option_map (λ layers. layer ∷ layers) (each_layer (items_view (drop (i + 1) vs))))) e)

pub all_layers : (vs : List Value) (i : ℕ) (texts : List (List ℕ)) → i ≡ length vs → left_after texts (each_layer (items_view (drop i vs))) ≡ Some texts
all_layers vs i texts e = ap (λ l. left_after texts (each_layer (items_view l))) (drop_all i vs (omega (arith, e))) ∙ ap Some (append-nil texts)

-- a value that is no text gives layers if it is an array
pub layers_of_others : (d : Data) → as_str d ≡ None → layers_of_value d ≡ option_and_then layers_of_items (as_array d)
layers_of_others null e = refl
layers_of_others (boolean b) e = refl
layers_of_others (number n) e = refl
layers_of_others (string s) e = absurd (cc)
layers_of_others (array ds) e = refl
layers_of_others (object ms) e = refl

pub layers_of_string : (d : Data) (text : List ℕ) → as_str d ≡ Some text → layers_of_value d ≡ layers_of_text text
layers_of_string null text e = absurd (cc)
layers_of_string (boolean b) text e = absurd (cc)
layers_of_string (number n) text e = absurd (cc)
layers_of_string (string s) text e = ap layers_of_text (by s text e)
  where
    by : (a b : List ℕ) → ◌≡◌ {A = Option (List ℕ)} (Some a) (Some b) → a ≡ b
    by a b e = cc
layers_of_string (array ds) text e = absurd (cc)
layers_of_string (object ms) text e = absurd (cc)

-- a byte that is kept, and one that isn't
module _ (text whole kept now : List ℕ) (i : ℕ) (quoted escaped is_quoted is_escaped : Bool) (lt : i < length text)
    (q : is_quoted ≡ quoted_after quoted escaped (get_or text i 0)) (e : is_escaped ≡ escaped_after quoted escaped (get_or text i 0))
    (before : kept ++ uncommaed quoted escaped (drop i text) ≡ whole) where
  after : uncommaed is_quoted is_escaped (drop (i + 1) text)
      ≡ uncommaed (quoted_after quoted escaped (get_or text i 0)) (escaped_after quoted escaped (get_or text i 0)) (drop (i + 1) text)
  after = ap (λ b. uncommaed b is_escaped (drop (i + 1) text)) q ∙ ap (λ b. uncommaed (quoted_after quoted escaped (get_or text i 0)) b (drop (i + 1) text)) e

  pub kept_byte : now ≡ kept ++ get_or text i 0 ∷ [] → (not quoted && ((get_or text i 0 == 44) && is_closed (drop (i + 1) text))) ≡ false
      → now ++ uncommaed is_quoted is_escaped (drop (i + 1) text) ≡ whole
  kept_byte is isnt =
      ap (λ n. n ++ uncommaed is_quoted is_escaped (drop (i + 1) text)) is
      ∙ append_assoc kept (get_or text i 0 ∷ []) (uncommaed is_quoted is_escaped (drop (i + 1) text))
      ∙ ap (λ t. kept ++ get_or text i 0 ∷ t) after
      ∙ ap (λ t. kept ++ t) (sym (next_kept text i quoted escaped lt isnt)) ∙ before

  pub dropped_byte : now ≡ kept → (not quoted && ((get_or text i 0 == 44) && is_closed (drop (i + 1) text))) ≡ true
      → now ++ uncommaed is_quoted is_escaped (drop (i + 1) text) ≡ whole
  dropped_byte is drops =
      ap (λ n. n ++ uncommaed is_quoted is_escaped (drop (i + 1) text)) is
      ∙ ap (λ t. kept ++ t) (after ∙ comma ∙ sym (next_dropped text i quoted escaped lt drops)) ∙ before
    where
      comma : uncommaed (quoted_after quoted escaped (get_or text i 0)) (escaped_after quoted escaped (get_or text i 0)) (drop (i + 1) text) ≡ uncommaed quoted escaped (drop (i + 1) text)
      comma =
          let both = and_parts (not quoted) ((get_or text i 0 == 44) && is_closed (drop (i + 1) text)) drops in
          after_comma quoted escaped (get_or text i 0) (drop (i + 1) text) (isnt quoted both.0)
          (eqb-true (get_or text i 0) 44 (and_parts (get_or text i 0 == 44) (is_closed (drop (i + 1) text)) both.1).0)

pub of_rest : (text : List ℕ) (i : ℕ) (quoted b : Bool) → b ≡ (not quoted && ((get_or text i 0 == 44) && is_closed (take (length text - (i + 1)) (drop (i + 1) text))))
    → b ≡ (not quoted && ((get_or text i 0 == 44) && is_closed (drop (i + 1) text)))
of_rest text i quoted b e = e ∙ ap (λ t. not quoted && ((get_or text i 0 == 44) && is_closed t)) (take_rest text (i + 1))

-- JSON that is no text
pub no_json : (text : List ℕ) (b : Bool) → is_utf8 text ≡ b → (IsUtf8 text → read text ≡ None) → layers_of_json text ≡ None
no_json text true e none =
    ap (λ b. cond b (option_and_then layers_of_items (option_and_then as_array (read text))) None) e
    ∙ ap (λ r. option_and_then layers_of_items (option_and_then as_array r)) (none (IsUtf8-from_is_utf8 text e))
no_json text false e none = ap (λ b. cond b (option_and_then layers_of_items (option_and_then as_array (read text))) None) e

pub of_json : (text : List ℕ) (d : Data) → IsUtf8 text → read text ≡ Some d → layers_of_json text ≡ option_and_then layers_of_items (as_array d)
of_json text d is e =
    ap (λ b. cond b (option_and_then layers_of_items (option_and_then as_array (read text))) None) (is_utf8-from_IsUtf8 text is)
    ∙ ap (λ r. option_and_then layers_of_items (option_and_then as_array r)) e
