-- The front of a log, entry by entry_in.
use Rattle.std.proofs.Common.{◌≡◌, ℕ, zero, suc, ◌+◌, ◌<◌, Bool, true, false, List, [], ◌∷◌, ◌++◌, map, take, drop, get_or, slice_set, ◌-◌, ◌≤◌, length, refl, sym, ap, ◌∙◌, arith}
use Rattle.std.proofs.lemmas.List.{drop_more, take_more, length-map, append_assoc, append-nil, length-drop, take-append-le, take_all}
use Rattle.std.proofs.lemmas.Bool.{cond-true, cond-false, false≢true}
use Rattle.ec_model.specs.Versions.{Version, is_up_to}
use Rattle.shard_model.specs.Fronts.{up_to, after}
use Rattle.shard_model.specs.States.{Logged, version_of}
use Rattle.shard_state.specs.Records.{entry_in, recorded}
use Rattle.shard_state.specs.Sound.{Recorded, logged_in}
use Rattle.shard_state.specs.declared.record.Record.{Record}

get_or_map : (es : List Record) (i : ℕ) (e : Record) → get_or (map entry_in es) i (entry_in e) ≡ entry_in (get_or es i e)
get_or_map [] i e = refl
get_or_map (x ∷ es) zero e = refl
get_or_map (x ∷ es) (suc i) e = get_or_map es i e

module _ (v : Version) (es : List Record) (i : ℕ) (e : Record) (inside : i < length es) (is : e ≡ get_or es i e) where
  mapped : i < length (map entry_in es)
  mapped = omega (arith, inside, length-map es entry_in)

  one : get_or (map entry_in es) i (entry_in e) ≡ entry_in e
  one = get_or_map es i e ∙ ap entry_in (sym is)

  drops : drop i (map entry_in es) ≡ entry_in e ∷ drop (i + 1) (map entry_in es)
  drops = drop_more (map entry_in es) i (entry_in e) mapped ∙ ap (λ x. x ∷ drop (i + 1) (map entry_in es)) one

  takes : take (i + 1) (map entry_in es) ≡ take i (map entry_in es) ++ entry_in e ∷ []
  takes = take_more (map entry_in es) i (entry_in e) mapped ∙ ap (λ x. take i (map entry_in es) ++ x ∷ []) one

  pub front_on : is_up_to e.entry.what.version v ≡ true → take (i + 1) (map entry_in es) ++ up_to version_of v (drop (i + 1) (map entry_in es)) ≡ take i (map entry_in es) ++ up_to version_of v (drop i (map entry_in es))
  front_on le =
      ap (λ xs. xs ++ up_to version_of v (drop (i + 1) (map entry_in es))) takes
      ∙ append_assoc (take i (map entry_in es)) (entry_in e ∷ []) (up_to version_of v (drop (i + 1) (map entry_in es)))
      ∙ ap (λ xs. take i (map entry_in es) ++ xs) (sym (ap (up_to version_of v) drops ∙ cond-true (is_up_to e.entry.what.version v) (entry_in e ∷ up_to version_of v (drop (i + 1) (map entry_in es))) [] le))

  pub rest_on : is_up_to e.entry.what.version v ≡ true → after version_of v (drop (i + 1) (map entry_in es)) ≡ after version_of v (drop i (map entry_in es))
  rest_on le = sym (ap (after version_of v) drops ∙ cond-true (is_up_to e.entry.what.version v) (after version_of v (drop (i + 1) (map entry_in es))) (entry_in e ∷ drop (i + 1) (map entry_in es)) le)

  pub front_ends : is_up_to e.entry.what.version v ≡ false → take i (map entry_in es) ≡ take i (map entry_in es) ++ up_to version_of v (drop i (map entry_in es))
  front_ends above =
      sym (append-nil (take i (map entry_in es)))
      ∙ ap (λ xs. take i (map entry_in es) ++ xs) (sym (ap (up_to version_of v) drops ∙ cond-false (is_up_to e.entry.what.version v) (entry_in e ∷ up_to version_of v (drop (i + 1) (map entry_in es))) [] above))

  pub rest_ends : is_up_to e.entry.what.version v ≡ false → drop i (map entry_in es) ≡ after version_of v (drop i (map entry_in es))
  rest_ends above = drops ∙ sym (ap (after version_of v) drops ∙ cond-false (is_up_to e.entry.what.version v) (after version_of v (drop (i + 1) (map entry_in es))) (entry_in e ∷ drop (i + 1) (map entry_in es)) above)

pub log_dropped : (records : List Record) (n : ℕ) → map entry_in (drop n records) ≡ drop n (map entry_in records)
log_dropped records zero = refl
log_dropped [] (suc n) = refl
log_dropped (r ∷ records) (suc n) = log_dropped records n

pub recorded_dropped : (records : List Record) (n : ℕ) → map recorded (drop n records) ≡ drop n (map recorded records)
recorded_dropped records zero = refl
recorded_dropped [] (suc n) = refl
recorded_dropped (r ∷ records) (suc n) = recorded_dropped records n

-- a list that was turned round at n and cut there
pub turned_and_cut : (records : List Record) (n long : ℕ) → n ≤ length records → long ≡ length records → take (long - n) (drop n records ++ take n records) ≡ drop n records
turned_and_cut records n long le is =
    let rest : length (drop n records) ≡ long - n = length-drop n records ∙ ap (λ m. m - n) (sym is) in
    take-append-le (long - n) (drop n records) (take n records) (omega (arith, rest)) ∙ take_all (long - n) (drop n records) (omega (arith, rest))

-- the first and the others
first_or : Recorded → List Recorded → Recorded
first_or d [] = d
first_or d (r ∷ rs) = r

others : List Recorded → List Recorded
others [] = []
others (r ∷ rs) = rs

is_more : List Recorded → Bool
is_more [] = false
is_more (r ∷ rs) = true

parted : (x y : Recorded) (xs ys : List Recorded) → x ∷ xs ≡ y ∷ ys → (x ≡ y) × (xs ≡ ys)
unfolding first_or others
parted x y xs ys e = (ap (first_or x) e, ap others e)

never : (x : Recorded) (xs : List Recorded) → x ∷ xs ≡ [] → ⊥
unfolding is_more
never x xs e = false≢true (sym (ap is_more e))

-- one record more is done
pub settle_step : (S : Recorded → Recorded) (items : List Record) (old : List Recorded) (i : ℕ) (r now : Record) → i < length items → r ≡ get_or items i r
    → recorded now ≡ S (recorded r) → map recorded items ≡ map S (take i old) ++ drop i old
    → map recorded (slice_set items i now) ≡ map S (take (i + 1) old) ++ drop (i + 1) old
settle_step S [] old i r now inside is done so = absurd (omega (arith, inside))
settle_step S (x ∷ items) [] zero r now inside is done so = absurd (never (recorded x) (map recorded items) so)
settle_step S (x ∷ items) (o ∷ old) zero r now inside is done so =
    let parts = parted (recorded x) o (map recorded items) old so in
    λ i. (done ∙ ap (λ y. S (recorded y)) is ∙ ap S parts.0) i ∷ parts.1 i
settle_step S (x ∷ items) [] (suc i) r now inside is done so = absurd (never (recorded x) (map recorded items) so)
settle_step S (x ∷ items) (o ∷ old) (suc i) r now inside is done so =
    let parts = parted (recorded x) (S o) (map recorded items) (map S (take i old) ++ drop i old) so in
    let next : suc (i + 1) ≡ suc i + 1 = omega arith in
    (λ k. parts.0 k ∷ settle_step S items old i r now (omega (arith, inside)) is done parts.1 k)
    ∙ ap (λ n. map S (take n (o ∷ old)) ++ drop n (o ∷ old)) next

-- the entry with an index, in the log without its spares
pub log_at : (records : List Record) (i : ℕ) (d : Logged) (r : Record) → i < length records → get_or (map logged_in (map recorded records)) i d ≡ entry_in (get_or records i r)
log_at [] i d r inside = absurd (omega (arith, inside))
log_at (x ∷ records) zero d r inside = refl
log_at (x ∷ records) (suc i) d r inside = log_at records i d r (omega (arith, inside))
