-- The parts of a list up to a version and after it.
use Rattle.std.proofs.Common.{◌≡◌, Bool, true, false, cond, List, [], ◌∷◌, ◌++◌, map, refl, sym, ap, ◌∙◌}
use Rattle.std.specs.List.{list_any}
use Rattle.std.proofs.lemmas.Bool.{cond-true, cond-false, or_right}
use Rattle.ec_model.specs.Versions.{Version, is_up_to}
use Rattle.shard_model.specs.Fronts.{up_to, after}
use Rattle.shard_model.proofs.VersionLemmas.{up_to-trans}

module _ {A : Type 0} (f : A → Version) where
  -- none of a list's versions is above v
  abbrev pub AreUpTo : Version → List A → Type 0
  AreUpTo v [] = Unit {0}
  AreUpTo v (x ∷ xs) = (is_up_to (f x) v ≡ true) × AreUpTo v xs

  -- after v of what is after an earlier t
  pub after-after : (t v : Version) (xs : List A) → is_up_to t v ≡ true → after f v (after f t xs) ≡ after f v xs
  after-after t v [] le = refl
  after-after t v (x ∷ xs) le =
      elim (is_up_to (f x) t) as (λ b. is_up_to (f x) t ≡ b → after f v (cond b (after f t xs) (x ∷ xs)) ≡ after f v (x ∷ xs)) [
        | true ↦ λ e. after-after t v xs le ∙ sym (cond-true _ _ _ (up_to-trans (f x) t v e le))
        | false ↦ λ e. refl
      ] refl

  -- the part between t and v, cut from either end first
  pub up_to-after : (t v : Version) (xs : List A) → is_up_to t v ≡ true → up_to f v (after f t xs) ≡ after f t (up_to f v xs)
  up_to-after t v [] le = refl
  up_to-after t v (x ∷ xs) le =
      elim (is_up_to (f x) t) as (λ b. is_up_to (f x) t ≡ b → up_to f v (cond b (after f t xs) (x ∷ xs)) ≡ after f t (up_to f v (x ∷ xs))) [
        | true ↦ λ e. up_to-after t v xs le
            ∙ sym (ap (after f t) (cond-true _ _ _ (up_to-trans (f x) t v e le)) ∙ cond-true _ _ _ e)
        | false ↦ λ e.
            elim (is_up_to (f x) v) as (λ b. cond b (x ∷ up_to f v xs) [] ≡ after f t (cond b (x ∷ up_to f v xs) [])) [
              | true ↦ sym (cond-false _ _ _ e)
              | false ↦ refl
            ]
      ] refl

  pub after-append : (v : Version) (xs ys : List A) → AreUpTo v xs → after f v (xs ++ ys) ≡ after f v ys
  after-append v [] ys are = refl
  after-append v (x ∷ xs) ys are = cond-true _ _ _ are.0 ∙ after-append v xs ys are.1

  pub up_to-append : (v : Version) (xs ys : List A) → AreUpTo v xs → up_to f v (xs ++ ys) ≡ xs ++ up_to f v ys
  up_to-append v [] ys are = refl
  up_to-append v (x ∷ xs) ys are = cond-true _ _ _ are.0 ∙ ap (λ zs. x ∷ zs) (up_to-append v xs ys are.1)

  pub up_to-all : (v : Version) (xs : List A) → AreUpTo v xs → up_to f v xs ≡ xs
  up_to-all v [] are = refl
  up_to-all v (x ∷ xs) are = cond-true _ _ _ are.0 ∙ ap (λ zs. x ∷ zs) (up_to-all v xs are.1)

  pub up_to-weaken : (v w : Version) (xs : List A) → is_up_to v w ≡ true → AreUpTo v xs → AreUpTo w xs
  up_to-weaken v w [] le are = tt
  up_to-weaken v w (x ∷ xs) le are = (up_to-trans (f x) v w are.0 le, up_to-weaken v w xs le are.1)

  -- a function that keeps the versions may be done before or after
  pub after-map : (h : A → A) → ((x : A) → f (h x) ≡ f x) → (v : Version) (xs : List A) → after f v (map h xs) ≡ map h (after f v xs)
  after-map h same v [] = refl
  after-map h same v (x ∷ xs) =
      ap (λ w. cond (is_up_to w v) (after f v (map h xs)) (h x ∷ map h xs)) (same x)
      ∙ elim (is_up_to (f x) v) as (λ b. cond b (after f v (map h xs)) (h x ∷ map h xs) ≡ map h (cond b (after f v xs) (x ∷ xs))) [
        | true ↦ after-map h same v xs
        | false ↦ refl
      ]

  pub after-push : (v : Version) (xs : List A) (x : A) → is_up_to (f x) v ≡ false → after f v (xs ++ x ∷ []) ≡ after f v xs ++ x ∷ []
  after-push v [] x above = cond-false _ _ _ above
  after-push v (y ∷ xs) x above =
      elim (is_up_to (f y) v) as (λ b. cond b (after f v (xs ++ x ∷ [])) (y ∷ (xs ++ x ∷ [])) ≡ cond b (after f v xs) (y ∷ xs) ++ x ∷ []) [
        | true ↦ after-push v xs x above
        | false ↦ refl
      ]

  -- what is among the later ones is among all
  pub any_after : (p : A → Bool) (v : Version) (xs : List A) → list_any p (after f v xs) ≡ true → list_any p xs ≡ true
  any_after p v [] h = h
  any_after p v (x ∷ xs) h =
      elim (is_up_to (f x) v) as (λ b. list_any p (cond b (after f v xs) (x ∷ xs)) ≡ true → list_any p (x ∷ xs) ≡ true) [
        | true ↦ λ k. or_right (p x) (list_any p xs) (any_after p v xs k)
        | false ↦ λ k. k
      ] h
