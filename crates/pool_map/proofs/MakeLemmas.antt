-- The map of a new pool.
use Rattle.std.proofs.Common.{◌≡◌, ◌≤◌, ◌<◌, ◌^◌, ◌&&◌, nat_lt, ◌++◌, ◌∷◌, [], ℕ, zero, suc, Bool, true, false, cond, List, length, Some, Result, Ok, Err, refl, sym, ap, subst, ◌∙◌, arith}
use Rattle.std.proofs.lemmas.Bool.{and_parts, cond-false}
use Rattle.std.proofs.lemmas.List.{append-nil, length-append}
use Rattle.std.proofs.lemmas.Bool.Decides.{nat_tests}
use Rattle.std.specs.Str.{is_utf8, IsAscii}
use Rattle.std.proofs.lemmas.Str.{IsUtf8-from_ascii}
use Rattle.ec_model.specs.Versions.{zero_version}
use Rattle.ec_code.specs.LrcFaults.{has_number}
use Rattle.ec_code.specs.JsonProfiles.{begins_object, profile_of_bytes}
use Rattle.ec_code.specs.Readings.{profile_of}
use Rattle.ec_code.specs.declared.fault.ProfileFault.{ProfileFault}
use Rattle.ec_code.specs.declared.fault.ProfileFault.TheVariants as fault
use Rattle.ec_code.specs.declared.profile.Plugin.{Plugin}
use Rattle.ec_code.specs.declared.profile.Plugin.TheVariants as plugin
use Rattle.ec_code.specs.declared.profile.Profile.{Profile as Plain}
use Rattle.ec_code.proofs.GivenLemmas.{of_settings, of_text}
use Rattle.ec_words.specs.Intervals.{Interval, with_last_alive}
use Rattle.plugin_reg.specs.Canonical.{canonical_lines, lines_of, settings_by, lrc_settings, least_of, PrintsAgain}
use Rattle.ec_words.specs.Readers.{version_bytes}
use Rattle.map_model.specs.States.{MapState, new_state, with_intervals, last_of, fits, state_after, begun, is_inside}
use Rattle.pool_map.specs.Maps.{Leads, IsMapOf, IsCanonical, map_format}
use Rattle.pool_map.specs.Pool.{all_of, first_interval, new_map}
use Rattle.map_model.specs.Steps.{Begin, Alive, Profile}
use Rattle.pool_map.specs.Steps.{step_bytes}
use Rattle.map_model.proofs.ReplayLemmas.{replay_step, nothing_more}

-- the mask of all positions lies below n, is inside itself, and is not empty
masks : ℕ → Bool
masks n = nat_lt (all_of n) 65536 && (nat_lt (all_of n) (2 ^ n) && (is_inside (all_of n) (all_of n) && nat_lt 0 (all_of n)))

masks_fit : (n : ℕ) → 1 ≤ n → n ≤ 16 → masks n ≡ true
unfolding masks
masks_fit zero some few = absurd (omega (arith, some))
masks_fit (suc zero) some few = refl
masks_fit (suc (suc zero)) some few = refl
masks_fit (suc (suc (suc zero))) some few = refl
masks_fit (suc (suc (suc (suc zero)))) some few = refl
masks_fit (suc (suc (suc (suc (suc zero))))) some few = refl
masks_fit (suc (suc (suc (suc (suc (suc zero)))))) some few = refl
masks_fit (suc (suc (suc (suc (suc (suc (suc zero))))))) some few = refl
masks_fit (suc (suc (suc (suc (suc (suc (suc (suc zero)))))))) some few = refl
masks_fit (suc (suc (suc (suc (suc (suc (suc (suc (suc zero))))))))) some few = refl
masks_fit (suc (suc (suc (suc (suc (suc (suc (suc (suc (suc zero)))))))))) some few = refl
masks_fit (suc (suc (suc (suc (suc (suc (suc (suc (suc (suc (suc zero))))))))))) some few = refl
masks_fit (suc (suc (suc (suc (suc (suc (suc (suc (suc (suc (suc (suc zero)))))))))))) some few = refl
masks_fit (suc (suc (suc (suc (suc (suc (suc (suc (suc (suc (suc (suc (suc zero))))))))))))) some few = refl
masks_fit (suc (suc (suc (suc (suc (suc (suc (suc (suc (suc (suc (suc (suc (suc zero)))))))))))))) some few = refl
masks_fit (suc (suc (suc (suc (suc (suc (suc (suc (suc (suc (suc (suc (suc (suc (suc zero))))))))))))))) some few = refl
masks_fit (suc (suc (suc (suc (suc (suc (suc (suc (suc (suc (suc (suc (suc (suc (suc (suc zero)))))))))))))))) some few = refl
masks_fit (suc (suc (suc (suc (suc (suc (suc (suc (suc (suc (suc (suc (suc (suc (suc (suc (suc n))))))))))))))))) some few = absurd (omega (arith, few))

pub record Fits (n : ℕ) : Type 0 where
  pub word : all_of n < 2 ^ 16
  pub below : nat_lt (all_of n) (2 ^ n) ≡ true
  pub joined : (is_inside (all_of n) (all_of n) && nat_lt 0 (all_of n)) ≡ true

masks_parts : (n : ℕ) → masks n ≡ true → Fits n
unfolding masks
masks_parts n all =
    let first = and_parts (nat_lt (all_of n) 65536) _ all in
    let second = and_parts (nat_lt (all_of n) (2 ^ n)) _ first.1 in
    record { word = grind (arith, nat_tests, first.0); below = second.0; joined = second.1 }

fit_begin : (n : ℕ) → nat_lt (all_of n) (2 ^ n) ≡ true → fits n (new_state map_format) (Begin 1 (all_of n)) ≡ true
unfolding last_of
fit_begin n below = below

fit_alive : (n : ℕ) → (is_inside (all_of n) (all_of n) && nat_lt 0 (all_of n)) ≡ true → fits n (state_after (new_state map_format) (Begin 1 (all_of n))) (Alive 1 (all_of n) zero_version) ≡ true
unfolding last_of
fit_alive n joined = joined

one_alive : (n : ℕ) → with_last_alive (all_of n) zero_version (begun 1 (all_of n) ∷ []) ≡ first_interval n ∷ []
unfolding with_last_alive
one_alive n = refl

abbrev first_steps : ℕ → List ℕ
first_steps n = step_bytes (Begin 1 (all_of n)) ++ step_bytes (Alive 1 (all_of n) zero_version)

abbrev first_state : ℕ → MapState
first_state n = with_intervals (new_state map_format) (first_interval n ∷ [])

new_leads : (n : ℕ) → Fits n → Leads n (new_state map_format) (first_steps n) (first_state n)
new_leads n fit = record {
  steps = Begin 1 (all_of n) ∷ Alive 1 (all_of n) zero_version ∷ [];
  writable = ((omega arith, fit.word), ((omega arith, (fit.word, (omega arith, omega arith))), tt));
  bytes = ap (λ (t : List ℕ). step_bytes (Begin 1 (all_of n)) ++ t) (sym (append-nil (step_bytes (Alive 1 (all_of n) zero_version))));
  done =
      let first = new_state map_format in
      replay_step n first (first_state n) (Begin 1 (all_of n)) (Alive 1 (all_of n) zero_version ∷ []) (fit_begin n fit.below)
      (replay_step n (state_after first (Begin 1 (all_of n))) (first_state n) (Alive 1 (all_of n) zero_version) [] (fit_alive n fit.joined)
      (nothing_more n _ ∙ ap (λ (ivs : List Interval). Some (with_intervals first ivs)) (one_alive n)));
}

lrc_not_object : (p : Plain) (least : ℕ) (b : Bool) → begins_object (lines_of (lrc_settings b p least)) ≡ false
lrc_not_object p least true = refl
lrc_not_object p least false = refl

not_object_by : (q : Plugin) (p : Plain) (k n : ℕ) → begins_object (lines_of (settings_by q p k n)) ≡ false
not_object_by plugin.Jerasure p k n = refl
not_object_by plugin.Lrc p k n = lrc_not_object p (least_of p.min_size k n) (has_number p)
not_object_by plugin.Shec p k n = refl

same_ok : (p q : Plain) → ◌≡◌ {A = Result Plain ProfileFault} (Ok p) (Ok q) → p ≡ q
same_ok p q e = cc

no_ok : (f : ProfileFault) (q : Plain) → ◌≡◌ {A = Result Plain ProfileFault} (Err f) (Ok q) → ⊥
no_ok f q e = cc

same_reading : (text : List ℕ) (own again : Plain) → begins_object text ≡ false → profile_of_bytes text ≡ Ok own → profile_of text ≡ Ok again → own ≡ again
same_reading text own again plain is read =
    elim (is_utf8 text) as (λ b. cond b (profile_of text) (Err fault.Setting) ≡ Ok own → own ≡ again) [
      | true ↦ λ e. same_ok own again (sym e ∙ read)
      | false ↦ λ e. absurd (no_ok fault.Setting own e)
    ] (sym (cond-false _ _ _ plain) ∙ is)

canonical_again : (p own : Plain) (k n lead : ℕ) (lines : List ℕ) → lines ≡ canonical_lines p k n → PrintsAgain lines k n lead → profile_of_bytes lines ≡ Ok own
    → IsCanonical lines own k n own.stripe_unit
canonical_again p own k n lead lines is prints read =
    let same = same_reading lines own prints.again (ap begins_object is ∙ not_object_by p.plugin p k n) read prints.read in
    subst (λ (q : Plain). IsCanonical lines q k n q.stripe_unit) (sym same) (record {
      lead = lead;
      code = prints.code;
      read = read ∙ ap (λ (q : Plain). Ok q) same;
      accepted = prints.accepted;
      code_of = prints.code_of;
      shape = prints.shape;
      same = prints.same;
      same_unit = refl;
    })

-- the canonical lines are read back, and not refused
pub read_back : (p : Plain) (k n lead : ℕ) (lines : List ℕ) → lines ≡ canonical_lines p k n → IsAscii lines → (prints : PrintsAgain lines k n lead) → profile_of_bytes lines ≡ Ok prints.again
read_back p k n lead lines is ascii prints =
    of_settings lines (ap begins_object is ∙ not_object_by p.plugin p k n) ∙ of_text lines (IsUtf8-from_ascii lines ascii) ∙ prints.read

pub not_refused : (p : Plain) (k n lead : ℕ) (lines : List ℕ) (f : ProfileFault) → lines ≡ canonical_lines p k n → IsAscii lines → PrintsAgain lines k n lead
    → profile_of_bytes lines ≡ Err f → ⊥
not_refused p k n lead lines f is ascii prints refused = no_ok f prints.again (sym refused ∙ read_back p k n lead lines is ascii prints)

pub first_gives : (p own : Plain) (k n lead : ℕ) (lines body : List ℕ) → 1 ≤ n → n ≤ 16 → length lines ≤ 4000 → lines ≡ canonical_lines p k n
    → PrintsAgain lines k n lead → profile_of_bytes lines ≡ Ok own
    → body ≡ step_bytes (Profile lines) ++ (step_bytes (Begin 1 (all_of n)) ++ step_bytes (Alive 1 (all_of n) zero_version))
    → IsMapOf k own.stripe_unit map_format (body ∷ []) (new_map own n)
first_gives p own k n lead lines body some few short is prints read bytes = record {
  lines = lines;
  rest = first_steps n;
  more = [];
  counted = omega (arith, short);
  bytes = ap (λ (b : List ℕ). b ∷ []) bytes;
  canonical = canonical_again p own k n lead lines is prints read;
  lead = (_, (new_leads n (masks_parts n (masks_fit n some few)), refl));
}

pub body_short : (n : ℕ) (lines body : List ℕ) → length lines ≤ 4000
    → body ≡ step_bytes (Profile lines) ++ (step_bytes (Begin 1 (all_of n)) ++ step_bytes (Alive 1 (all_of n) zero_version)) → length body ≤ 4031
unfolding version_bytes
body_short n lines body short is =
    omega (arith, short, ap length is, length-append (step_bytes (Profile lines)) (first_steps n), length-append (step_bytes (Begin 1 (all_of n))) (step_bytes (Alive 1 (all_of n) zero_version)))
