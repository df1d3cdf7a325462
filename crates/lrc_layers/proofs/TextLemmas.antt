-- The marks of a text, and the layers of a profile.
use Rattle.std.proofs.Common.{◌≡◌, ℕ, List, [], ◌+◌, ◌<◌, ◌≤◌, length, ap, sym, ◌∙◌, arith}
use Rattle.std.specs.Prelude.{slice_index, ◌==◌}
use Rattle.std.proofs.lemmas.Bool.{eq-eqb, ne_eqb}
use Rattle.std.proofs.Math.Seq.{take-length}
use Rattle.std.proofs.lemmas.List.{get_or_past}
use Rattle.std.proofs.lemmas.List.Sums.{count_by_more_yes, count_by_more_no}
use Rattle.std.proofs.lemmas.List.FromFn.{get_or-map-range_with_len, length-map-range_with_len}
use Rattle.ec_model.specs.Lrc.{mark_count, mark_number, layer_text}
use Rattle.ec_code.specs.declared.mapping.Layers.{Layers}
use Rattle.ec_code.specs.Mappings.{layer_at}
use Rattle.ec_code.specs.LrcFaults.{text_of, text_of_layer, layer_texts}
use Rattle.ec_code.proofs.LayoutLemmas.{mark_of_made}

pub mark_inside : (first : List ℕ) (n p : ℕ) → p < n → slice_index (text_of first n) p ≡ slice_index first p
mark_inside first n p lt = mark_of_made (λ p. slice_index first p) n p lt

pub mark_past : (text : List ℕ) (p : ℕ) → length text ≤ p → slice_index text p ≡ 0
mark_past text p le = get_or_past text p 0 le

pub layer_text_at : (layers : Layers) (i : ℕ) → i < layers.count → layer_text (layer_texts layers) i ≡ text_of_layer (layer_at layers.each i)
layer_text_at layers i lt = get_or-map-range_with_len (λ i. text_of_layer (layer_at layers.each i)) 0 layers.count i i [] lt (omega arith)

pub length_of_texts : (layers : Layers) → length (layer_texts layers) ≡ layers.count
length_of_texts layers = length-map-range_with_len (λ i. text_of_layer (layer_at layers.each i)) 0 layers.count

pub more_marks : (mark : ℕ) (text : List ℕ) (p : ℕ) → p < length text → slice_index text p ≡ mark → mark_number mark text (p + 1) ≡ mark_number mark text p + 1
more_marks mark text p lt e = count_by_more_yes (λ b. b == mark) text p 0 lt (eq-eqb (slice_index text p) mark e)

pub no_more_marks : (mark : ℕ) (text : List ℕ) (p : ℕ) → p < length text → (slice_index text p ≡ mark → ⊥) → mark_number mark text (p + 1) ≡ mark_number mark text p
no_more_marks mark text p lt ne = count_by_more_no (λ b. b == mark) text p 0 lt (ne_eqb (slice_index text p) mark ne)

pub whole_count : (mark : ℕ) (text : List ℕ) (n : ℕ) → length text ≡ n → mark_number mark text n ≡ mark_count mark text
whole_count mark text n e = ap (λ t. mark_number mark text t) (sym e) ∙ ap (λ t. mark_count mark t) (take-length text)
