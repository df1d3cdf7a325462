-- A mapping that passes, and layers that pass with it.
use Rattle.std.proofs.Common.{◌≡◌, ◌≢◌, ℕ, List, ◌<◌, ◌≤◌, length, ◌∙◌, arith}
use Rattle.std.specs.Prelude.{◌==◌}
use Rattle.std.specs.declared.option.Option.{Option}
use Rattle.std.proofs.lemmas.List.Sums.{count_by-le-length}
use Rattle.ec_model.specs.Lrc.{data_count}
use Rattle.ec_code.specs.declared.mapping.Mapping.{Mapping}
use Rattle.ec_code.specs.declared.fault.ProfileFault.{ProfileFault}
use Rattle.ec_code.specs.LrcFaults.{mapping_text, HasLayoutFault}
use Rattle.ec_code.proofs.LayoutLemmas.{length_of_text, counted}
use Rattle.ec_code.proofs.LrcRefusalLemmas.{PassesMapping, layout_passes}
use Rattle.lrc_layers.specs.Layouts.{IsMapping, IsSound}

pub mapping_is : (mapping : Mapping) → PassesMapping mapping → IsMapping (mapping_text mapping)
mapping_is mapping passes =
    let long = length_of_text mapping.first mapping.len in
    let count = counted mapping passes.few in
    record {
      few = omega (arith, long, passes.few);
      some_data = omega (arith, count, passes.some_data);
      some_coding = below (mapping_text mapping) mapping.len long (λ e. passes.some_coding (count ∙ e));
    }
  where
    below : (text : List ℕ) (n : ℕ) → length text ≡ n → data_count text ≢ n → data_count text < length text
    below text n e ne = let le = count_by-le-length (λ b. b == 68) text in omega (arith, e, ne, le)

pub mapping_passes : (mapping : Mapping) → IsMapping (mapping_text mapping) → PassesMapping mapping
mapping_passes mapping is =
    let long = length_of_text mapping.first mapping.len in
    let few : mapping.len ≤ 16 = omega (arith, long, is.few) in
    let count = counted mapping few in
    record {
      some_data = omega (arith, count, is.some_data);
      some_coding = λ e. omega (arith, e, count, long, is.some_coding);
      few = few;
    }

-- layers that have no fault
pub sound_of : (mapping : List ℕ) (layers : List (List ℕ)) (unit : ℕ) (least : Option ℕ) → IsMapping mapping
    → ((f : ProfileFault) → HasLayoutFault mapping layers unit least f → ⊥) → IsSound mapping layers
sound_of mapping layers unit least whole none =
    let passes = layout_passes mapping layers unit least none in
    record { whole = whole; lengths = passes.lengths; inputs = passes.inputs; outputs = passes.outputs }
