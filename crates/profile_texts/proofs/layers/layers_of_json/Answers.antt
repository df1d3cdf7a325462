use Rattle.std.proofs.Common.{true≢false, refl, ap, sym, ◌∙◌}
use Rattle.std.specs.Option.{option_map}
use Rattle.std.specs.Str.{is_utf8}
use Rattle.serde_json.specs.View.{view}
use Rattle.ec_code.specs.LayerValues.{layers_value}
use Rattle.profile_texts.proofs.LayerLemmas.{of_json, no_json}
use Rattle.profile_texts.proofs.layers.layers_of_json.Goals as goal

pub returns-in-Ok : goal.returns-in-Ok
returns-in-Ok c =
    c.layers_of_array.ensures
    ∙ ap (option_map layers_value) (sym (of_json c.args.text.now (view c.in-Ok.value) c.in-Ok.ensures.ok.0 c.in-Ok.ensures.ok.1))

pub returns-in-Err-2 : goal.returns-in-Err-2
returns-in-Err-2 c =
    ap (option_map layers_value)
    (sym (no_json c.args.text.now (is_utf8 c.args.text.now) refl (c.in-Err.ensures.err (λ m. true≢false (sym (c.is_memory.ensures.1 m) ∙ c.if-is_memory.false)))))
