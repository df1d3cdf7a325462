use Rattle.std.proofs.Common.{ap, ◌∙◌, ◌+◌, sym, bit_xor, slice_index}
use Rattle.std.specs.Option.{option_copied}
use Rattle.ec_model.specs.Field.{field_product}
use Rattle.stripe_map.specs.Decoding.{bytes_of}
use Rattle.stripe_map.proofs.DecodingSumLemmas.{nothing_added}
use Rattle.stripe_map.proofs.combining.add_chunk.Goals as goal

pub returns-in-None-clause-value : goal.returns-in-None-clause-value
returns-in-None-clause-value c = λ b _.
    nothing_added c.args.coefficient (slice_index c.args.piece.now b) (c.args.at + b)
    ∙ ap (λ chunk. bit_xor (slice_index c.args.piece.now b) (field_product c.args.coefficient (slice_index (bytes_of (option_copied chunk)) (c.args.at + b)))) (sym c.in-None.is)
