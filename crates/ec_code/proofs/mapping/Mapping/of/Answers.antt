use Rattle.std.proofs.Common.{◌≡◌, ◌==◌, length, ap, ◌∙◌, rules}
use Rattle.std.specs.List.{count_by}
use Rattle.ec_code.specs.LayerValues.{front_of}
use Rattle.ec_code.proofs.LayerValueLemmas.{front_is}
use Rattle.ec_code.proofs.mapping.Mapping.of.Goals as goal

pub returns-clause-value : goal.returns-clause-value
returns-clause-value c =
    let counts : c.count.result ≡ count_by (λ b. b == 68) c.args.text.now = search rules in
    ap (λ first. (record { first = first; len = length c.args.text.now; data_chunks = c.count.result })) (front_is c.args.text.now c.front.result c.front.ensures)
    ∙ ap (λ n. record { first = front_of c.args.text.now; len = length c.args.text.now; data_chunks = n }) counts
