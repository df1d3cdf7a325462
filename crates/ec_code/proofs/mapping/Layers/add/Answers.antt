use Rattle.std.proofs.Common.{refl}
use Rattle.ec_code.proofs.LayerValueLemmas.{layers_set}
use Rattle.ec_code.proofs.mapping.Layers.add.Goals as goal

pub returns-clause-value : goal.returns-clause-value
returns-clause-value c = λ texts is few.
    layers_set texts c.args.text.now c.args.self.now _ _ is few (record { front = c.front.ensures; len = refl })
