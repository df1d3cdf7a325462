use Rattle.std.proofs.Common.{◌∙◌, ap, sym, length}
use Rattle.std.proofs.lemmas.List.{length-take-le}
use Rattle.shard_store.specs.Told.{Told}
use Rattle.shard_store.proofs.story.Story.pending.Goals as goal

pub returns : goal.returns
returns c =
    sym (length-take-le c.self.inside.body_len c.self.inside.body.items c.self.invariant.within) ∙ ap (λ (t : Told). length t.pending) c.self.view_is
