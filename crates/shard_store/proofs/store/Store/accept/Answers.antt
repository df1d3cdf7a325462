use Rattle.std.proofs.Common.{◌++◌, sym, subst}
use Rattle.shard_store.specs.Told.{Told, IsTold}
use Rattle.shard_store.proofs.StoreLemmas.{told_accepted}
use Rattle.shard_store.proofs.store.Store.accept.Goals as goal

pub returns-clause-told : goal.returns-clause-told
returns-clause-told c flushed pending told =
    let t = c.args.self.now.story in
    subst (λ (x : Told). IsTold x flushed (pending ++ t.staged)) (sym c.accept.ensures.value) (told_accepted t flushed pending c.accept.ensures.sound told)
