use Rattle.pool_agreement.proofs.laws.complete_pools_agree.Goals as goal

pub returns : goal.returns
returns g c = λ layout history rig epoch joined agree new complete image said now.
    let was = agree image said now in
    let is = complete.each image said was.contents now was.has in
    record {
      contents = was.contents;
      has = was.has;
      agrees = c.activations_agree.ensures layout was.contents history epoch joined complete.base was.agrees is.newest new (λ p member.
          let reached = is.members p (complete.below p member) member in (
            reached.replay,
            (record { there = reached.there; whole = reached.whole }, reached.reached),
          ));
    }
