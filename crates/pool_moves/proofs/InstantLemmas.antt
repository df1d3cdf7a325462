-- Moves one after another, over calls one after another.
use Rattle.std.proofs.Common.{ℕ, List}
use Rattle.rig_disk.specs.Disk.{Image}
use Rattle.rig_disk.specs.During.{During}
use Rattle.rig_disk.proofs.Moments.{started, weaker, goes_on, at_end}
use Rattle.pool_moves.specs.Contents.{Layout, Contents}
use Rattle.pool_moves.specs.Moves.{Chain, Stays, GoesOn}
use Rattle.pool_moves.specs.Instants.{MovedFrom}

pub chain_on : (Step : Contents → Contents → Type 0) (first mid last : Contents) → Chain Step first mid → Chain Step mid last → Chain Step first last
chain_on Step first mid last before Stays = before
chain_on Step first mid last before (GoesOn near far more one) = GoesOn near far (chain_on Step first mid near before more) one

-- one step alone
pub one_link : (Step : Contents → Contents → Type 0) (first last : Contents) → Step first last → Chain Step first last
one_link Step first last one = GoesOn first last Stays one

-- steps of a wider kind
pub wider : (S T : Contents → Contents → Type 0) → ((before after : Contents) → S before after → T before after) → (first last : Contents) → Chain S first last → Chain T first last
wider S T more first last Stays = Stays
wider S T more first last (GoesOn near far chain one) = GoesOn near far (wider S T more first near chain) (more near far one)

module _ {R : Type 0} (clock : R → ℕ) (images : R → ℕ → Image → List ℕ → Type 0) (Step : Contents → Contents → Type 0) (l : Layout) where
  abbrev Now : R → Image → List ℕ → Type 0
  Now rig image said = images rig (clock rig) image said

  abbrev Runs : R → R → Type 0
  Runs old new = During clock images old new (MovedFrom Step l (Now old))

  -- an image that is as it was
  pub unmoved : (rig : R) (image : Image) (said : List ℕ) → Now rig image said → MovedFrom Step l (Now rig) image said
  unmoved rig image said now = record { source = image; was = now; moved = λ before has. record { after = before; has = has; chain = Stays } }

  pub runs_none : (rig : R) → Runs rig rig
  runs_none rig = started clock images rig (MovedFrom Step l (Now rig)) (unmoved rig)

  -- a call that changes no image
  pub runs_over : (old new : R) → During clock images old new (λ image said. images old (clock old) image said) → Runs old new
  runs_over old new run = weaker clock images old new (λ image said. images old (clock old) image said) (MovedFrom Step l (Now old)) run (unmoved old)

  -- one call after another
  pub runs_on : (old mid new : R) → Runs old mid → Runs mid new → Runs old new
  runs_on old mid new first second = goes_on clock images old mid new (MovedFrom Step l (Now old)) (MovedFrom Step l (Now mid)) first second
      (λ image said then.
      let from = at_end clock images old mid (MovedFrom Step l (Now old)) first then.source said then.was in
      record {
        source = from.source;
        was = from.was;
        moved = λ before has.
            let one = from.moved before has in
            let more = then.moved one.after one.has in
            record { after = more.after; has = more.has; chain = chain_on Step before one.after more.after one.chain more.chain };
      })

-- a call whose steps are of a wider kind too
pub runs_wider : {R : Type 0} (clock : R → ℕ) (images : R → ℕ → Image → List ℕ → Type 0) (S T : Contents → Contents → Type 0) (l : Layout)
    → ((before after : Contents) → S before after → T before after) → (old new : R)
    → During clock images old new (MovedFrom S l (images old (clock old))) → During clock images old new (MovedFrom T l (images old (clock old)))
runs_wider clock images S T l more old new run = weaker clock images old new (MovedFrom S l (images old (clock old))) (MovedFrom T l (images old (clock old))) run
    (λ image said from. record {
      source = from.source;
      was = from.was;
      moved = λ before has. let m = from.moved before has in record { after = m.after; has = m.has; chain = wider S T more before m.after m.chain };
    })
