use Rattle.std.proofs.Common.{rules, ◌≡◌, ◌∙◌, ℕ, List, length, drop, sym, subst}
use Rattle.std.proofs.lemmas.List.{take_at}
use Rattle.shard_store.specs.Ranges.{IsToldRange}
use Rattle.shard_store.specs.Shelves.{store_at}
use Rattle.ec_pipeline.proofs.ReadLemmas.{here_at, accepted_at, settled_at, range_told, reads_none}
use Rattle.ec_pipeline.proofs.reading.fetch_chunk.Goals as goal

pub fetch-requires-clause-accepted : goal.fetch-requires-clause-accepted
fetch-requires-clause-accepted g c =
    accepted_at (g.R.Rig.is_here c.args.rig.now) (g.R.Rig.reads c.args.rig.now) (g.R.Rig.images c.args.rig.now (g.R.Rig.clock c.args.rig.now)) c.args.slot (store_at c.args.shelf.now c.args.slot) c.requires.idle

pub fetch-requires-clause-here : goal.fetch-requires-clause-here
fetch-requires-clause-here g c =
    here_at (g.R.Rig.is_here c.args.rig.now) (g.R.Rig.reads c.args.rig.now) (g.R.Rig.images c.args.rig.now (g.R.Rig.clock c.args.rig.now)) c.args.slot (store_at c.args.shelf.now c.args.slot) c.requires.idle

pub fetch-requires-clause-settled : goal.fetch-requires-clause-settled
fetch-requires-clause-settled g c =
    settled_at (g.R.Rig.is_here c.args.rig.now) (g.R.Rig.reads c.args.rig.now) (g.R.Rig.images c.args.rig.now (g.R.Rig.clock c.args.rig.now)) c.args.slot (store_at c.args.shelf.now c.args.slot) c.requires.idle

pub returns-in-Err-clause-rig : goal.returns-in-Err-clause-rig
returns-in-Err-clause-rig g c =
    reads_none g.R.Rig.is_here g.R.Rig.reads g.R.Rig.said g.R.Rig.clock g.R.Rig.images g.R.Rig.faults g.R.Rig.syncs g.R.Rig.bytes_written g.R.Rig.bytes_read c.args.slot c.args.rig.now

pub returns-in-Ok-fetch-clause-value : goal.returns-in-Ok-fetch-clause-value
returns-in-Ok-fetch-clause-value g c has =
    let reads = g.R.Rig.reads c.args.rig.now in
    let images = g.R.Rig.images c.args.rig.now (g.R.Rig.clock c.args.rig.now) in
    let store = store_at c.args.shelf.now c.args.slot in
    let long : length c.deref_mut.result.now ≡ c.args.len = search rules in
    let full : length c.fetch.new.into ≡ c.resize.new.self.len = search rules in
    let same : c.of.result ≡ c.fetch.new.into =
    c.of.ensures ∙ take_at c.fetch.new.into (drop (length c.fetch.new.into) c.resize.new.self.items) c.resize.new.self.len full in
    range_told reads images store c.args.name.now c.args.at c.args.len c.of.result
    (subst (λ (n : ℕ). IsToldRange reads images store c.args.name.now c.args.at n c.of.result) long
    (subst (λ (bytes : List ℕ). IsToldRange reads images store c.args.name.now c.args.at (length c.deref_mut.result.now) bytes) (sym same) c.in-Ok-fetch.ensures.ok))
    has
