use Rattle.stripe_map.specs.declared.decoding.DecodeFault.TheVariants.{NotDecided, Lengths}
use Rattle.std.proofs.Common.{rules, ℕ, Err, ◌≡◌, ◌∙◌, length, ap, sym, subst}
use Rattle.std.specs.Prelude.{IfSome}
use Rattle.ec_model.specs.Stripes.{shard_len}
use Rattle.shard_store.specs.Shelves.{store_at}
use Rattle.stripe_map.proofs.DecodingMaskLemmas.{data_is_its_mask}
use Rattle.stripe_map.specs.Decoding.{AllHaveLength}
use Rattle.ec_pipeline.specs.declared.fault.PrepareFault.TheVariants.{Slot}
use Rattle.ec_pipeline.specs.Reading.{Counted, HasSteps}
use Rattle.ec_pipeline.proofs.ReadLemmas.{mask_is, lengths_are, lists_are, mask_or, same_answer}
use Rattle.ec_pipeline.proofs.SetLemmas.{below_16}
use Rattle.ec_pipeline.proofs.reading.read_part.Goals as goal

pub fetch_chunks-requires : goal.fetch_chunks-requires
fetch_chunks-requires g c = record { idle = λ s has. c.requires.idle s (c.in-Some.ensures.some.0 s has) }

pub decode_object-requires-clause-below : goal.decode_object-requires-clause-below
decode_object-requires-clause-below g c =
    let code = (goal.Code-dyn g c.args.code.now).meaning c.args.code.now.1 in
    let set = c.in-Some.set.0 in
    let few = below_16 code.n set c.data_set-wanted.ensures.is_code.few c.in-Some.ensures.below in
    let known : ℕ → Type 0 = λ s. IfSome (store_at c.args.shelf.now s) (HasSteps (g.R.Rig.reads c.args.rig.now) (g.R.Rig.images c.args.rig.now (g.R.Rig.clock c.args.rig.now))) in
    record {
      mask = set;
      is_theirs = mask_is known set c.args.shelf.now c.args.name.now c.args.at c.shard_len-len.result c.in-Ok.chunks few c.in-Ok.ensures.value;
      below = c.in-Some.ensures.below;
    }

pub returns-in-Ok-decode_object-clause-value : goal.returns-in-Ok-decode_object-clause-value
returns-in-Ok-decode_object-clause-value g c bytes long all stored give =
    let code = (goal.Code-dyn g c.args.code.now).meaning c.args.code.now.1 in
    let set = c.in-Some.set.0 in
    let few = below_16 code.n set c.data_set-wanted.ensures.is_code.few c.in-Some.ensures.below in
    let known : ℕ → Type 0 = λ s. IfSome (store_at c.args.shelf.now s) (HasSteps (g.R.Rig.reads c.args.rig.now) (g.R.Rig.images c.args.rig.now (g.R.Rig.clock c.args.rig.now))) in
    let len : c.shard_len-len.result ≡ shard_len code.k c.args.g.unit (length bytes) =
    c.shard_len-len.ensures ∙ ap (λ k. shard_len k c.args.g.unit c.args.size) c.requires.same_k ∙ ap (shard_len code.k c.args.g.unit) (sym long) in
    c.in-Ok-decode_object.ensures.value bytes (record {
      has_size = long;
      all_bytes = all;
      lists = lists_are known set c.args.shelf.now c.args.name.now c.args.at c.shard_len-len.result c.in-Ok.chunks few c.in-Ok.ensures.value
          code c.args.g.unit c.args.joined.0 bytes c.args.g.some_bytes c.in-Some.ensures.some.0 stored len give;
    })

pub unreachable-requires-in-Err-NotDecided : goal.unreachable-requires-in-Err-NotDecided
unreachable-requires-in-Err-NotDecided g c =
    let code = (goal.Code-dyn g c.args.code.now).meaning c.args.code.now.1 in
    let set = c.in-Some.set.0 in
    let few = below_16 code.n set c.data_set-wanted.ensures.is_code.few c.in-Some.ensures.below in
    let known : ℕ → Type 0 = λ s. IfSome (store_at c.args.shelf.now s) (HasSteps (g.R.Rig.reads c.args.rig.now) (g.R.Rig.images c.args.rig.now (g.R.Rig.clock c.args.rig.now))) in
    let is : c.in-Err-NotDecided.field-0 ≡ NotDecided = search rules in
    c.in-Err-NotDecided.ensures.not_decided.0 (ap (λ why. Err why) is) (record {
      mask = set;
      is_theirs = mask_is known set c.args.shelf.now c.args.name.now c.args.at c.shard_len-len.result c.in-Ok.chunks few c.in-Ok.ensures.value;
      decides = (data_is_its_mask code set c.data_set-wanted.result.0 c.data_set-wanted.ensures.is_code c.data_set-wanted.ensures.value).1 c.in-Some.ensures.some.1;
    })

pub unreachable-requires-in-Err-Lengths : goal.unreachable-requires-in-Err-Lengths
unreachable-requires-in-Err-Lengths g c =
    let code = (goal.Code-dyn g c.args.code.now).meaning c.args.code.now.1 in
    let set = c.in-Some.set.0 in
    let few = below_16 code.n set c.data_set-wanted.ensures.is_code.few c.in-Some.ensures.below in
    let known : ℕ → Type 0 = λ s. IfSome (store_at c.args.shelf.now s) (HasSteps (g.R.Rig.reads c.args.rig.now) (g.R.Rig.images c.args.rig.now (g.R.Rig.clock c.args.rig.now))) in
    let is : c.in-Err-Lengths.field-0 ≡ Lengths = search rules in
    (c.in-Err-Lengths.ensures.lengths.0 (ap (λ why. Err why) is)).1
    (subst (λ n. AllHaveLength c.in-Ok.chunks n) c.shard_len-len.ensures
    (lengths_are known set c.args.shelf.now c.args.name.now c.args.at c.shard_len-len.result c.in-Ok.chunks few c.in-Ok.ensures.value))

pub returns-in-Ok-decode_object-clause-counted : goal.returns-in-Ok-decode_object-clause-counted
returns-in-Ok-decode_object-clause-counted g c =
    let set = c.in-Some.set.0 in
    record {
      plan = set;
      data_set = c.data_set-wanted.result.0;
      is_data = c.data_set-wanted.ensures.value;
      itself = λ lies. ap mask_or (c.in-Some.ensures.itself lies);
      least = c.in-Some.ensures.least;
      counted = subst (λ n. Counted set 16 n c.args.shelf.now c.fetch_chunks.new.shelf) c.shard_len-len.ensures c.in-Ok.ensures.counted;
    }

pub returns-in-Err-clause-quiet : goal.returns-in-Err-clause-quiet
returns-in-Err-clause-quiet g c s other = c.in-Err.ensures.quiet s (λ is. other (same_answer _ _ c.in-Err.fault (Slot s) is))

pub returns-in-Err-clause-among : goal.returns-in-Err-clause-among
returns-in-Err-clause-among g c s is = c.in-Some.ensures.some.0 s (c.in-Err.ensures.among s (same_answer _ _ c.in-Err.fault (Slot s) is))
