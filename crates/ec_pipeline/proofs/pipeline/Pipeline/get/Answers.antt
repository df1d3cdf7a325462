use Rattle.std.proofs.Common.{◌≡◌, inl, inr, refl, sym, ap, subst, ◌∙◌, Some}
use Rattle.std.specs.FinMap as fin
use Rattle.ec_model.specs.Stripes.{shard_len}
use Rattle.ec_words.specs.declared.bytes.Bytes.{Bytes}
use Rattle.ec_positions.specs.Objects.{bytes_in}
use Rattle.ec_pipeline.specs.Drafts.{HasSize}
use Rattle.ec_pipeline.specs.Finding.{IsFound}
use Rattle.ec_pipeline.specs.Reading.{FetchesPlan, GiveRange}
use Rattle.ec_pipeline.proofs.FindLemmas.{bytes_there, found_shown, never_lacks, none_there, not_absent, object_given, ok_not_absent, read_failed, size_there, slot_read, some_there}
use Rattle.ec_pipeline.proofs.ReadLemmas.{failed}
use Rattle.ec_pipeline.proofs.pipeline.Pipeline.get.Goals as goal

pub returns-in-None-clause-absent : goal.returns-in-None-clause-absent
returns-in-None-clause-absent g c unit m head shown =
    let code = (goal.Code-dyn g c.args.code.now).meaning c.args.code.now.1 in
    let set = c.args.joined.0 in
    let shelf = c.args.shelf.now in
    let name = c.args.name.now in
    let there = c.found-there.result in
    let known = found_shown code unit set m head shelf name there.0.k there.0.unit there.1 c.found-there.ensures.value shown in
    (λ _. none_there (fin.get m name) (subst (HasSize (fin.get m name)) c.in-None.is known.2), λ _. refl)

pub returns-in-Ok-clause-value : goal.returns-in-Ok-clause-value
returns-in-Ok-clause-value g c unit m head shown stored =
    let code = (goal.Code-dyn g c.args.code.now).meaning c.args.code.now.1 in
    let set = c.args.joined.0 in
    let shelf = c.args.shelf.now in
    let name = c.args.name.now in
    let there = c.found-there.result in
    let known = found_shown code unit set m head shelf name there.0.k there.0.unit there.1 c.found-there.ensures.value shown in
    let size = c.in-Some.size in
    let has : HasSize (fin.get m name) (Some size) = subst (HasSize (fin.get m name)) c.in-Some.is known.2 in
    let bytes = bytes_in (fin.get m name) in
    let given = object_given code unit set m head shelf name size c.requires.readable shown has in
    let read : c.in-Ok.bytes ≡ bytes =
    c.in-Ok.ensures.value bytes (size_there (fin.get m name) size has) (shown.shows.bytes name) stored (subst (λ u. GiveRange code u set shelf name 0 bytes) (sym known.1) given) in
    bytes_there (fin.get m name) size has ∙ ap (λ b. Some b) (sym read)

pub returns-in-Ok-clause-absent : goal.returns-in-Ok-clause-absent
returns-in-Ok-clause-absent g c unit m head shown =
    let code = (goal.Code-dyn g c.args.code.now).meaning c.args.code.now.1 in
    let set = c.args.joined.0 in
    let shelf = c.args.shelf.now in
    let name = c.args.name.now in
    let there = c.found-there.result in
    let known = found_shown code unit set m head shelf name there.0.k there.0.unit there.1 c.found-there.ensures.value shown in
    let size = c.in-Some.size in
    let has : HasSize (fin.get m name) (Some size) = subst (HasSize (fin.get m name)) c.in-Some.is known.2 in
    (λ e. absurd (ok_not_absent Bytes c.in-Ok.bytes e), λ none. absurd (some_there (fin.get m name) size has none))

pub returns-in-Ok-clause-counted : goal.returns-in-Ok-clause-counted
returns-in-Ok-clause-counted g c unit m head shown =
    let code = (goal.Code-dyn g c.args.code.now).meaning c.args.code.now.1 in
    let set = c.args.joined.0 in
    let shelf = c.args.shelf.now in
    let name = c.args.name.now in
    let there = c.found-there.result in
    let known = found_shown code unit set m head shelf name there.0.k there.0.unit there.1 c.found-there.ensures.value shown in
    let size = c.in-Some.size in
    let new = c.read_part.new.shelf in
    subst (λ n. FetchesPlan code set (shard_len code.k unit n) shelf new) (sym c.in-Ok.ensures.long)
    (subst (λ u. FetchesPlan code set (shard_len code.k u size) shelf new) known.1
    (subst (λ k. FetchesPlan code set (shard_len k there.0.unit size) shelf new) known.0 c.in-Ok.ensures.counted))

pub returns-in-Err-clause-absent : goal.returns-in-Err-clause-absent
returns-in-Err-clause-absent g c unit m head shown =
    let code = (goal.Code-dyn g c.args.code.now).meaning c.args.code.now.1 in
    let set = c.args.joined.0 in
    let shelf = c.args.shelf.now in
    let name = c.args.name.now in
    let there = c.found-there.result in
    let known = found_shown code unit set m head shelf name there.0.k there.0.unit there.1 c.found-there.ensures.value shown in
    let size = c.in-Some.size in
    let has : HasSize (fin.get m name) (Some size) = subst (HasSize (fin.get m name)) c.in-Some.is known.2 in (
      λ e. absurd (not_absent Bytes c.in-Err.fault c.in-Err.ensures.faults (ap (read_failed Bytes) (sym c.read_fault.ensures) ∙ e)),
      λ none. absurd (some_there (fin.get m name) size has none),
    )

pub returns-in-Err-clause-slot : goal.returns-in-Err-clause-slot
returns-in-Err-clause-slot g c s is =
    let there = c.found-there.result in
    let named = slot_read Bytes c.in-Err.fault s c.in-Err.ensures.faults (ap (read_failed Bytes) (sym c.read_fault.ensures) ∙ is) in
    let answer = ap (failed Bytes) named in
    elim (c.in-Err.ensures.slot s answer) [
      | inl rose ↦ inl rose
      | inr lacks ↦ inr (record {
        among = c.in-Err.ensures.among s answer;
        k = there.0.k;
        unit = there.0.unit;
        size = c.in-Some.size;
        found = subst (λ o. IsFound c.args.joined.0 c.args.shelf.now c.args.name.now there.0.k there.0.unit o) c.in-Some.is c.found-there.ensures.value;
        lacks = lacks;
      })
    ]

pub returns-in-Err-clause-by_count : goal.returns-in-Err-clause-by_count
returns-in-Err-clause-by_count g c unit m head s shown is =
    let code = (goal.Code-dyn g c.args.code.now).meaning c.args.code.now.1 in
    elim (returns-in-Err-clause-slot g c s is) [
      | inl rose ↦ rose
      | inr lacks ↦ absurd (never_lacks code unit c.args.joined.0 m head c.args.shelf.now c.args.name.now s c.requires.readable shown lacks)
    ]
