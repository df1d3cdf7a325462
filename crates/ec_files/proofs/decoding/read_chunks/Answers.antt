use Rattle.std.proofs.Common.{rules, refl, get_or, subst, ◌∙◌, Ok, Err, Option, arith}
use Rattle.ec_files.specs.Accesses.{ReadsOrStops}
use Rattle.ec_files.specs.Chunks.{chunk_name}
use Rattle.ec_files.specs.Files.{FileMap}
use Rattle.ec_files.proofs.FetchLemmas.{have_one_more, fetched_one_more, stopped_reading, short_one_more, nothing_had, nothing_fetched, nothing_long}
use Rattle.ec_files.proofs.decoding.read_chunks.Goals as goal

pub returns-in_err-bytes-clause-stopped : goal.returns-in_err-bytes-clause-stopped
returns-in_err-bytes-clause-stopped g c =
    let inv = c.loop-i.invariant in
    let name = chunk_name c.args.name.now (get_or c.args.listed.now c.loop-i.i 0) in
    let stopped = stopped_reading (g.F.Files.files c.args.files.now) c.args.name.now c.args.listed.now c.loop-i.i c.loop-i.chunks c.in_err-bytes.field-0.0 c.loop-i-test.true inv.1
    (subst (λ (files : Option FileMap). ReadsOrStops files name (Err c.in_err-bytes.field-0.0)) inv.2 c.in_err-bytes.ensures.value) in
    search rules

pub loop-i-preserved : goal.loop-i-preserved
loop-i-preserved g c =
    let inv = c.loop-i.invariant in
    let name = chunk_name c.args.name.now (get_or c.args.listed.now c.loop-i.i 0) in
    let reads = subst (λ (files : Option FileMap). ReadsOrStops files name (Ok c.in_ok-bytes.bytes)) inv.2 c.in_ok-bytes.ensures.value in (
      have_one_more c.args.listed.now c.loop-i.i c.loop-i.chunks c.set.new.self c.in_ok-bytes.bytes c.loop-i-test.true c.set.ensures.value c.set.ensures.others inv.0,
      fetched_one_more (g.F.Files.files c.args.files.now) c.args.name.now c.args.listed.now c.loop-i.i c.loop-i.chunks c.set.new.self c.in_ok-bytes.bytes c.loop-i-test.true
          c.set.ensures.value c.set.ensures.others reads inv.1,
      c.in_ok-bytes.ensures.kept ∙ inv.2,
      c.in_ok-bytes.ensures.quiet (λ e. omega arith) ∙ inv.3,
      c.set.ensures.long,
      short_one_more c.loop-i.chunks c.set.new.self (get_or c.args.listed.now c.loop-i.i 0) c.in_ok-bytes.bytes c.in_ok-bytes.ensures.bound c.set.ensures.value c.set.ensures.others inv.5,
    )

pub loop-i-init : goal.loop-i-init
loop-i-init g c = (nothing_had c.new-chunks.result c.new-chunks.ensures.none, nothing_fetched _ _ c.new-chunks.result, refl, refl, c.new-chunks.ensures.long, nothing_long c.new-chunks.result c.new-chunks.ensures.none)
