use Rattle.std.proofs.Common.{◌-◌, length, ap, Err, rules}
use Rattle.shard_steps.proofs.DecodingLemmas.{read_on, read_less, first_bad}
use Rattle.shard_steps.proofs.decoding.decode_steps.Goals as goal

pub loop-reader-smaller : goal.loop-reader-smaller
loop-reader-smaller c =
    let read = c.in-Ok.ensures.ok in
    read_less c.loop-reader.reader c.next_step.new.reader read.0 c.loop-reader.invariant.bytes read.1

pub loop-reader-preserved : goal.loop-reader-preserved
loop-reader-preserved c =
    let read = c.in-Ok.ensures.ok in
    read_on c.args.text.now c.loop-reader.list.items c.next_step.new.list.items c.loop-reader.reader c.next_step.new.reader read.0
    c.loop-reader.invariant read.1 read.2

pub returns-in-Err-NoStep-clause-bad_step : goal.returns-in-Err-NoStep-clause-bad_step
returns-in-Err-NoStep-clause-bad_step c =
    first_bad c.args.text.now c.loop-reader.list.items c.loop-reader.reader (length c.args.text.now - length c.rest-in-loop-reader.result.now)
    c.loop-reader.invariant (c.in-Err-NoStep.ensures.no_step (ap Err c.in-Err-NoStep.field-0-is)) (search rules)
    (ap (λ t. length c.args.text.now - length t) c.rest-in-loop-reader.ensures)
