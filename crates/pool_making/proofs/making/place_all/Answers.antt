use Rattle.std.proofs.Common.{arith}
use Rattle.slot_journal.proofs.CallerLemmas.{other_slots}
use Rattle.pool_making.proofs.FrameLemmas.{all_placed, all_placed_costs, map_asked, map_asked_costs, map_placed, map_placed_costs}
use Rattle.pool_making.proofs.making.place_all.Goals as goal

pub returns-in-Err-clause-kept : goal.returns-in-Err-clause-kept
returns-in-Err-clause-kept g c = map_placed g.R.Rig.is_here g.R.Rig.reads g.R.Rig.said g.R.Rig.faults g.R.Rig.syncs g.R.Rig.bytes_written g.R.Rig.bytes_read
    c.args.n (omega (arith, c.requires.few)) c.args.rig.now c.place.new.self c.place.ensures.said c.place.ensures.here c.place.ensures.only_here c.place.ensures.reads c.place.ensures.kept c.place.ensures.counts

pub returns-in-Err-clause-costs : goal.returns-in-Err-clause-costs
returns-in-Err-clause-costs g c = map_placed_costs g.R.Rig.is_here g.R.Rig.reads g.R.Rig.said g.R.Rig.faults g.R.Rig.syncs g.R.Rig.bytes_written g.R.Rig.bytes_read
    c.args.n (omega (arith, c.requires.few)) c.args.rig.now c.place.new.self c.place.ensures.said c.place.ensures.here c.place.ensures.only_here c.place.ensures.reads c.place.ensures.kept c.place.ensures.counts

pub returns-in-Ok-true-clause-kept : goal.returns-in-Ok-true-clause-kept
returns-in-Ok-true-clause-kept g c = map_asked g.R.Rig.is_here g.R.Rig.reads g.R.Rig.said g.R.Rig.faults g.R.Rig.syncs g.R.Rig.bytes_written g.R.Rig.bytes_read
    c.args.n (omega (arith, c.requires.few)) c.args.rig.now c.place.new.self c.place.ensures.said c.place.ensures.here c.place.ensures.only_here c.place.ensures.reads c.place.ensures.kept c.place.ensures.counts
    c.there.new.rig (other_slots g.R.Rig.is_here g.R.Rig.reads g.R.Rig.said g.R.Rig.faults g.R.Rig.syncs g.R.Rig.bytes_written g.R.Rig.bytes_read 16 0 c.place.new.self c.there.new.rig c.there.ensures.kept.kept) c.there.ensures.kept.syncs c.there.ensures.kept.written

pub returns-in-Ok-true-clause-costs : goal.returns-in-Ok-true-clause-costs
returns-in-Ok-true-clause-costs g c = map_asked_costs g.R.Rig.is_here g.R.Rig.reads g.R.Rig.said g.R.Rig.faults g.R.Rig.syncs g.R.Rig.bytes_written g.R.Rig.bytes_read
    c.args.n (omega (arith, c.requires.few)) c.args.rig.now c.place.new.self c.place.ensures.said c.place.ensures.here c.place.ensures.only_here c.place.ensures.reads c.place.ensures.kept c.place.ensures.counts
    c.there.new.rig (other_slots g.R.Rig.is_here g.R.Rig.reads g.R.Rig.said g.R.Rig.faults g.R.Rig.syncs g.R.Rig.bytes_written g.R.Rig.bytes_read 16 0 c.place.new.self c.there.new.rig c.there.ensures.kept.kept) c.there.ensures.kept.syncs c.there.ensures.kept.written

pub returns-in-Err-there-clause-kept : goal.returns-in-Err-there-clause-kept
returns-in-Err-there-clause-kept g c = map_asked g.R.Rig.is_here g.R.Rig.reads g.R.Rig.said g.R.Rig.faults g.R.Rig.syncs g.R.Rig.bytes_written g.R.Rig.bytes_read
    c.args.n (omega (arith, c.requires.few)) c.args.rig.now c.place.new.self c.place.ensures.said c.place.ensures.here c.place.ensures.only_here c.place.ensures.reads c.place.ensures.kept c.place.ensures.counts
    c.there.new.rig (other_slots g.R.Rig.is_here g.R.Rig.reads g.R.Rig.said g.R.Rig.faults g.R.Rig.syncs g.R.Rig.bytes_written g.R.Rig.bytes_read 16 0 c.place.new.self c.there.new.rig c.there.ensures.kept.kept) c.there.ensures.kept.syncs c.there.ensures.kept.written

pub returns-in-Err-there-clause-costs : goal.returns-in-Err-there-clause-costs
returns-in-Err-there-clause-costs g c = map_asked_costs g.R.Rig.is_here g.R.Rig.reads g.R.Rig.said g.R.Rig.faults g.R.Rig.syncs g.R.Rig.bytes_written g.R.Rig.bytes_read
    c.args.n (omega (arith, c.requires.few)) c.args.rig.now c.place.new.self c.place.ensures.said c.place.ensures.here c.place.ensures.only_here c.place.ensures.reads c.place.ensures.kept c.place.ensures.counts
    c.there.new.rig (other_slots g.R.Rig.is_here g.R.Rig.reads g.R.Rig.said g.R.Rig.faults g.R.Rig.syncs g.R.Rig.bytes_written g.R.Rig.bytes_read 16 0 c.place.new.self c.there.new.rig c.there.ensures.kept.kept) c.there.ensures.kept.syncs c.there.ensures.kept.written

pub returns-clause-kept : goal.returns-clause-kept
returns-clause-kept g c = all_placed g.R.Rig.is_here g.R.Rig.reads g.R.Rig.said g.R.Rig.faults g.R.Rig.syncs g.R.Rig.bytes_written g.R.Rig.bytes_read
    c.args.n (omega (arith, c.requires.few)) c.args.rig.now c.place.new.self c.place.ensures.said c.place.ensures.here c.place.ensures.only_here c.place.ensures.reads c.place.ensures.kept c.place.ensures.counts
    c.there.new.rig (other_slots g.R.Rig.is_here g.R.Rig.reads g.R.Rig.said g.R.Rig.faults g.R.Rig.syncs g.R.Rig.bytes_written g.R.Rig.bytes_read 16 0 c.place.new.self c.there.new.rig c.there.ensures.kept.kept) c.there.ensures.kept.syncs c.there.ensures.kept.written
    c.place_slots.new.rig c.place_slots.ensures.kept c.place_slots.ensures.costs

pub returns-clause-costs : goal.returns-clause-costs
returns-clause-costs g c = all_placed_costs g.R.Rig.is_here g.R.Rig.reads g.R.Rig.said g.R.Rig.faults g.R.Rig.syncs g.R.Rig.bytes_written g.R.Rig.bytes_read
    c.args.n (omega (arith, c.requires.few)) c.args.rig.now c.place.new.self c.place.ensures.said c.place.ensures.here c.place.ensures.only_here c.place.ensures.reads c.place.ensures.kept c.place.ensures.counts
    c.there.new.rig (other_slots g.R.Rig.is_here g.R.Rig.reads g.R.Rig.said g.R.Rig.faults g.R.Rig.syncs g.R.Rig.bytes_written g.R.Rig.bytes_read 16 0 c.place.new.self c.there.new.rig c.there.ensures.kept.kept) c.there.ensures.kept.syncs c.there.ensures.kept.written
    c.place_slots.new.rig c.place_slots.ensures.kept c.place_slots.ensures.costs
