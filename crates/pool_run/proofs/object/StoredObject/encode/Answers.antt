use Rattle.std.proofs.Common.{◌≡◌, ◌<◌, ◌^◌, refl, sym, subst, arith}
use Rattle.std.proofs.lemmas.Grind.{get_or_default_zero}
use Rattle.pool_run.proofs.StoredLemmas.{ListsBelow, no_lists, one_list_more}
use Rattle.pool_run.proofs.object.StoredObject.encode.Goals as goal

pub loop-p-init : goal.loop-p-init
loop-p-init g c = no_lists _ _ _ _ c.new-chunks.ensures.none

pub loop-p-preserved : goal.loop-p-preserved
loop-p-preserved g c =
    one_list_more _ _ _ _ _ c.loop-p.p c.in_ok-chunk.chunk c.loop-p.invariant c.set.ensures.value c.set.ensures.others c.in_ok-chunk.ensures

pub returns : goal.returns
returns g c =
    let code = (goal.Code-dyn g c.args.code.now).meaning c.args.code.now.1 in
    let all : c.loop-p.p ≡ code.n = omega (arith, c.loop-p-test.false, c.loop-p.auto.p-end, c.shape-shape.ensures.0.same_n) in
    let have = subst (ListsBelow code c.args.unit c.args.bytes.now c.loop-p.chunks) all c.loop-p.invariant in
    record {
      within_limit = c.requires.within_limit;
      of_object = record {
        has_size = refl;
        all_bytes = λ i d lt. subst (λ b. b < 2 ^ 8) (sym (get_or_default_zero c.args.bytes.now i d lt)) (c.type_inv.bytes i).fits;
        lists = have.lists;
      };
      positions = have.positions;
    }
