use Rattle.std.proofs.Common.{◌≡◌, ◌≤◌, List, ℕ, Some, length, refl, sym, ap, ◌∙◌, arith}
use Rattle.std.proofs.lemmas.Result.{IfOk-weaker}
use Rattle.ec_positions.specs.Commands.{Updates}
use Rattle.ec_positions.specs.Updates.{Full, WriteAt, overlaid}
use Rattle.pool_run.specs.Served.{Serves}
use Rattle.pool_run.proofs.CommandLemmas.{write_as_full}
use Rattle.pool_run.proofs.OverlayLemmas.{no_bytes_written, none_if, some_if}
use Rattle.pool_run.proofs.ServeLemmas.{served_as_full, write_is_too_large}
use Rattle.pool_run.proofs.objects.Objects.write.Goals as goal

pub returns-then-is_empty-clause-done : goal.returns-then-is_empty-clause-done
returns-then-is_empty-clause-done g c =
    let code = (goal.Code-dyn g c.args.code.now).meaning c.args.code.now.1 in
    let all = c.in_ok-old.old in
    let none : length c.args.bytes.now ≡ 0 = none_if _ _ _ c.is_empty.ensures c.if-is_empty.true (ap (λ (b : List ℕ). length b) c.as_slice-bytes.ensures.value) in
    IfOk-weaker c.full.result
    (Serves code c.args.unit (Some (Updates (Full c.args.name all))) c.args.self.now c.full.new.self)
    (Serves code c.args.unit (Some (Updates (WriteAt c.args.name c.args.off c.args.bytes.now))) c.args.self.now c.full.new.self)
    (λ reply serves objects kept.
    served_as_full code c.args.unit objects (WriteAt c.args.name c.args.off c.args.bytes.now) c.args.name all c.full.new.self reply
    (write_as_full objects c.args.name c.args.off c.args.bytes.now all
    (c.in_ok-old.ensures objects kept ∙ sym (no_bytes_written c.args.off c.args.bytes.now _ none)))
    (serves objects kept))
    c.full.ensures.done

pub returns-then-off-clause-done : goal.returns-then-off-clause-done
returns-then-off-clause-done g c = λ objects kept.
    let code = (goal.Code-dyn g c.args.code.now).meaning c.args.code.now.1 in
    let some : 1 ≤ length c.args.bytes.now = some_if _ _ _ c.is_empty.ensures c.if-is_empty.false (ap (λ (b : List ℕ). length b) c.as_slice-bytes.ensures.value) in
    write_is_too_large code c.args.unit objects c.args.self.now c.args.name c.args.off c.args.bytes.now _ refl some (omega (arith, c.if-off.true)) kept

pub returns-clause-done : goal.returns-clause-done
returns-clause-done g c =
    let code = (goal.Code-dyn g c.args.code.now).meaning c.args.code.now.1 in
    let all = c.in_ok-all.all in
    IfOk-weaker c.full-2.result
    (Serves code c.args.unit (Some (Updates (Full c.args.name all))) c.args.self.now c.full-2.new.self)
    (Serves code c.args.unit (Some (Updates (WriteAt c.args.name c.args.off c.args.bytes.now))) c.args.self.now c.full-2.new.self)
    (λ reply serves objects kept.
    served_as_full code c.args.unit objects (WriteAt c.args.name c.args.off c.args.bytes.now) c.args.name all c.full-2.new.self reply
    (write_as_full objects c.args.name c.args.off c.args.bytes.now all
    (c.in_ok-all.ensures ∙ (λ i. overlaid c.args.off (c.as_slice-bytes.ensures.value i) (c.in_ok-old.ensures objects kept i))))
    (serves objects kept))
    c.full-2.ensures.done
