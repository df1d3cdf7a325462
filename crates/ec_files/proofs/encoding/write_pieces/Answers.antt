use Rattle.std.proofs.Common.{rules, ◌≡◌, ◌≤◌, ◌<◌, ◌*◌, ◌/◌, ◌+◌, ◌-◌, ◌==◌, ◌++◌, length, take, drop, max, ℕ, List, Result, Option, Ok, Err, refl, ap, sym, subst, ◌∙◌, arith, length-append, length-drop}
use Rattle.std.specs.Result.{IsOk, IsErr}
use Rattle.std.proofs.lemmas.Nat.{mul-le}
use Rattle.std.proofs.lemmas.List.{length-take-le}
use Rattle.ec_model.specs.Codes.{IsPositionList}
use Rattle.ec_files.proofs.ChunkPieceLemmas.{no_part, next_part, whole_part, stopped_part, written_in_part, made_list, part_stripes, piece_begins, pieces_reach}
use Rattle.ec_files.proofs.encoding.write_pieces.Goals as goal

pub loop-i-init : goal.loop-i-init
loop-i-init g c =
    let code = (goal.Code-dyn g c.args.code.now).meaning c.args.code.now.1 in
    let some = subst (λ (k : ℕ). 1 ≤ k * c.args.g.unit) c.requires.same_k (mul-le 1 1 c.args.g.k c.args.g.unit c.args.g.some_chunks c.args.g.some_bytes) in
    (no_part code c.args.g.unit c.args.file.now c.args.bytes.now c.args.position (c.stripes_of_piece.result * (c.args.g.k * c.args.g.unit)) (g.F.Files.files c.args.files.now) some, refl, refl)

pub overflow_mul-i : goal.overflow_mul-i
overflow_mul-i g c =
    let width : 1 ≤ c.args.g.k * c.args.g.unit = mul-le 1 1 c.args.g.k c.args.g.unit c.args.g.some_chunks c.args.g.some_bytes in
    let size : 1 ≤ c.stripes_of_piece.result * (c.args.g.k * c.args.g.unit) = mul-le 1 1 c.stripes_of_piece.result (c.args.g.k * c.args.g.unit) c.stripes_of_piece.ensures.some width in
    let room = piece_begins (c.stripes_of_piece.result * (c.args.g.k * c.args.g.unit)) (length c.args.bytes.now) c.loop-i.i c.max-count.result size (c.max-count.ensures ∙ ap (λ n. max n 1) c.div_ceil.ensures) c.loop-i-test.true in
    search rules

pub part-part-requires : goal.part-part-requires
part-part-requires g c =
    let width : 1 ≤ c.args.g.k * c.args.g.unit = mul-le 1 1 c.args.g.k c.args.g.unit c.args.g.some_chunks c.args.g.some_bytes in
    let size : 1 ≤ c.stripes_of_piece.result * (c.args.g.k * c.args.g.unit) = mul-le 1 1 c.stripes_of_piece.result (c.args.g.k * c.args.g.unit) c.stripes_of_piece.ensures.some width in
    let room = piece_begins (c.stripes_of_piece.result * (c.args.g.k * c.args.g.unit)) (length c.args.bytes.now) c.loop-i.i c.max-count.result size (c.max-count.ensures ∙ ap (λ n. max n 1) c.div_ceil.ensures) c.loop-i-test.true in
    room

pub slice_bounds-made-end : goal.slice_bounds-made-end
slice_bounds-made-end g c =
    let width : 1 ≤ c.args.g.k * c.args.g.unit = mul-le 1 1 c.args.g.k c.args.g.unit c.args.g.some_chunks c.args.g.some_bytes in
    let size : 1 ≤ c.stripes_of_piece.result * (c.args.g.k * c.args.g.unit) = mul-le 1 1 c.stripes_of_piece.result (c.args.g.k * c.args.g.unit) c.stripes_of_piece.ensures.some width in
    let room = piece_begins (c.stripes_of_piece.result * (c.args.g.k * c.args.g.unit)) (length c.args.bytes.now) c.loop-i.i c.max-count.result size (c.max-count.ensures ∙ ap (λ n. max n 1) c.div_ceil.ensures) c.loop-i-test.true in
    let stripes = part_stripes (c.args.g.k * c.args.g.unit) c.stripes_of_piece.result c.loop-i.i c.requires.whole.count c.args.bytes.now width c.requires.whole.long room in
    let whole = subst (λ (l : List ℕ). length l ≡ length l / (c.args.g.k * c.args.g.unit) * (c.args.g.k * c.args.g.unit)) (sym c.part-part.ensures) stripes.0 in
    let few = subst (λ (l : List ℕ). length l / (c.args.g.k * c.args.g.unit) ≤ c.stripes_of_piece.result) (sym c.part-part.ensures) stripes.1 in
    let most = mul-le (length c.part-part.result.now / (c.args.g.k * c.args.g.unit)) c.args.g.unit c.stripes_of_piece.result c.args.g.unit few (omega arith) in
    let there : c.stripes_of_piece.result * c.args.g.unit ≡ length c.loop-i.piece = ap (λ n. n * c.args.g.unit) c.stripes_of_piece.ensures.value ∙ sym c.requires.room ∙ sym c.loop-i.invariant.2 in
    omega (arith, most, there)

pub slice_bounds-made-end-in-loop-i : goal.slice_bounds-made-end-in-loop-i
slice_bounds-made-end-in-loop-i g c =
    let width : 1 ≤ c.args.g.k * c.args.g.unit = mul-le 1 1 c.args.g.k c.args.g.unit c.args.g.some_chunks c.args.g.some_bytes in
    let size : 1 ≤ c.stripes_of_piece.result * (c.args.g.k * c.args.g.unit) = mul-le 1 1 c.stripes_of_piece.result (c.args.g.k * c.args.g.unit) c.stripes_of_piece.ensures.some width in
    let room = piece_begins (c.stripes_of_piece.result * (c.args.g.k * c.args.g.unit)) (length c.args.bytes.now) c.loop-i.i c.max-count.result size (c.max-count.ensures ∙ ap (λ n. max n 1) c.div_ceil.ensures) c.loop-i-test.true in
    let stripes = part_stripes (c.args.g.k * c.args.g.unit) c.stripes_of_piece.result c.loop-i.i c.requires.whole.count c.args.bytes.now width c.requires.whole.long room in
    let whole = subst (λ (l : List ℕ). length l ≡ length l / (c.args.g.k * c.args.g.unit) * (c.args.g.k * c.args.g.unit)) (sym c.part-part.ensures) stripes.0 in
    let few = subst (λ (l : List ℕ). length l / (c.args.g.k * c.args.g.unit) ≤ c.stripes_of_piece.result) (sym c.part-part.ensures) stripes.1 in
    let most = mul-le (length c.part-part.result.now / (c.args.g.k * c.args.g.unit)) c.args.g.unit c.stripes_of_piece.result c.args.g.unit few (omega arith) in
    let there : c.stripes_of_piece.result * c.args.g.unit ≡ length c.loop-i.piece = ap (λ n. n * c.args.g.unit) c.stripes_of_piece.ensures.value ∙ sym c.requires.room ∙ sym c.loop-i.invariant.2 in
    sym (length-take-le (length c.part-part.result.now / (c.args.g.k * c.args.g.unit) * c.args.g.unit) c.loop-i.piece (omega (arith, most, there)))

pub write_piece-requires-clause-stripes : goal.write_piece-requires-clause-stripes
write_piece-requires-clause-stripes g c =
    let width : 1 ≤ c.args.g.k * c.args.g.unit = mul-le 1 1 c.args.g.k c.args.g.unit c.args.g.some_chunks c.args.g.some_bytes in
    let size : 1 ≤ c.stripes_of_piece.result * (c.args.g.k * c.args.g.unit) = mul-le 1 1 c.stripes_of_piece.result (c.args.g.k * c.args.g.unit) c.stripes_of_piece.ensures.some width in
    let room = piece_begins (c.stripes_of_piece.result * (c.args.g.k * c.args.g.unit)) (length c.args.bytes.now) c.loop-i.i c.max-count.result size (c.max-count.ensures ∙ ap (λ n. max n 1) c.div_ceil.ensures) c.loop-i-test.true in
    let stripes = part_stripes (c.args.g.k * c.args.g.unit) c.stripes_of_piece.result c.loop-i.i c.requires.whole.count c.args.bytes.now width c.requires.whole.long room in
    let whole = subst (λ (l : List ℕ). length l ≡ length l / (c.args.g.k * c.args.g.unit) * (c.args.g.k * c.args.g.unit)) (sym c.part-part.ensures) stripes.0 in
    let few = subst (λ (l : List ℕ). length l / (c.args.g.k * c.args.g.unit) ≤ c.stripes_of_piece.result) (sym c.part-part.ensures) stripes.1 in
    whole

pub write_piece-requires-clause-room : goal.write_piece-requires-clause-room
write_piece-requires-clause-room g c =
    let width : 1 ≤ c.args.g.k * c.args.g.unit = mul-le 1 1 c.args.g.k c.args.g.unit c.args.g.some_chunks c.args.g.some_bytes in
    let size : 1 ≤ c.stripes_of_piece.result * (c.args.g.k * c.args.g.unit) = mul-le 1 1 c.stripes_of_piece.result (c.args.g.k * c.args.g.unit) c.stripes_of_piece.ensures.some width in
    let room = piece_begins (c.stripes_of_piece.result * (c.args.g.k * c.args.g.unit)) (length c.args.bytes.now) c.loop-i.i c.max-count.result size (c.max-count.ensures ∙ ap (λ n. max n 1) c.div_ceil.ensures) c.loop-i-test.true in
    let stripes = part_stripes (c.args.g.k * c.args.g.unit) c.stripes_of_piece.result c.loop-i.i c.requires.whole.count c.args.bytes.now width c.requires.whole.long room in
    let whole = subst (λ (l : List ℕ). length l ≡ length l / (c.args.g.k * c.args.g.unit) * (c.args.g.k * c.args.g.unit)) (sym c.part-part.ensures) stripes.0 in
    let few = subst (λ (l : List ℕ). length l / (c.args.g.k * c.args.g.unit) ≤ c.stripes_of_piece.result) (sym c.part-part.ensures) stripes.1 in
    let most = mul-le (length c.part-part.result.now / (c.args.g.k * c.args.g.unit)) c.args.g.unit c.stripes_of_piece.result c.args.g.unit few (omega arith) in
    let there : c.stripes_of_piece.result * c.args.g.unit ≡ length c.loop-i.piece = ap (λ n. n * c.args.g.unit) c.stripes_of_piece.ensures.value ∙ sym c.requires.room ∙ sym c.loop-i.invariant.2 in
    length-take-le (length c.part-part.result.now / (c.args.g.k * c.args.g.unit) * c.args.g.unit) c.loop-i.piece (omega (arith, most, there))

pub returns-in_err-write_piece-clause-value : goal.returns-in_err-write_piece-clause-value
returns-in_err-write_piece-clause-value g c =
    let code = (goal.Code-dyn g c.args.code.now).meaning c.args.code.now.1 in
    let files = g.F.Files.files in
    written_in_part code c.args.g.unit c.args.file.now c.args.bytes.now c.args.position (files c.args.files.now) (files c.write_piece.new.files) c.from_residual.result c.from_residual.ensures.0
    (stopped_part code c.args.g.unit c.args.file.now c.args.bytes.now c.args.position (c.stripes_of_piece.result * (c.args.g.k * c.args.g.unit)) c.loop-i.i c.write_piece.new.piece (files c.args.files.now) (files c.loop-i.files) (files c.write_piece.new.files)
    c.write_piece.result c.loop-i.invariant.0 (subst (λ (r : Result _ _). IsErr r) (sym c.in_err-write_piece.was) refl) c.write_piece.ensures.put)

pub loop-i-preserved : goal.loop-i-preserved
loop-i-preserved g c =
    let code = (goal.Code-dyn g c.args.code.now).meaning c.args.code.now.1 in
    let files = g.F.Files.files in
    let width : 1 ≤ c.args.g.k * c.args.g.unit = mul-le 1 1 c.args.g.k c.args.g.unit c.args.g.some_chunks c.args.g.some_bytes in
    let size : 1 ≤ c.stripes_of_piece.result * (c.args.g.k * c.args.g.unit) = mul-le 1 1 c.stripes_of_piece.result (c.args.g.k * c.args.g.unit) c.stripes_of_piece.ensures.some width in
    let room = piece_begins (c.stripes_of_piece.result * (c.args.g.k * c.args.g.unit)) (length c.args.bytes.now) c.loop-i.i c.max-count.result size (c.max-count.ensures ∙ ap (λ n. max n 1) c.div_ceil.ensures) c.loop-i-test.true in
    let stripes = part_stripes (c.args.g.k * c.args.g.unit) c.stripes_of_piece.result c.loop-i.i c.requires.whole.count c.args.bytes.now width c.requires.whole.long room in
    let whole = subst (λ (l : List ℕ). length l ≡ length l / (c.args.g.k * c.args.g.unit) * (c.args.g.k * c.args.g.unit)) (sym c.part-part.ensures) stripes.0 in
    let few = subst (λ (l : List ℕ). length l / (c.args.g.k * c.args.g.unit) ≤ c.stripes_of_piece.result) (sym c.part-part.ensures) stripes.1 in
    let most = mul-le (length c.part-part.result.now / (c.args.g.k * c.args.g.unit)) c.args.g.unit c.stripes_of_piece.result c.args.g.unit few (omega arith) in
    let there : c.stripes_of_piece.result * c.args.g.unit ≡ length c.loop-i.piece = ap (λ n. n * c.args.g.unit) c.stripes_of_piece.ensures.value ∙ sym c.requires.room ∙ sym c.loop-i.invariant.2 in
    let some = subst (λ (k : ℕ). 1 ≤ k * c.args.g.unit) c.requires.same_k width in
    let list = made_list code c.args.g.k c.args.g.unit (length c.part-part.result.now / (c.args.g.k * c.args.g.unit)) c.args.position c.row_of-row.result c.part-part.result.now c.write_piece.new.piece width c.requires.same_k
    c.row_of-row.ensures.inside whole c.write_piece.ensures.room c.write_piece.ensures.made in
    let next = subst (λ (l : List ℕ). IsPositionList code c.args.g.unit l c.args.position c.write_piece.new.piece) c.part-part.ensures list in (
      next_part code c.args.g.unit c.args.file.now c.args.bytes.now c.args.position c.stripes_of_piece.result (c.stripes_of_piece.result * (c.args.g.k * c.args.g.unit)) c.loop-i.i c.write_piece.new.piece
          (files c.args.files.now) (files c.loop-i.files) (files c.write_piece.new.files) c.write_piece.result some
          (ap (λ k. c.stripes_of_piece.result * (k * c.args.g.unit)) c.requires.same_k) room c.loop-i.invariant.0 next
          (subst (λ (r : Result _ _). IsOk r) (sym c.in_ok-write_piece.was) refl) c.write_piece.ensures.put,
      c.in_ok-write_piece.ensures.cause.kept ∙ c.loop-i.invariant.1,
      length-append c.write_piece.new.piece (drop (length c.part-part.result.now / (c.args.g.k * c.args.g.unit) * c.args.g.unit) c.loop-i.piece)
          ∙ omega (arith, c.write_piece.ensures.room, length-drop (length c.part-part.result.now / (c.args.g.k * c.args.g.unit) * c.args.g.unit) c.loop-i.piece, most, there, c.loop-i.invariant.2),
    )

pub returns-clause-value : goal.returns-clause-value
returns-clause-value g c =
    let code = (goal.Code-dyn g c.args.code.now).meaning c.args.code.now.1 in
    let files = g.F.Files.files in
    let width : 1 ≤ c.args.g.k * c.args.g.unit = mul-le 1 1 c.args.g.k c.args.g.unit c.args.g.some_chunks c.args.g.some_bytes in
    let size : 1 ≤ c.stripes_of_piece.result * (c.args.g.k * c.args.g.unit) = mul-le 1 1 c.stripes_of_piece.result (c.args.g.k * c.args.g.unit) c.stripes_of_piece.ensures.some width in
    let end : c.loop-i.i ≡ c.max-count.result = omega (arith, c.loop-i-test.false, c.loop-i.auto.i-end) in
    whole_part code c.args.g.unit c.args.file.now c.args.bytes.now c.args.position (c.stripes_of_piece.result * (c.args.g.k * c.args.g.unit)) c.loop-i.i (files c.args.files.now) (files c.loop-i.files)
    (omega (arith, end, c.max-count.ensures)) (pieces_reach (c.stripes_of_piece.result * (c.args.g.k * c.args.g.unit)) (length c.args.bytes.now) c.loop-i.i size (end ∙ c.max-count.ensures ∙ ap (λ n. max n 1) c.div_ceil.ensures))
    c.loop-i.invariant.0
