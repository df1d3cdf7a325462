use Rattle.std.proofs.Common.{◌≡◌, ◌∙◌, ◌<◌, ◌+◌, ◌++◌, ◌∷◌, [], List, ap, sym, subst, map, take, length, arith}
use Rattle.std.proofs.lemmas.List.{map-append}
use Rattle.std.proofs.lemmas.Grind.{take_at_read}
use Rattle.shard_state.specs.Copies.{AreCopies}
use Rattle.shard_state.specs.Records.{recorded}
use Rattle.shard_state.specs.Sound.{Recorded}
use Rattle.shard_state.proofs.CopyLemmas.{one_copied}
use Rattle.shard_state.proofs.copying.copy_log.Goals as goal

pub loop-i-preserved : goal.loop-i-preserved
loop-i-preserved c =
    let log = c.args.log.now in
    let i = c.loop-i.i in
    let old = c.index-log-i.result in
    let new = c.in_ok-record.record in
    let below : i < length log = omega (arith, c.loop-i-test.true) in
    let more : take (i + 1) log ≡ take i log ++ old ∷ [] = (take_at_read log i old below).1 ∙ ap (λ r. take i log ++ r ∷ []) (sym c.index-log-i.is) in
    let front : map recorded (take (i + 1) log) ≡ map recorded (take i log) ++ recorded old ∷ [] = ap (map recorded) more ∙ map-append recorded (take i log) (old ∷ []) in
    let back : map recorded c.push.new.self.items ≡ map recorded c.loop-i.copy.items ++ recorded new ∷ [] =
    ap (map recorded) c.in_ok-push.ensures.items ∙ map-append recorded c.loop-i.copy.items (new ∷ []) in
    subst (λ (l : List Recorded). AreCopies l (map recorded c.push.new.self.items)) (sym front)
    (subst (AreCopies (map recorded (take i log) ++ recorded old ∷ [])) (sym back)
    (one_copied (map recorded (take i log)) (map recorded c.loop-i.copy.items) (recorded old) (recorded new) c.loop-i.invariant c.in_ok-record.ensures))
