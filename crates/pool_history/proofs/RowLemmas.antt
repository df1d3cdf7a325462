-- Each transition by itself, and all of them.
use Rattle.pool_history.specs.Histories.{History}
use Rattle.pool_history.specs.Images.{StoredPool, IsStoredPool}
use Rattle.pool_history.specs.Layouts.{Layout}
use Rattle.pool_history.specs.Transitions.{Reaches, Unmoved, Moved, Transition, IntervalBegins, IntervalIsAlive, ShardStarts, ActivationIsComplete, ChangeIsAccepted, ShardTakesChanges, ChangesAreCommitted, SlotIsMarked, SlotIsLost, ShardIsRecovered, HeadIsFirm, FormatIsRaised, IntervalIsClean}
use Rattle.pool_history.specs.Consistency.{Consistent, Agrees}
use Rattle.pool_history.specs.Laws.{BothAgree}
use Rattle.pool_history.proofs.MoveLemmas.{begins, marked, goes_alive, shard_starts, activation_complete}
use Rattle.pool_history.proofs.FillLemmas.{slot_lost, shard_recovered, head_is_firm, format_raised, interval_clean}
use Rattle.pool_history.proofs.ChangeLemmas.{change_accepted, changes_taken, changes_committed}

-- the image changes and the history does not; or the other way round
image_moves : (layout : Layout) (image later : StoredPool) (history : History) → Agrees layout image history → Consistent layout later history
    → BothAgree layout image later history
image_moves layout image later history agrees k = record { before = agrees; after = record { is_history = agrees.is_history; consistent = k } }

history_moves : (layout : Layout) (image : StoredPool) (history : History) → Agrees layout image history → BothAgree layout image image history
history_moves layout image history agrees = record { before = agrees; after = agrees }

pub both_agree : (layout : Layout) (image later : StoredPool) (history after : History) → IsStoredPool layout image → Agrees layout image history
    → Transition layout image history later after → BothAgree layout image later after
both_agree layout image to history after stored agrees (IntervalBegins now epoch up takes) =
    image_moves layout image now history agrees (begins layout image now history stored agrees epoch up takes)
both_agree layout image to history after stored agrees (IntervalIsAlive now epoch up joined base takes chooses) =
    image_moves layout image now history agrees (goes_alive layout image now history stored agrees epoch up joined base takes chooses)
both_agree layout image to history after stored agrees (ShardStarts now p s epoch joined base last member takes) =
    image_moves layout image now history agrees (shard_starts layout image now history stored agrees epoch joined base last p s member takes)
both_agree layout image to history after stored agrees (ActivationIsComplete epoch joined base last new all) =
    history_moves layout image after (activation_complete layout image image history stored agrees epoch joined base last new all)
both_agree layout image to history after stored agrees (ChangeIsAccepted joined base change last follows_on) =
    history_moves layout image after (change_accepted layout image history stored agrees joined base last change follows_on)
both_agree layout image to history after stored agrees (ShardTakesChanges now p s joined base steps last les batch takes) =
    image_moves layout image now history agrees (changes_taken layout image history stored agrees joined base last now p s steps les batch takes)
both_agree layout image to history after stored agrees (ChangesAreCommitted joined base v last may) =
    history_moves layout image after (changes_committed layout image history stored agrees joined base last v may)
both_agree layout image to history after stored agrees (SlotIsMarked now slot down takes) =
    image_moves layout image now history agrees (marked layout image now history stored agrees slot down takes)
both_agree layout image to history after stored agrees (SlotIsLost now p lost) =
    image_moves layout image now history agrees (slot_lost layout p image now history lost agrees.consistent)
both_agree layout image to history after stored agrees (ShardIsRecovered now p joined base last filled) =
    image_moves layout image now history agrees (shard_recovered layout image now history stored agrees p joined base last filled)
both_agree layout image to history after stored agrees (HeadIsFirm now p s les committed takes) =
    image_moves layout image now history agrees (head_is_firm layout image now history stored agrees p s les committed takes)
both_agree layout image to history after stored agrees (FormatIsRaised now format map_is shards) =
    image_moves layout image now history agrees (format_raised layout image now history format map_is shards agrees.consistent)
both_agree layout image to history after stored agrees (IntervalIsClean now epoch joined base alive active all map_is shards) =
    image_moves layout image now history agrees (interval_clean layout image now history stored epoch joined base alive active all map_is shards agrees.consistent)

reached : (layout : Layout) (image : StoredPool) (history : History) (later : StoredPool) (after : History) → Agrees layout image history
    → Reaches layout image history later after → Agrees layout later after
reached layout image history to last agrees Unmoved = agrees
reached layout image history to last agrees (Moved mid later between after first stored step) =
    (both_agree layout mid later between after stored (reached layout image history mid between agrees first) step).after

pub reached_agree : (layout : Layout) (image later : StoredPool) (history after : History) → Agrees layout image history
    → Reaches layout image history later after → Agrees layout later after
reached_agree layout image later history after agrees reach = reached layout image history later after agrees reach
