-- A run answers lines by one fold, and a pool that serves answers clients as objects in memory do.
use Rattle.std.proofs.Common.{ℕ, ◌≡◌, ◌+◌, Bool, true, false, List, [], ◌∷◌, ◌++◌, map, take, refl, sym, ap, ◌∙◌, append_assoc, ◌&&◌, nat_lt}
use Rattle.std.proofs.lemmas.Bool.{cond-true}
use Rattle.std.proofs.lemmas.List.{append-nil}
use Rattle.std.proofs.lemmas.Grind.{flat_map-append}
use Rattle.std.specs.FinMap as fin
use Rattle.std.specs.Prelude.{Some, None}
use Rattle.std.specs.declared.option.Option.{Option}
use Rattle.ec_model.specs.Versions.{is_same}
use Rattle.ec_positions.specs.Commands.{Command, Updates, Get, GetAttr, Stat, ListObjects, Flush, Scrub, Refused, refusal_of_command, effect_of, answer_to as answer_of, unless_refused, reply_to}
use Rattle.ec_positions.specs.Objects.{Objects}
use Rattle.ec_positions.specs.Refusals.{Refusal}
use Rattle.ec_positions.specs.Updates.{Update, after}
use Rattle.pool_history.specs.Histories.{PoolChange, Growing, next_change, extended_by, path_of, after_changes, objects_of}
use Rattle.run_model.specs.Scripts.{ScriptLine, LongLine, BadLine, Client, Operator, AskState}
use Rattle.run_model.specs.Replies.{Standing, Serving, Serves, IsShort, IsDown, Replied, if_serving, answer_to_line, in_memory, objects_after_line, objects_after_client, objects_with, replies_in, update_in}
use Rattle.run_model.specs.Records.{Begun, LineComes}
use Rattle.run_model.specs.Items.{Item, Answered, Run, Progress, accepts, answer_in, answer_to, answers_in, progress, start_of, after_item, after_items, commit_if, items_for, is_flushed_before, serving_by, standing, standing_at, objects_now, with_entry, with_entries}
use Rattle.run_model.specs.Laws.{lines_at, lines_in_memory, IsOfClient, IsLong, HasNoForm, Asks, AreOfClients}
use Rattle.run_model.proofs.FailureLemmas.{after-append}
use Rattle.run_model.proofs.ShowLemmas.{same_itself}

-- ---- what an answer tells of the objects

by_refusal : (objects : Objects) (command : Command) (why : Option Refusal)
    → unless_refused why (effect_of objects command) (λ _. objects)
    ≡ objects_with objects (update_in (Client command) (Replied (unless_refused why (answer_of objects command) (λ refusal. Refused refusal))))
by_refusal objects (Updates update) None = refl
by_refusal objects (Updates update) (Some why) = refl
by_refusal objects (Get name) None = refl
by_refusal objects (Get name) (Some why) = refl
by_refusal objects (GetAttr name attr) None = refl
by_refusal objects (GetAttr name attr) (Some why) = refl
by_refusal objects (Stat name) None = refl
by_refusal objects (Stat name) (Some why) = refl
by_refusal objects ListObjects None = refl
by_refusal objects ListObjects (Some why) = refl
by_refusal objects Flush None = refl
by_refusal objects Flush (Some why) = refl
by_refusal objects (Scrub name) None = refl
by_refusal objects (Scrub name) (Some why) = refl

no_update_short : (objects : Objects) (command : Command) (joined min : ℕ) → objects ≡ objects_with objects (update_in (Client command) (if_serving (IsShort joined min) (Replied (reply_to objects command))))
no_update_short objects (Updates update) joined min = refl
no_update_short objects (Get name) joined min = refl
no_update_short objects (GetAttr name attr) joined min = refl
no_update_short objects (Stat name) joined min = refl
no_update_short objects ListObjects joined min = refl
no_update_short objects Flush joined min = refl
no_update_short objects (Scrub name) joined min = refl

no_update_down : (objects : Objects) (command : Command) (epoch slots : ℕ) → objects ≡ objects_with objects (update_in (Client command) (if_serving (IsDown epoch slots) (Replied (reply_to objects command))))
no_update_down objects (Updates update) epoch slots = refl
no_update_down objects (Get name) epoch slots = refl
no_update_down objects (GetAttr name attr) epoch slots = refl
no_update_down objects (Stat name) epoch slots = refl
no_update_down objects ListObjects epoch slots = refl
no_update_down objects Flush epoch slots = refl
no_update_down objects (Scrub name) epoch slots = refl

client_tells : (serving : Serving) (objects : Objects) (command : Command)
    → objects_after_client serving objects command ≡ objects_with objects (update_in (Client command) (if_serving serving (Replied (reply_to objects command))))
client_tells (Serves epoch joined) objects command = by_refusal objects command (refusal_of_command objects command)
client_tells (IsShort joined min) objects command = no_update_short objects command joined min
client_tells (IsDown epoch slots) objects command = no_update_down objects command epoch slots

pub answers_tell : (pool : Standing) (objects : Objects) (line : ScriptLine)
    → objects_after_line pool objects line ≡ objects_with objects (update_in line (answer_to_line pool objects line))
answers_tell pool objects LongLine = refl
answers_tell pool objects BadLine = refl
answers_tell pool objects (Client command) = client_tells pool.serving objects command
answers_tell pool objects (Operator operation) = refl
answers_tell pool objects AskState = refl

-- ---- one line of a run

changes-append : (objects : Objects) (changes : List PoolChange) (last : PoolChange)
    → after_changes objects (changes ++ last ∷ []) ≡ after (after_changes objects changes) last.update
changes-append objects [] last = refl
changes-append objects (first ∷ rest) last = changes-append (after objects first.update) rest last

-- the objects at the head after an update, or none
objects_more : (now : Growing) (update : Option Update)
    → objects_of (extended_by now (accepts update)).history.changes (extended_by now (accepts update)).head
    ≡ objects_with (objects_of now.history.changes now.head) update
objects_more now None = refl
objects_more now (Some update) =
    let x = next_change now update in
    let xs = now.history.changes in
    ap (after_changes fin.empty) (cond-true (is_same x.version x.version) (path_of xs x.prior ++ x ∷ []) (path_of xs x.version) (same_itself x.version))
    ∙ changes-append fin.empty (path_of xs now.head) x

-- a commit point leaves the objects, the intervals, the lines and the answers
commit_objects : (due : Bool) (now : Progress) → objects_now (after_items now (commit_if due)) ≡ objects_now now
commit_objects true now = refl
commit_objects false now = refl

commit_recent : (due : Bool) (now : Progress) → (after_items now (commit_if due)).recent ≡ now.recent
commit_recent true now = refl
commit_recent false now = refl

commit_answered : (due : Bool) (now : Progress) → (after_items now (commit_if due)).answered ≡ now.answered
commit_answered true now = refl
commit_answered false now = refl

commit_answers : (due : Bool) → answers_in (commit_if due) ≡ []
commit_answers true = refl
commit_answers false = refl

-- the flush before a line comes if it is due
abbrev is_due : Run → List (Option ℕ) → Progress → ScriptLine → Bool
is_due run fell now line = nat_lt 0 now.queued && is_flushed_before run fell now (LineComes line)

after_line : (run : Run) (fell : List (Option ℕ)) (done : List Item) (line : ScriptLine)
    → progress run (with_entry run fell done (LineComes line))
    ≡ after_item (after_items (progress run done) (commit_if (is_due run fell (progress run done) line))) (Answered line (answer_to run fell (progress run done) line))
after_line run fell done line =
    let now = progress run done in
    after-append (start_of run) done (items_for run fell now (LineComes line))
    ∙ after-append now (commit_if (is_due run fell now line)) (Answered line (answer_to run fell now line) ∷ [])

line_objects : (run : Run) (fell : List (Option ℕ)) (done : List Item) (line : ScriptLine)
    → objects_now (progress run (with_entry run fell done (LineComes line)))
    ≡ objects_after_line (standing run fell (progress run done)) (objects_now (progress run done)) line
line_objects run fell done line =
    let now = progress run done in
    let update = update_in line (answer_to run fell now line) in
    ap objects_now (after_line run fell done line)
    ∙ objects_more (after_items now (commit_if (is_due run fell now line))).now update
    ∙ ap (λ m. objects_with m update) (commit_objects (is_due run fell now line) now)
    ∙ sym (answers_tell (standing run fell now) (objects_now now) line)

line_recent : (run : Run) (fell : List (Option ℕ)) (done : List Item) (line : ScriptLine)
    → (progress run (with_entry run fell done (LineComes line))).recent ≡ take 1 (progress run done).recent
line_recent run fell done line =
    let now = progress run done in
    ap (λ p. p.recent) (after_line run fell done line) ∙ ap (take 1) (commit_recent (is_due run fell now line) now)

line_answered : (run : Run) (fell : List (Option ℕ)) (done : List Item) (line : ScriptLine)
    → (progress run (with_entry run fell done (LineComes line))).answered ≡ (progress run done).answered + 1
line_answered run fell done line =
    let now = progress run done in
    ap (λ p. p.answered) (after_line run fell done line) ∙ ap (λ n. n + 1) (commit_answered (is_due run fell now line) now)

line_answers : (run : Run) (fell : List (Option ℕ)) (done : List Item) (line : ScriptLine)
    → answers_in (with_entry run fell done (LineComes line)) ≡ answers_in done ++ answer_to run fell (progress run done) line ∷ []
line_answers run fell done line =
    let now = progress run done in
    let due = is_due run fell now line in
    let answer = answer_to run fell now line in
    flat_map-append answer_in done (commit_if due ++ Answered line answer ∷ [])
    ∙ ap (λ rs. answers_in done ++ rs) (flat_map-append answer_in (commit_if due) (Answered line answer ∷ []) ∙ ap (λ rs. rs ++ answer ∷ []) (commit_answers due))

-- ---- lines

pub in_order : (run : Run) (fell : List (Option ℕ)) (done : List Item) (lines : List ScriptLine)
    → answers_in (with_entries run fell done (map LineComes lines))
    ≡ answers_in done ++ replies_in (lines_at run fell (progress run done).recent (progress run done).answered lines) (objects_now (progress run done))
in_order run fell done [] = sym (append-nil (answers_in done))
in_order run fell done (line ∷ lines) =
    let now = progress run done in
    let next = with_entry run fell done (LineComes line) in
    let answer = answer_to run fell now line in
    in_order run fell next lines
    ∙ ap (λ rs. rs ++ replies_in (lines_at run fell (progress run next).recent (progress run next).answered lines) (objects_now (progress run next))) (line_answers run fell done line)
    ∙ append_assoc (answers_in done) (answer ∷ []) (replies_in (lines_at run fell (progress run next).recent (progress run next).answered lines) (objects_now (progress run next)))
    ∙ ap (λ (recent : List Begun). answers_in done ++ answer ∷ replies_in (lines_at run fell recent (progress run next).answered lines) (objects_now (progress run next))) (line_recent run fell done line)
    ∙ ap (λ (n : ℕ). answers_in done ++ answer ∷ replies_in (lines_at run fell (take 1 now.recent) n lines) (objects_now (progress run next))) (line_answered run fell done line)
    ∙ ap (λ (m : Objects). answers_in done ++ answer ∷ replies_in (lines_at run fell (take 1 now.recent) (now.answered + 1) lines) m) (line_objects run fell done line)

-- ---- a pool that serves

client_answer : (pool : Standing) (objects : Objects) (epoch joined : ℕ) (line : ScriptLine)
    → pool.serving ≡ Serves epoch joined → IsOfClient line → answer_to_line pool objects line ≡ answer_to_line in_memory objects line
client_answer pool objects epoch joined line serves IsLong = refl
client_answer pool objects epoch joined line serves HasNoForm = refl
client_answer pool objects epoch joined line serves (Asks command) = ap (λ s. if_serving s (Replied (reply_to objects command))) serves

client_objects : (pool : Standing) (objects : Objects) (epoch joined : ℕ) (line : ScriptLine)
    → pool.serving ≡ Serves epoch joined → IsOfClient line → objects_after_line pool objects line ≡ objects_after_line in_memory objects line
client_objects pool objects epoch joined line serves IsLong = refl
client_objects pool objects epoch joined line serves HasNoForm = refl
client_objects pool objects epoch joined line serves (Asks command) = ap (λ s. objects_after_client s objects command) serves

serving_first : (run : Run) (recent : List Begun) → serving_by run (take 1 recent) ≡ serving_by run recent
serving_first run [] = refl
serving_first run (begun ∷ older) = refl

as_memory : (run : Run) (fell : List (Option ℕ)) (recent : List Begun) (answered epoch joined : ℕ) (lines : List ScriptLine) (objects : Objects)
    → serving_by run recent ≡ Serves epoch joined → AreOfClients lines
    → replies_in (lines_at run fell recent answered lines) objects ≡ replies_in (lines_in_memory lines) objects
as_memory run fell recent answered epoch joined [] objects serves clients = refl
as_memory run fell recent answered epoch joined (line ∷ lines) objects serves clients =
    let pool = standing_at run fell recent answered in
    let more = replies_in (lines_at run fell (take 1 recent) (answered + 1) lines) in
    ap (λ a. a ∷ more (objects_after_line pool objects line)) (client_answer pool objects epoch joined line serves clients.0)
    ∙ ap (λ (m : Objects). answer_to_line in_memory objects line ∷ more m) (client_objects pool objects epoch joined line serves clients.0)
    ∙ ap (λ rs. answer_to_line in_memory objects line ∷ rs)
    (as_memory run fell (take 1 recent) (answered + 1) epoch joined lines (objects_after_line in_memory objects line) (serving_first run recent ∙ serves) clients.1)

pub answers_as_memory : (run : Run) (fell : List (Option ℕ)) (done : List Item) (epoch joined : ℕ) (lines : List ScriptLine)
    → serving_by run (progress run done).recent ≡ Serves epoch joined → AreOfClients lines
    → answers_in (with_entries run fell done (map LineComes lines)) ≡ answers_in done ++ replies_in (lines_in_memory lines) (objects_now (progress run done))
answers_as_memory run fell done epoch joined lines serves clients =
    let now = progress run done in
    in_order run fell done lines
    ∙ ap (λ rs. answers_in done ++ rs) (as_memory run fell now.recent now.answered epoch joined lines (objects_now now) serves clients)
