-- No answer of a run is `unsure`.
use Rattle.std.proofs.Common.{ℕ, ◌≡◌, Bool, true, false, List, [], ◌∷◌, ◌++◌, sym, subst, ap, ◌∙◌, if◌then◌else◌, ◌&&◌, nat_lt}
use Rattle.std.proofs.lemmas.Grind.{flat_map-append}
use Rattle.std.specs.declared.option.Option.{Option}
use Rattle.ec_positions.specs.Commands.{Done, reply_to}
use Rattle.ec_positions.specs.Objects.{Objects}
use Rattle.run_model.specs.Answers.{IsTold, AreTold}
use Rattle.run_model.specs.Items.{Item, Run, Progress, answer_in, answers_in, commit_if, is_flushed_before, item_of, items_for, items_of, items_so_far, progress, script_of, with_entry, with_entries}
use Rattle.run_model.specs.Records.{RunRecord, KnownTurn, Entry, LineComes, IntervalBegins, IntervalActivates, entries}
use Rattle.run_model.specs.Replies.{Answer, Replied, Failed, Serving, Serves, IsShort, IsDown, Standing, if_serving, answer_to_line}
use Rattle.run_model.specs.Scripts.{ScriptLine, LongLine, BadLine, Client, Operator, AskState, MarkUp, MarkDown, Recover, Rebuild}

-- ---- one answer

told_if_serving : (serving : Serving) (answer : Answer) → IsTold answer → IsTold (if_serving serving answer)
told_if_serving (Serves epoch joined) answer told = told
told_if_serving (IsShort joined min) answer told = tt
told_if_serving (IsDown epoch slots) answer told = tt

told_if : (failed : Bool) (slot : ℕ) (answer : Answer) → IsTold answer → IsTold (if failed then Failed slot else answer)
told_if true slot answer told = tt
told_if false slot answer told = told

told_answer : (pool : Standing) (objects : Objects) (line : ScriptLine) → IsTold (answer_to_line pool objects line)
told_answer pool objects LongLine = tt
told_answer pool objects BadLine = tt
told_answer pool objects (Client command) = told_if_serving pool.serving (Replied (reply_to objects command)) tt
told_answer pool objects (Operator (MarkUp slot)) = told_if_serving pool.serving (Replied (Done [] [])) tt
told_answer pool objects (Operator (MarkDown slot)) = told_if_serving pool.serving (Replied (Done [] [])) tt
told_answer pool objects (Operator Recover) = told_if_serving pool.serving (Replied (Done [] [])) tt
told_answer pool objects (Operator (Rebuild slot)) =
    told_if (pool.failed slot) slot (if_serving (pool.rebuilt slot) (Replied (Done [] []))) (told_if_serving (pool.rebuilt slot) (Replied (Done [] [])) tt)
told_answer pool objects AskState = tt

-- ---- the answers of items

told-append : (xs ys : List Answer) → AreTold xs → AreTold ys → AreTold (xs ++ ys)
told-append [] ys one other = other
told-append (x ∷ xs) ys one other = (one.0, told-append xs ys one.1 other)

told_first : (xs ys : List Answer) → AreTold (xs ++ ys) → AreTold xs
told_first [] ys told = tt
told_first (x ∷ xs) ys told = (told.0, told_first xs ys told.1)

items-append : (xs ys : List Item) → AreTold (answers_in xs) → AreTold (answers_in ys) → AreTold (answers_in (xs ++ ys))
items-append xs ys one other = subst AreTold (sym (flat_map-append answer_in xs ys)) (told-append (answers_in xs) (answers_in ys) one other)

told_commit : (due : Bool) → AreTold (answers_in (commit_if due))
told_commit true = tt
told_commit false = tt

told_item : (run : Run) (fell : List (Option ℕ)) (now : Progress) (entry : Entry) → AreTold (answers_in (item_of run fell now entry ∷ []))
told_item run fell now (LineComes line) = (told_answer _ _ line, tt)
told_item run fell now (IntervalBegins begun) = tt
told_item run fell now IntervalActivates = tt

told_for : (run : Run) (fell : List (Option ℕ)) (now : Progress) (entry : Entry) → AreTold (answers_in (items_for run fell now entry))
told_for run fell now entry =
    let due = nat_lt 0 now.queued && is_flushed_before run fell now entry in
    items-append (commit_if due) (item_of run fell now entry ∷ []) (told_commit due) (told_item run fell now entry)

told_entries : (run : Run) (fell : List (Option ℕ)) (done : List Item) (entries : List Entry) → AreTold (answers_in done)
    → AreTold (answers_in (with_entries run fell done entries))
told_entries run fell done [] told = told
told_entries run fell done (entry ∷ entries) told =
    told_entries run fell (with_entry run fell done entry) entries
    (items-append done (items_for run fell (progress run done) entry) told (told_for run fell (progress run done) entry))

pub answers_are_told : (run : Run) (kept : RunRecord) (known : List KnownTurn) (done rest : List Item)
    → items_of run kept known ≡ done ++ rest → AreTold (answers_in done)
answers_are_told run kept known done rest is =
    let so_far = items_so_far run kept known in
    let due = nat_lt 0 (progress run so_far).queued in
    let all = items-append so_far (commit_if due) (told_entries run kept.fell [] (entries (script_of run) kept known) tt) (told_commit due) in
    told_first (answers_in done) (answers_in rest) (subst AreTold (ap answers_in is ∙ flat_map-append answer_in done rest) all)
