-- Items of a record in which slots fail later.
use Rattle.std.proofs.Common.{ℕ, ◌≡◌, ◌≤◌, ◌+◌, Bool, true, false, List, [], ◌∷◌, ◌++◌, refl, ap, subst, ◌∙◌, arith, if◌then◌else◌, ◌&&◌, ◌||◌, nat_lt, nat_le}
use Rattle.std.specs.Prelude.{is_none, slice_index_or, None}
use Rattle.std.specs.declared.option.Option.{Option}
use Rattle.run_model.specs.Scripts.{ScriptLine, LongLine, BadLine, Client, Operator, AskState, MarkUp, MarkDown, Recover, Rebuild}
use Rattle.ec_positions.specs.Commands.{Done}
use Rattle.run_model.specs.Replies.{Replied, Failed, update_in, if_serving}
use Rattle.run_model.specs.Records.{Entry, LineComes, IntervalBegins, IntervalActivates}
use Rattle.run_model.specs.Items.{Item, Answered, Run, Progress, progress, start_of, after_item, after_items, answer_to, commit_if, fell_before, item_of, items_for, is_flushed_before, serving_by, serving_without, with_entry, with_entries}
use Rattle.run_model.specs.Laws.{one_line, count_lines, FailAlike}

pub after-append : (before : Progress) (one other : List Item) → after_items before (one ++ other) ≡ after_items (after_items before one) other
after-append before [] other = refl
after-append before (item ∷ items) other = after-append (after_item before item) items other

same_answer : (run : Run) (fell other : List (Option ℕ)) (now : Progress) (line : ScriptLine)
    → ((slot : ℕ) → fell_before (slice_index_or fell slot None) (now.answered + 1) ≡ fell_before (slice_index_or other slot None) (now.answered + 1))
    → answer_to run fell now line ≡ answer_to run other now line
same_answer run fell other now LongLine alike = refl
same_answer run fell other now BadLine alike = refl
same_answer run fell other now (Client command) alike = refl
same_answer run fell other now (Operator (MarkUp slot)) alike = refl
same_answer run fell other now (Operator (MarkDown slot)) alike = refl
same_answer run fell other now (Operator Recover) alike = refl
same_answer run fell other now (Operator (Rebuild slot)) alike =
    ap (λ b. if b then Failed slot else if_serving (serving_without run slot now.recent (serving_by run now.recent)) (Replied (Done [] []))) (alike slot)
same_answer run fell other now AskState alike = refl

same_items : (run : Run) (fell other : List (Option ℕ)) (now : Progress) (entry : Entry) (rest : ℕ)
    → FailAlike fell other (now.answered + (one_line entry + rest)) → items_for run fell now entry ≡ items_for run other now entry
same_items run fell other now (LineComes line) rest alike =
    let next : now.answered + 1 ≤ now.answered + (1 + rest) = omega arith in
    ap (λ r. commit_if (nat_lt 0 now.queued && (is_none (update_in line r) || nat_le run.depth now.queued)) ++ Answered line r ∷ [])
    (same_answer run fell other now line (λ slot. alike slot (now.answered + 1) next))
same_items run fell other now (IntervalBegins begun) rest alike = refl
same_items run fell other now IntervalActivates rest alike = refl

after_commit : (due : Bool) (now : Progress) → (after_items now (commit_if due)).answered ≡ now.answered
after_commit true now = refl
after_commit false now = refl

one_more : (run : Run) (fell : List (Option ℕ)) (now before : Progress) (entry : Entry)
    → (after_item before (item_of run fell now entry)).answered ≡ before.answered + one_line entry
one_more run fell now before (LineComes line) = refl
one_more run fell now before (IntervalBegins begun) = omega arith
one_more run fell now before IntervalActivates = omega arith

answered_more : (run : Run) (fell : List (Option ℕ)) (done : List Item) (entry : Entry)
    → (progress run (with_entry run fell done entry)).answered ≡ (progress run done).answered + one_line entry
answered_more run fell done entry =
    let now = progress run done in
    let due = nat_lt 0 now.queued && is_flushed_before run fell now entry in
    ap (λ p. p.answered) (after-append (start_of run) done (items_for run fell now entry))
    ∙ ap (λ p. p.answered) (after-append now (commit_if due) (item_of run fell now entry ∷ []))
    ∙ one_more run fell now (after_items now (commit_if due)) entry
    ∙ ap (λ a. a + one_line entry) (after_commit due now)

sum : (a b c d : ℕ) → d ≡ a + b → a + (b + c) ≡ d + c
sum a b c d e = omega arith

pub failures_later : (run : Run) (fell other : List (Option ℕ)) (done : List Item) (entries : List Entry)
    → FailAlike fell other ((progress run done).answered + count_lines entries)
    → with_entries run fell done entries ≡ with_entries run other done entries
failures_later run fell other done [] alike = refl
failures_later run fell other done (entry ∷ entries) alike =
    let now = progress run done in
    let same = same_items run fell other now entry (count_lines entries) alike in
    let number : now.answered + (one_line entry + count_lines entries) ≡ (progress run (with_entry run other done entry)).answered + count_lines entries =
    sum now.answered (one_line entry) (count_lines entries) (progress run (with_entry run other done entry)).answered (answered_more run other done entry) in
    ap (λ items. with_entries run fell (done ++ items) entries) same
    ∙ failures_later run fell other (with_entry run other done entry) entries (subst (FailAlike fell other) number alike)
