-- Items of a record that grows, and the history that they make.
use Rattle.std.proofs.Common.{ℕ, ◌≡◌, List, [], ◌∷◌, ◌++◌, refl, sym, ap, ◌∙◌, append_assoc}
use Rattle.std.proofs.lemmas.List.{append-nil}
use Rattle.std.specs.declared.option.Option.{Option}
use Rattle.pool_history.specs.Histories.{Growing, Event, grown_by, extended_by}
use Rattle.run_model.specs.Records.{Entry}
use Rattle.run_model.specs.Items.{Item, Answered, IntervalBegun, IntervalActive, Committed, Run, Progress, progress, after_item, after_items, events_in, all_events, items_for, with_entry, with_entries}
use Rattle.run_model.specs.Laws.{IsFirstOf}

extended-append : (now : Growing) (one other : List Event) → extended_by now (one ++ other) ≡ extended_by (extended_by now one) other
extended-append now [] other = refl
extended-append now (event ∷ events) other = extended-append (grown_by now event) events other

one_item : (before : Progress) (item : Item) → (after_item before item).now ≡ extended_by before.now (events_in item)
one_item before (Answered line answer) = refl
one_item before (IntervalBegun begun) = refl
one_item before IntervalActive = refl
one_item before Committed = refl

pub items_grow : (before : Progress) (items : List Item) → (after_items before items).now ≡ extended_by before.now (all_events items)
items_grow before [] = refl
items_grow before (item ∷ items) =
    items_grow (after_item before item) items
    ∙ ap (λ now. extended_by now (all_events items)) (one_item before item)
    ∙ sym (extended-append before.now (events_in item) (all_events items))

pub entries_extend : (run : Run) (fell : List (Option ℕ)) (done : List Item) (entries : List Entry) → IsFirstOf done (with_entries run fell done entries)
entries_extend run fell done [] = record { more = []; is = sym (append-nil done) }
entries_extend run fell done (entry ∷ entries) =
    let more = items_for run fell (progress run done) entry in
    let rest = entries_extend run fell (with_entry run fell done entry) entries in
    record { more = more ++ rest.more; is = rest.is ∙ append_assoc done more rest.more }

pub entries_add : (run : Run) (fell : List (Option ℕ)) (done : List Item) (entries more : List Entry)
    → IsFirstOf (with_entries run fell done entries) (with_entries run fell done (entries ++ more))
entries_add run fell done [] more = entries_extend run fell done more
entries_add run fell done (entry ∷ entries) more = entries_add run fell (with_entry run fell done entry) entries more
