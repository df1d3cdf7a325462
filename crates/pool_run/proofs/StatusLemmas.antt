-- What was said, by the status in which a run ended.
use Rattle.std.proofs.Common.{◌≡◌, ◌≢◌, ℕ, ◌+◌, ◌<◌, ◌≤◌, nat_lt, Bool, true, false, cond, inl, inr, refl, sym, ap, subst, ◌∙◌, List, [], ◌∷◌, ◌++◌, length, take, Option, Some, None, append-nil, arith, length-append}
use Rattle.std.specs.Prelude.{if◌then◌else◌}
use Rattle.std.specs.List.{list_all}
use Rattle.std.specs.Io.KnownBytes.{Appends, Consumes, IsAtEnd}
use Rattle.std.proofs.lemmas.Bool.{lt-ltb, le-ltb}
use Rattle.rig_disk.specs.Said.{SaysFront}
use Rattle.rig_disk.proofs.CallerLemmas.{Appends-none}
use Rattle.pool_run.specs.Tries.{IsAnswered, SaysInOrder, status_of}
use Rattle.pool_run.specs.Replies.{replies_to, answers_text, is_good}
use Rattle.pool_run.specs.Script.{IsRun, ReadsAll, HadMore}
use Rattle.pool_run.specs.Texts.{OneOf, ComesFor, SaysItsLine, line_of, too_long_line, max_input}

-- what was taken to the end is all that was left
pub all_taken : (before now : Option (List ℕ)) (script input : List ℕ) → before ≡ Some script → ReadsAll before now input → input ≡ script
all_taken before now script input told reads = taken now (subst (λ (b : Option (List ℕ)). Consumes b now input) told reads.taken) reads.at_end where
  taken : (rest : Option (List ℕ)) → Consumes (Some script) rest input → IsAtEnd rest → input ≡ script
  taken None consumed ended = absurd consumed
  taken (Some rest) consumed ended = sym (consumed ∙ ap (λ r. input ++ r) ended ∙ append-nil input)

-- if more than the limit was taken, the script is longer
pub longer : (before now : Option (List ℕ)) (script : List ℕ) → before ≡ Some script → HadMore before now → max_input < length script
longer before now script told more = taken now (subst (λ (b : Option (List ℕ)). Consumes b now more.0) told more.1) where
  taken : (rest : Option (List ℕ)) → Consumes (Some script) rest more.0 → max_input < length script
  taken None consumed = absurd consumed
  taken (Some rest) consumed = let long : length script ≡ length more.0 + length rest = ap length consumed ∙ length-append more.0 rest in omega (arith, more.2)

no_line : (status : ℕ) → OneOf status (0 ∷ 1 ∷ 8 ∷ 9 ∷ 13 ∷ []) → [] ≡ line_of status
no_line status (inl e) = ap line_of (sym e)
no_line status (inr (inl e)) = ap line_of (sym e)
no_line status (inr (inr (inl e))) = ap line_of (sym e)
no_line status (inr (inr (inr (inl e)))) = ap line_of (sym e)
no_line status (inr (inr (inr (inr (inl e))))) = ap line_of (sym e)
no_line status (inr (inr (inr (inr (inr e))))) = absurd e

-- a front of the replies, and no line
front_in_order : (script : List ℕ) (status : ℕ) (before now : Option (List ℕ)) → OneOf status (0 ∷ 1 ∷ 8 ∷ 9 ∷ 13 ∷ []) → (count : ℕ)
    → Appends before now (take count (answers_text (replies_to script))) → (max_input < length script → count ≡ 0) → SaysInOrder script status before now
front_in_order script status before now one count said none = record {
  count = count;
  line = [];
  said = subst (Appends before now) (sym (append-nil (take count (answers_text (replies_to script))))) said;
  whole_line = λ _. no_line status one;
  cut_line = λ _. (0, refl);
  no_reply = none;
}

of_run : (status : ℕ) → OneOf status (0 ∷ 1 ∷ 9 ∷ 13 ∷ []) → OneOf status (0 ∷ 1 ∷ 8 ∷ 9 ∷ 13 ∷ [])
of_run status (inl e) = inl e
of_run status (inr (inl e)) = inr (inl e)
of_run status (inr (inr more)) = inr (inr (inr more))

not_among : (status one : ℕ) → OneOf status (0 ∷ 1 ∷ 9 ∷ 13 ∷ []) → status ≡ one → (one ≡ 0 → ⊥) → (one ≡ 1 → ⊥) → (one ≡ 9 → ⊥) → (one ≡ 13 → ⊥) → ⊥
not_among status one (inl e) is a b c d = a (sym is ∙ e)
not_among status one (inr (inl e)) is a b c d = b (sym is ∙ e)
not_among status one (inr (inr (inl e))) is a b c d = c (sym is ∙ e)
not_among status one (inr (inr (inr (inl e)))) is a b c d = d (sym is ∙ e)
not_among status one (inr (inr (inr (inr e)))) is a b c d = e

-- a script that was read to its end was answered, to its end or in part
answered_of_script : (script : List ℕ) (status : ℕ) (before now left : Option (List ℕ)) → IsAtEnd left → length script ≤ max_input
    → OneOf status (0 ∷ 1 ∷ 9 ∷ 13 ∷ []) → IsRun script status before now → IsAnswered script status before now left
answered_of_script script status before now left ended few one run = record {
  in_order = front_in_order script status before now (of_run status one) run.front.0 run.front.1 (λ long. absurd (omega arith));
  whole = run.whole;
  within = λ _. few;
  at_end = λ _. ended;
  all_done = run.all_done;
  some_refused = run.some_refused;
  unread = λ e. absurd (not_among status 8 one e (λ x. omega arith) (λ x. omega arith) (λ x. omega arith) (λ x. omega arith));
  too_long = λ e. absurd (not_among status 12 one e (λ x. omega arith) (λ x. omega arith) (λ x. omega arith) (λ x. omega arith));
}

pub answered : (script input : List ℕ) (status : ℕ) (before now left_before left : Option (List ℕ)) → left_before ≡ Some script
    → ReadsAll left_before left input → length input ≤ max_input → OneOf status (0 ∷ 1 ∷ 9 ∷ 13 ∷ []) → IsRun input status before now → IsAnswered script status before now left
answered script input status before now left_before left told reads few one run =
    subst (λ (s : List ℕ). IsAnswered s status before now left) (all_taken left_before left script input told reads)
    (answered_of_script input status before now left reads.at_end few one run)

-- nothing was said, since the input failed or memory ran out
pub nothing_said : (script : List ℕ) (status : ℕ) (before left : Option (List ℕ)) → OneOf status (8 ∷ 13 ∷ []) → IsAnswered script status before before left
nothing_said script status before left one = record {
  in_order = front_in_order script status before before (among one) 0 (Appends-none before) (λ _. refl);
  whole = λ o. absurd (other one o);
  within = λ o. absurd (other one o);
  at_end = λ o. absurd (other one o);
  all_done = λ e. absurd (other one (inl e));
  some_refused = λ e. absurd (other one (inr (inl e)));
  unread = λ _. Appends-none before;
  too_long = λ e. absurd (not_long one e);
} where
  among : OneOf status (8 ∷ 13 ∷ []) → OneOf status (0 ∷ 1 ∷ 8 ∷ 9 ∷ 13 ∷ [])
  among (inl e) = inr (inr (inl e))
  among (inr (inl e)) = inr (inr (inr (inr (inl e))))
  among (inr (inr e)) = absurd e

  other : OneOf status (8 ∷ 13 ∷ []) → OneOf status (0 ∷ 1 ∷ []) → ⊥
  other (inl e) (inl f) = omega arith
  other (inl e) (inr (inl f)) = omega arith
  other (inl e) (inr (inr f)) = f
  other (inr (inl e)) (inl f) = omega arith
  other (inr (inl e)) (inr (inl f)) = omega arith
  other (inr (inl e)) (inr (inr f)) = f
  other (inr (inr e)) f = e

  not_long : OneOf status (8 ∷ 13 ∷ []) → status ≡ 12 → ⊥
  not_long (inl e) f = omega arith
  not_long (inr (inl e)) f = omega arith
  not_long (inr (inr e)) f = e

-- the input was too long, and that was said, or some of it if the output failed
pub too_long_said : (script : List ℕ) (status : ℕ) (before now left_before left : Option (List ℕ)) → left_before ≡ Some script → HadMore left_before left
    → OneOf status (12 ∷ 9 ∷ []) → (status ≢ 9 → Appends before now too_long_line) → SaysFront before now too_long_line → IsAnswered script status before now left
too_long_said script status before now left_before left told more one said front = record {
  in_order = in_order one;
  whole = λ o. absurd (other one o);
  within = λ o. absurd (other one o);
  at_end = λ o. absurd (other one o);
  all_done = λ e. absurd (other one (inl e));
  some_refused = λ e. absurd (other one (inr (inl e)));
  unread = λ e. absurd (not_unread one e);
  too_long = λ e. (longer left_before left script told more, said (λ nine. omega arith));
} where
  would_be : line_of (status_of script) ≡ too_long_line
  would_be = ap (λ b. line_of (cond b 12 (cond (list_all is_good (replies_to script)) 0 1))) (lt-ltb max_input (length script) (longer left_before left script told more))

  in_order : OneOf status (12 ∷ 9 ∷ []) → SaysInOrder script status before now
  in_order (inl e) = record {
    count = 0;
    line = too_long_line;
    said = said (λ nine. omega arith);
    whole_line = λ _. ap line_of (sym e);
    cut_line = λ nine. absurd (omega arith);
    no_reply = λ _. refl;
  }
  in_order (inr (inl e)) = record {
    count = 0;
    line = take front.0 too_long_line;
    said = front.1;
    whole_line = λ ne. absurd (ne e);
    cut_line = λ _. (front.0, ap (take front.0) (sym would_be));
    no_reply = λ _. refl;
  }
  in_order (inr (inr e)) = absurd e

  other : OneOf status (12 ∷ 9 ∷ []) → OneOf status (0 ∷ 1 ∷ []) → ⊥
  other (inl e) (inl f) = omega arith
  other (inl e) (inr (inl f)) = omega arith
  other (inl e) (inr (inr f)) = f
  other (inr (inl e)) (inl f) = omega arith
  other (inr (inl e)) (inr (inl f)) = omega arith
  other (inr (inl e)) (inr (inr f)) = f
  other (inr (inr e)) f = e

  not_unread : OneOf status (12 ∷ 9 ∷ []) → status ≡ 8 → ⊥
  not_unread (inl e) f = omega arith
  not_unread (inr (inl e)) f = omega arith
  not_unread (inr (inr e)) f = e

by_tests : (script : List ℕ) (long all : Bool) → nat_lt max_input (length script) ≡ long → list_all is_good (replies_to script) ≡ all
    → status_of script ≡ (if long then 12 else if all then 0 else 1)
by_tests script long all l a = ap (λ b. if b then 12 else if list_all is_good (replies_to script) then 0 else 1) l ∙ ap (λ b. if long then 12 else if b then 0 else 1) a

-- if neither input nor output failed, the script tells the status
pub completed : (script : List ℕ) (status : ℕ) (before now left : Option (List ℕ)) → IsAnswered script status before now left
    → OneOf status (0 ∷ 1 ∷ 8 ∷ 9 ∷ 12 ∷ 13 ∷ []) → (status ≡ 8 → ⊥) → (status ≡ 9 → ⊥) → OneOf status (status_of script ∷ 13 ∷ [])
completed script status before now left is (inl e) not_8 not_9 =
    inl (e ∙ sym (by_tests script false true (le-ltb max_input (length script) (is.within (inl e))) (is.all_done e)))
completed script status before now left is (inr (inl e)) not_8 not_9 =
    inl (e ∙ sym (by_tests script false false (le-ltb max_input (length script) (is.within (inr (inl e)))) (is.some_refused e)))
completed script status before now left is (inr (inr (inl e))) not_8 not_9 = absurd (not_8 e)
completed script status before now left is (inr (inr (inr (inl e)))) not_8 not_9 = absurd (not_9 e)
completed script status before now left is (inr (inr (inr (inr (inl e))))) not_8 not_9 =
    inl (e ∙ sym (by_tests script true (list_all is_good (replies_to script)) (lt-ltb max_input (length script) (is.too_long e).0) refl))
completed script status before now left is (inr (inr (inr (inr (inr (inl e)))))) not_8 not_9 = inr (inl e)
completed script status before now left is (inr (inr (inr (inr (inr (inr e)))))) not_8 not_9 = absurd e

-- a long script of an accepted profile ends with 12, or before that
pub long_script : (script : List ℕ) (status : ℕ) (before now left : Option (List ℕ)) → IsAnswered script status before now left
    → OneOf status (0 ∷ 1 ∷ 8 ∷ 9 ∷ 12 ∷ 13 ∷ []) → ComesFor (max_input < length script) 12 (8 ∷ 9 ∷ 13 ∷ []) status
long_script script status before now left is one = record {
  only = λ e. (is.too_long e).0;
  comes = λ long. come one long;
} where
  come : OneOf status (0 ∷ 1 ∷ 8 ∷ 9 ∷ 12 ∷ 13 ∷ []) → max_input < length script → OneOf status (12 ∷ 8 ∷ 9 ∷ 13 ∷ [])
  come (inl e) long = absurd (omega (arith, long, is.within (inl e)))
  come (inr (inl e)) long = absurd (omega (arith, long, is.within (inr (inl e))))
  come (inr (inr (inl e))) long = inr (inl e)
  come (inr (inr (inr (inl e)))) long = inr (inr (inl e))
  come (inr (inr (inr (inr (inl e))))) long = inl e
  come (inr (inr (inr (inr (inr (inl e)))))) long = inr (inr (inr (inl e)))
  come (inr (inr (inr (inr (inr (inr e)))))) long = absurd e

-- if the words are a command, their status is not 2
pub not_2 : (cause : Type 0) (status : ℕ) (before now : Option (List ℕ)) → (cause → ⊥) → (status ≡ 2 → ⊥) → SaysItsLine cause 2 before now status
not_2 cause status before now never other = record {
  only = λ e. absurd (other e);
  comes = λ is. absurd (never is);
  whole = λ e. absurd (other e);
  front = λ is. absurd (never is);
}

-- the statuses of a script, by what ended it
pub run_statuses : (status : ℕ) → OneOf status (0 ∷ 1 ∷ 9 ∷ 13 ∷ []) → OneOf status (0 ∷ 1 ∷ 8 ∷ 9 ∷ 12 ∷ 13 ∷ [])
run_statuses status (inl e) = inl e
run_statuses status (inr (inl e)) = inr (inl e)
run_statuses status (inr (inr (inl e))) = inr (inr (inr (inl e)))
run_statuses status (inr (inr (inr (inl e)))) = inr (inr (inr (inr (inr (inl e)))))
run_statuses status (inr (inr (inr (inr e)))) = absurd e

pub long_statuses : (status : ℕ) → OneOf status (12 ∷ 9 ∷ []) → OneOf status (0 ∷ 1 ∷ 8 ∷ 9 ∷ 12 ∷ 13 ∷ [])
long_statuses status (inl e) = inr (inr (inr (inr (inl e))))
long_statuses status (inr (inl e)) = inr (inr (inr (inl e)))
long_statuses status (inr (inr e)) = absurd e
