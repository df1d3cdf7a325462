-- A script is answered line by line.
use Rattle.std.proofs.Common.{◌≡◌, ℕ, suc, ◌+◌, ◌<◌, ◌≤◌, min, Bool, true, false, cond, if◌then◌else◌, ◌&&◌, List, [], ◌∷◌, ◌++◌, length, map, take, drop, get_or, refl, sym, ap, subst, ◌∙◌, Option, Bor, append-nil, arith, inl, inr, drop-cons}
use Rattle.std.specs.List.{list_all}
use Rattle.std.specs.FinMap as finite
use Rattle.std.specs.Io.KnownBytes.{Appends}
use Rattle.std.proofs.lemmas.List.{take-append-drop, take-append-le, take_all, take_more, take_min, map-append, map_push}
use Rattle.std.proofs.lemmas.List.Folds.{list_all-append}
use Rattle.std.proofs.lemmas.Grind.{flat_map-append}
use Rattle.std.proofs.Math.Seq.{take-append-add, take-length}
use Rattle.std.proofs.Math.Bool.{and-true}
use Rattle.ec_positions.specs.Objects.{Objects}
use Rattle.ec_positions.specs.Commands.{Command, Reply, apply_line, apply_lines, reply_to_line, replies_to_lines}
use Rattle.ec_model.specs.Codes.{CodeRows}
use Rattle.rig_disk.specs.Said.{SaysFront}
use Rattle.rig_disk.proofs.CallerLemmas.{Appends-none, Appends-more}
use Rattle.ec_words.specs.Fields.{fields}
use Rattle.run_model.specs.Scripts.{LongLine}
use Rattle.pool_run.specs.Lines.{ScriptLine, BadLine, Client, Operator, AskState, command_in, command_of, commands_of, is_served, kept_lines, line_of_fields, script_line}
use Rattle.run_model.specs.Replies.{Replied, answer_to_line, in_memory, objects_after_line, replies_in}
use Rattle.pool_run.specs.Replies.{answers_text, is_done, is_good, replies_text, replies_to, reply_text, served_line}
use Rattle.pool_run.specs.Script.{IsRun}
use Rattle.pool_run.specs.Stored.{Kept, AreStored, OfKept, nothing}
use Rattle.pool_run.specs.Texts.{OneOf}
use Rattle.pool_run.proofs.KeptLemmas.{none_kept}

never : {X : Type 0} → false ≡ true → X
never e = absurd (cc)

apply_lines-append : (objects : Objects) (xs ys : List (Option Command)) → apply_lines objects (xs ++ ys) ≡ apply_lines (apply_lines objects xs) ys
apply_lines-append objects [] ys = refl
apply_lines-append objects (x ∷ xs) ys = apply_lines-append (apply_line objects x) xs ys

replies_to_lines-append : (objects : Objects) (xs ys : List (Option Command))
    → replies_to_lines objects (xs ++ ys) ≡ replies_to_lines objects xs ++ replies_to_lines (apply_lines objects xs) ys
replies_to_lines-append objects [] ys = refl
replies_to_lines-append objects (x ∷ xs) ys = ap (λ rs. reply_to_line objects x ∷ rs) (replies_to_lines-append (apply_line objects x) xs ys)

-- the replies to some lines from no objects
abbrev replies_from_none : List (List ℕ) → List Reply
replies_from_none lines = replies_to_lines finite.empty (commands_of lines)

abbrev objects_after : List (List ℕ) → Objects
objects_after lines = apply_lines finite.empty (commands_of lines)

-- ---- objects that always serve answer as the map does

answer_if : (objects : Objects) (line : ScriptLine) (served : Bool) → is_served line ≡ served
    → answer_to_line in_memory objects (if served then line else BadLine) ≡ Replied (reply_to_line objects (command_in (if served then line else BadLine)))
answer_if objects line false is = refl
answer_if objects LongLine true is = never is
answer_if objects BadLine true is = refl
answer_if objects (Client command) true is = refl
answer_if objects (Operator operation) true is = never is
answer_if objects AskState true is = never is

objects_if : (objects : Objects) (line : ScriptLine) (served : Bool) → is_served line ≡ served
    → objects_after_line in_memory objects (if served then line else BadLine) ≡ apply_line objects (command_in (if served then line else BadLine))
objects_if objects line false is = refl
objects_if objects LongLine true is = refl
objects_if objects BadLine true is = refl
objects_if objects (Client command) true is = refl
objects_if objects (Operator operation) true is = refl
objects_if objects AskState true is = refl

answer_of_served : (objects : Objects) (text : List ℕ) → answer_to_line in_memory objects (script_line text) ≡ Replied (reply_to_line objects (command_of text))
answer_of_served objects text = answer_if objects (line_of_fields (fields text)) (is_served (line_of_fields (fields text))) refl

objects_of_served : (objects : Objects) (text : List ℕ) → objects_after_line in_memory objects (script_line text) ≡ apply_line objects (command_of text)
objects_of_served objects text = objects_if objects (line_of_fields (fields text)) (is_served (line_of_fields (fields text))) refl

answers_of_served : (objects : Objects) (lines : List (List ℕ)) → replies_in (map served_line lines) objects ≡ map Replied (replies_to_lines objects (commands_of lines))
answers_of_served objects [] = refl
answers_of_served objects (line ∷ lines) =
    (λ i. answer_of_served objects line i ∷ replies_in (map served_line lines) (objects_of_served objects line i))
    ∙ ap (λ rs. Replied (reply_to_line objects (command_of line)) ∷ rs) (answers_of_served (apply_line objects (command_of line)) lines)

text_of_replied : (rs : List Reply) → answers_text (map Replied rs) ≡ replies_text rs
text_of_replied [] = refl
text_of_replied (r ∷ rs) = ap (λ t. reply_text r ++ t) (text_of_replied rs)

good_of_replied : (rs : List Reply) → list_all is_good (map Replied rs) ≡ list_all is_done rs
good_of_replied [] = refl
good_of_replied (r ∷ rs) = ap (λ b. is_done r && b) (good_of_replied rs)

-- the answers to a script by the lines that count
text_of_script : (script : List ℕ) (lines : List (List ℕ)) → kept_lines script ≡ lines → answers_text (replies_to script) ≡ replies_text (replies_from_none lines)
text_of_script script lines is =
    ap answers_text (answers_of_served finite.empty (kept_lines script)) ∙ text_of_replied (replies_from_none (kept_lines script))
    ∙ ap (λ (ls : List (List ℕ)). replies_text (replies_from_none ls)) is

good_of_script : (script : List ℕ) (lines : List (List ℕ)) → kept_lines script ≡ lines → list_all is_good (replies_to script) ≡ list_all is_done (replies_from_none lines)
good_of_script script lines is =
    ap (list_all is_good) (answers_of_served finite.empty (kept_lines script)) ∙ good_of_replied (replies_from_none (kept_lines script))
    ∙ ap (λ (ls : List (List ℕ)). list_all is_done (replies_from_none ls)) is

-- these lines are answered so far: how what they left is kept, whether each reply begins with `ok`, and what was said
pub record Answered (code : CodeRows) (unit : ℕ) (lines : List (List ℕ)) (stored : Kept) (fine : Bool) (before now : Option (List ℕ)) : Type 0 where
  pub kept : AreStored code unit (objects_after lines) stored
  pub all_done : fine ≡ list_all is_done (replies_from_none lines)
  pub said : Appends before now (replies_text (replies_from_none lines))

pub nothing_answered : (code : CodeRows) (unit : ℕ) (stored : Kept) (fine : Bool) (now : Option (List ℕ)) → stored ≡ nothing → fine ≡ true
    → Answered code unit [] stored fine now now
nothing_answered code unit stored fine now none fine_is = record { kept = none_kept code unit stored none; all_done = fine_is; said = Appends-none now }

commands_of-push : (lines : List (List ℕ)) (x : List ℕ) → commands_of (lines ++ x ∷ []) ≡ commands_of lines ++ command_of x ∷ []
commands_of-push lines x = map-append command_of lines (x ∷ [])

objects_after-push : (lines : List (List ℕ)) (x : List ℕ) → objects_after (lines ++ x ∷ []) ≡ apply_line (objects_after lines) (command_of x)
objects_after-push lines x = ap (apply_lines finite.empty) (commands_of-push lines x) ∙ apply_lines-append finite.empty (commands_of lines) (command_of x ∷ [])

replies_from_none-append : (lines more : List (List ℕ))
    → replies_from_none (lines ++ more) ≡ replies_from_none lines ++ replies_to_lines (objects_after lines) (commands_of more)
replies_from_none-append lines more =
    ap (replies_to_lines finite.empty) (map-append command_of lines more) ∙ replies_to_lines-append finite.empty (commands_of lines) (commands_of more)

replies_text-push : (rs : List Reply) (r : Reply) → replies_text (rs ++ r ∷ []) ≡ replies_text rs ++ reply_text r
replies_text-push rs r = flat_map-append reply_text rs (r ∷ []) ∙ ap (λ t. replies_text rs ++ t) (append-nil (reply_text r))

list_all-push : (rs : List Reply) (r : Reply) → list_all is_done (rs ++ r ∷ []) ≡ (list_all is_done rs && is_done r)
list_all-push rs r = list_all-append is_done rs (r ∷ []) ∙ ap (λ b. list_all is_done rs && b) (and-true (is_done r))

pub one_answered : (code : CodeRows) (unit : ℕ) (lines more : List (List ℕ)) (x : List ℕ) (stored next : Kept) (fine both : Bool) (before now new : Option (List ℕ)) (script : List ℕ)
    → kept_lines script ≡ lines ++ x ∷ more → Answered code unit lines stored fine before now → OfKept code unit stored (λ objects. AreStored code unit (apply_line objects (command_of x)) next)
    → OfKept code unit stored (λ objects. both ≡ (fine && is_done (reply_to_line objects (command_of x))))
    → OfKept code unit stored (λ objects. Appends now new (reply_text (reply_to_line objects (command_of x)))) → Answered code unit (lines ++ x ∷ []) next both before new
one_answered code unit lines more x stored next fine both before now new script is a leaves done says =
    let objects = objects_after lines in
    let push : replies_from_none (lines ++ x ∷ []) ≡ replies_from_none lines ++ reply_to_line objects (command_of x) ∷ [] = replies_from_none-append lines (x ∷ []) in
    record {
      kept = subst (λ o. AreStored code unit o next) (sym (objects_after-push lines x)) (leaves objects a.kept);
      all_done =
          done objects a.kept ∙ ap (λ b. b && is_done (reply_to_line objects (command_of x))) a.all_done
          ∙ sym (ap (list_all is_done) push ∙ list_all-push (replies_from_none lines) (reply_to_line objects (command_of x)));
      said =
          subst (Appends before new) (sym (ap replies_text push ∙ replies_text-push (replies_from_none lines) (reply_to_line objects (command_of x))))
          (Appends-more _ _ _ _ _ a.said (says objects a.kept));
    }

front_of : (n : ℕ) (xs ys zs : List ℕ) → take (length xs + min n (length ys)) (xs ++ (ys ++ zs)) ≡ xs ++ take n ys
front_of n xs ys zs =
    take-append-add xs (ys ++ zs) (min n (length ys))
    ∙ ap (λ t. xs ++ t) (take-append-le (min n (length ys)) ys zs (omega arith) ∙ take_min n ys)

-- a line whose reply was said in part
pub part_answered : (code : CodeRows) (unit : ℕ) (lines more : List (List ℕ)) (x : List ℕ) (stored : Kept) (fine : Bool) (before now new : Option (List ℕ)) (script : List ℕ)
    → Answered code unit lines stored fine before now → kept_lines script ≡ lines ++ x ∷ more
    → OfKept code unit stored (λ objects. SaysFront now new (reply_text (reply_to_line objects (command_of x)))) → SaysFront before new (answers_text (replies_to script))
part_answered code unit lines more x stored fine before now new script a is says =
    let objects = objects_after lines in
    let part = says objects a.kept in
    let r = reply_to_line objects (command_of x) in
    let rest = replies_text (replies_to_lines (apply_line objects (command_of x)) (commands_of more)) in
    let whole : answers_text (replies_to script) ≡ replies_text (replies_from_none lines) ++ (reply_text r ++ rest) =
    text_of_script script (lines ++ x ∷ more) is
    ∙ ap replies_text (replies_from_none-append lines (x ∷ more))
    ∙ flat_map-append reply_text _ _
    in (
      length (replies_text (replies_from_none lines)) + min part.0 (length (reply_text r)),
      subst (Appends before new) (sym (ap (take _) whole ∙ front_of part.0 _ _ rest)) (Appends-more _ _ _ _ _ a.said part.1),
    )

no_end : (s : ℕ) → 1 < s → OneOf s (0 ∷ 1 ∷ []) → ⊥
no_end s h (inl e) = omega arith
no_end s h (inr (inl e)) = omega arith
no_end s h (inr (inr e)) = e

-- the run stopped within a line
pub stopped : (script : List ℕ) (status : ℕ) (before now : Option (List ℕ)) → 1 < status → SaysFront before now (answers_text (replies_to script)) → IsRun script status before now
stopped script status before now h f = record {
  front = f;
  whole = λ o. absurd (no_end status h o);
  all_done = λ e. absurd (omega arith);
  some_refused = λ e. absurd (omega arith);
}

done_of : (fine : Bool) (s : ℕ) → s ≡ cond fine 0 1 → s ≡ 0 → fine ≡ true
done_of true s e z = refl
done_of false s e z = absurd (omega arith)

refused_of : (fine : Bool) (s : ℕ) → s ≡ cond fine 0 1 → s ≡ 1 → fine ≡ false
refused_of true s e z = absurd (omega arith)
refused_of false s e z = refl

-- all lines are answered
pub whole_answered : (code : CodeRows) (unit : ℕ) (lines : List (List ℕ)) (script : List ℕ) (stored : Kept) (fine : Bool) (before now : Option (List ℕ)) (status : ℕ)
    → Answered code unit lines stored fine before now → lines ≡ kept_lines script → status ≡ cond fine 0 1 → IsRun script status before now
whole_answered code unit lines script stored fine before now status a is e =
    let said : Appends before now (answers_text (replies_to script)) = subst (Appends before now) (sym (text_of_script script lines (sym is))) a.said in
    let done : fine ≡ list_all is_good (replies_to script) = a.all_done ∙ sym (good_of_script script lines (sym is)) in
    record {
      front = (length (answers_text (replies_to script)), subst (Appends before now) (sym (take-length (answers_text (replies_to script)))) said);
      whole = λ _. said;
      all_done = λ z. sym done ∙ done_of fine status e z;
      some_refused = λ z. sym done ∙ refused_of fine status e z;
    }

-- what stands behind references
abbrev pub shown : List (Bor (List ℕ)) → List (List ℕ)
shown items = map (λ x. x.now) items

pub shown_more : (items : List (Bor (List ℕ))) (i : ℕ) (d : Bor (List ℕ)) → i < length items → shown (take (i + 1) items) ≡ shown (take i items) ++ (get_or items i d).now ∷ []
shown_more items i d h = ap shown (take_more items i d h) ∙ map_push (λ (x : Bor (List ℕ)). x.now) (take i items) (get_or items i d)

pub shown_at : (items : List (Bor (List ℕ))) (i : ℕ) (d : Bor (List ℕ)) → i < length items
    → shown items ≡ shown (take i items) ++ (get_or items i d).now ∷ shown (drop (suc i) items)
shown_at items i d h =
    ap shown (sym (take-append-drop i items) ∙ ap (λ t. take i items ++ t) (drop-cons items i d h))
    ∙ map-append (λ (x : Bor (List ℕ)). x.now) (take i items) (get_or items i d ∷ drop (suc i) items)

pub shown_all : (items : List (Bor (List ℕ))) (i : ℕ) → length items ≤ i → shown (take i items) ≡ shown items
shown_all items i h = ap shown (take_all i items h)
