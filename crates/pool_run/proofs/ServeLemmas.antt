-- What it comes to that a line is served.
use Rattle.std.proofs.Common.{◌≡◌, ◌≤◌, ◌<◌, ◌+◌, ℕ, List, [], length, true, false, refl, sym, ap, subst, ◌∙◌, arith, Option, Some, None, is_some}
use Rattle.std.specs.Option.{option_map}
use Rattle.std.specs.Fmt.{decimal}
use Rattle.std.specs.FinMap as map
use Rattle.shard_model.specs.Limits.{max_size}
use Rattle.ec_model.specs.Codes.{CodeRows}
use Rattle.ec_positions.specs.Objects.{Object, Objects, bytes_in}
use Rattle.ec_positions.specs.Updates.{Update, WriteAt, Full, Delete, after}
use Rattle.ec_positions.specs.Refusals.{Absent, TooLarge, refusal_of}
use Rattle.ec_positions.specs.Commands.{Reply, Done, Refused, Updates, Stat, apply_command, refused_if_absent, reply_to, unless_refused}
use Rattle.pool_run.specs.Replies.{shown}
use Rattle.pool_run.specs.Served.{IsServed}
use Rattle.pool_run.specs.Stored.{AreStored, Kept, Stored, size_at}
use Rattle.pool_run.specs.declared.reply.Reply.{Reply as CodeReply}
use Rattle.pool_run.proofs.CommandLemmas.{IsAsFull, delete_absent, delete_there, full_accepted, full_refused, usage_without, write_too_large}
use Rattle.pool_run.proofs.KeptLemmas.{Found, alike, kept_removed, no_attrs}

-- an update with this reply, after which the objects are these, is served if these are kept
served_by : (code : CodeRows) (unit : ℕ) (objects others : Objects) (update : Update) (new : Kept) (answer : CodeReply)
    → shown answer ≡ reply_to objects (Updates update) → apply_command objects (Updates update) ≡ others → AreStored code unit others new
    → IsServed code unit (Some (Updates update)) new answer objects
served_by code unit objects others update new answer reply is kept = record {
  reply = reply;
  kept = subst (λ all. AreStored code unit all new) (sym is) kept;
}

-- ---- bytes that become those of an object

pub full_is_refused : (code : CodeRows) (unit : ℕ) (objects : Objects) (kept : Kept) (name bytes : List ℕ) (answer : CodeReply)
    → ◌≡◌ {A = Option Reply} (Some (shown answer)) (option_map (λ r. Refused r) (refusal_of objects (Full name bytes)))
    → AreStored code unit objects kept → IsServed code unit (Some (Updates (Full name bytes))) kept answer objects
full_is_refused code unit objects kept name bytes answer why is =
    let stays = full_refused objects name bytes (shown answer) why in
    served_by code unit objects objects (Full name bytes) kept answer stays.0 stays.1 is

pub full_is_done : (code : CodeRows) (unit : ℕ) (objects : Objects) (new : Kept) (name bytes : List ℕ) (answer : CodeReply)
    → shown answer ≡ Done [] [] → refusal_of objects (Full name bytes) ≡ None → AreStored code unit (after objects (Full name bytes)) new
    → IsServed code unit (Some (Updates (Full name bytes))) new answer objects
full_is_done code unit objects new name bytes answer done none is =
    let goes = full_accepted objects name bytes none in
    served_by code unit objects (after objects (Full name bytes)) (Full name bytes) new answer (done ∙ goes.0) goes.1 is

-- an update that is as one which makes some bytes those of the object is served as that one is
pub served_as_full : (code : CodeRows) (unit : ℕ) (objects : Objects) (update : Update) (name all : List ℕ) (new : Kept) (answer : CodeReply)
    → IsAsFull objects update name all → IsServed code unit (Some (Updates (Full name all))) new answer objects
    → IsServed code unit (Some (Updates update)) new answer objects
served_as_full code unit objects update name all new answer is served =
    served_by code unit objects (apply_command objects (Updates (Full name all))) update new answer (served.reply ∙ is.0) (sym is.1) served.kept

pub write_is_too_large : (code : CodeRows) (unit : ℕ) (objects : Objects) (kept : Kept) (name : List ℕ) (off : ℕ) (bytes : List ℕ) (answer : CodeReply)
    → shown answer ≡ Refused TooLarge → 1 ≤ length bytes → max_size < off → AreStored code unit objects kept
    → IsServed code unit (Some (Updates (WriteAt name off bytes))) kept answer objects
write_is_too_large code unit objects kept name off bytes answer refused some far is =
    let stays = write_too_large objects name off bytes some far in
    served_by code unit objects objects (WriteAt name off bytes) kept answer (refused ∙ stays.0) stays.1 is

-- ---- an object that goes

pub delete_is_done : (code : CodeRows) (unit : ℕ) (objects : Objects) (old new : Kept) (name : List ℕ) (stored : Stored) (answer : CodeReply)
    → shown answer ≡ Done [] [] → new.objects ≡ map.remove old.objects name → new.count + 1 ≡ old.count → new.usage + stored.size ≡ old.usage
    → Found old name (Some stored) → AreStored code unit objects old → IsServed code unit (Some (Updates (Delete name))) new answer objects
delete_is_done code unit objects old new name stored answer done is counted taken here kept =
    let there : is_some (map.get objects name) ≡ true = alike code unit (map.get objects name) (map.get old.objects name) (kept.each name) ∙ ap is_some here in
    let rest = usage_without objects name (no_attrs code unit (map.get objects name) (map.get old.objects name) (kept.each name)) in
    let goes = delete_there objects name there (omega (arith, rest, kept.within)) in
    served_by code unit objects (after objects (Delete name)) (Delete name) new answer (done ∙ goes.0) goes.1
    (kept_removed code unit objects old new name stored is counted rest taken here kept)

pub delete_is_absent : (code : CodeRows) (unit : ℕ) (objects : Objects) (old new : Kept) (name : List ℕ) (answer : CodeReply)
    → shown answer ≡ Refused Absent → new ≡ old → Found old name None → AreStored code unit objects old
    → IsServed code unit (Some (Updates (Delete name))) new answer objects
delete_is_absent code unit objects old new name answer refused same here kept =
    let none : is_some (map.get objects name) ≡ false = alike code unit (map.get objects name) (map.get old.objects name) (kept.each name) ∙ ap is_some here in
    let stays = delete_absent objects name none in
    served_by code unit objects objects (Delete name) new answer (refused ∙ stays.0) stays.1 (subst (AreStored code unit objects) (sym same) kept)

-- ---- an object's size

stat_reply : (object : Option Object) (size : ℕ) → ◌≡◌ {A = Option ℕ} (Some size) (option_map (λ o. length o.bytes) object)
    → Done (decimal size) [] ≡ unless_refused (refused_if_absent object) (Done (decimal (length (bytes_in object))) []) (λ r. Refused r)
stat_reply None size e = absurd (cc)
stat_reply (Some object) size e = let same : size ≡ length object.bytes = cc in ap (λ n. Done (decimal n) []) same

absent_reply : (object : Option Object) → ◌≡◌ {A = Option ℕ} None (option_map (λ o. length o.bytes) object)
    → Refused Absent ≡ unless_refused (refused_if_absent object) (Done (decimal (length (bytes_in object))) []) (λ r. Refused r)
absent_reply None e = refl
absent_reply (Some object) e = absurd (cc)

stat_stays : (object : Option Object) (objects : Objects) → unless_refused (refused_if_absent object) objects (λ _. objects) ≡ objects
stat_stays None objects = refl
stat_stays (Some object) objects = refl

pub stat_is_done : (code : CodeRows) (unit : ℕ) (objects : Objects) (kept : Kept) (name : List ℕ) (size : ℕ) (answer : CodeReply)
    → shown answer ≡ Done (decimal size) [] → Some size ≡ size_at objects name → AreStored code unit objects kept
    → IsServed code unit (Some (Stat name)) kept answer objects
stat_is_done code unit objects kept name size answer done is stored = record {
  reply = done ∙ stat_reply (map.get objects name) size is;
  kept = subst (λ all. AreStored code unit all kept) (sym (stat_stays (map.get objects name) objects)) stored;
}

pub stat_is_absent : (code : CodeRows) (unit : ℕ) (objects : Objects) (kept : Kept) (name : List ℕ) (answer : CodeReply)
    → shown answer ≡ Refused Absent → None ≡ size_at objects name → AreStored code unit objects kept
    → IsServed code unit (Some (Stat name)) kept answer objects
stat_is_absent code unit objects kept name answer refused is stored = record {
  reply = refused ∙ absent_reply (map.get objects name) is;
  kept = subst (λ all. AreStored code unit all kept) (sym (stat_stays (map.get objects name) objects)) stored;
}
