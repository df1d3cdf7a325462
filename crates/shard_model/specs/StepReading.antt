-- How steps are read off bytes, from the front. Source: this project.
use Rattle.std.specs.Prelude.{ℕ, zero, suc, ◌==◌, if◌then◌else◌, List, [], ◌∷◌, Some, None}
use Rattle.ec_model.specs.Versions.{Version}
use Rattle.ec_words.specs.Names.{is_name}
pub use Rattle.ec_words.specs.Readers.{Reader, AreBytes, IsReadingOf, and_then, mapped, both, read_byte, read_u32, read_u64, read_list, read_counted, version_from, read_version}
use Rattle.shard_model.specs.Changes.{Change, Write, Replace, Remove, SetAttr, RemoveAttr}
use Rattle.shard_model.specs.Steps.{Back, Firm, Trim, Started, Partial, Put, Drop, Clear, Reset, Step, Log, Control, Recover}

abbrev pub if_name : List ℕ → Reader (List ℕ)
if_name name rest = if is_name name then Some (name, rest) else None

abbrev pub read_named : ℕ → Reader (List ℕ)
read_named n text = and_then (read_list n text) if_name

abbrev pub read_name : Reader (List ℕ)
read_name text = and_then (read_byte text) read_named

-- an attribute's name and value
abbrev pub read_pair : Reader (List ℕ × List ℕ)
read_pair = both read_name read_counted

abbrev pub pushed : (List ℕ × List ℕ) × List (List ℕ × List ℕ) → List (List ℕ × List ℕ)
pushed p = p.0 ∷ p.1

-- this many attributes
abbrev pub read_pairs : ℕ → Reader (List (List ℕ × List ℕ))
read_pairs zero text = Some ([], text)
read_pairs (suc n) text = mapped pushed (both read_pair (read_pairs n)) text

abbrev pub read_attrs : Reader (List (List ℕ × List ℕ))
read_attrs text = and_then (read_byte text) read_pairs

-- version, version before it, name
abbrev pub Head : Type 0
Head = Version × (Version × List ℕ)

abbrev pub read_head : Reader Head
read_head = both read_version (both read_version read_name)

-- an entry's step with a change of some parts
abbrev pub entry_of : {C : Type 0} → (C → Change) → Head × C → Step
entry_of change p = Log (record { version = p.0.0; prior = p.0.1.0; name = p.0.1.1; change = change p.1 })

abbrev pub write_of : ℕ × (ℕ × (ℕ × List ℕ)) → Change
write_of p = Write p.0 p.1.0 p.1.1.0 p.1.1.1

abbrev pub replace_of : ℕ × List ℕ → Change
replace_of p = Replace p.0 p.1

abbrev pub set_attr_of : List ℕ × List ℕ → Change
set_attr_of p = SetAttr p.0 p.1

abbrev pub put_of : List ℕ × (ℕ × (List ℕ × List (List ℕ × List ℕ))) → Step
put_of p = Recover (Put p.0 p.1.0 p.1.1.0 p.1.1.1)

abbrev pub reset_of : Version × ℕ → Step
reset_of p = Recover (Reset p.0 p.1)

abbrev pub removed_of : Head → Step
removed_of h = Log (record { version = h.0; prior = h.1.0; name = h.1.1; change = Remove })

abbrev pub read_write : Reader Step
read_write = mapped (entry_of write_of) (both read_head (both read_byte (both read_u32 (both read_u32 read_counted))))

abbrev pub read_replace : Reader Step
read_replace = mapped (entry_of replace_of) (both read_head (both read_u32 read_counted))

abbrev pub read_remove : Reader Step
read_remove = mapped removed_of read_head

abbrev pub read_set_attr : Reader Step
read_set_attr = mapped (entry_of set_attr_of) (both read_head (both read_name read_counted))

abbrev pub read_remove_attr : Reader Step
read_remove_attr = mapped (entry_of RemoveAttr) (both read_head read_name)

abbrev pub read_back : Reader Step
read_back = mapped (λ v. Control (Back v)) read_version

abbrev pub read_started : Reader Step
read_started = mapped (λ epoch. Control (Started epoch)) read_u32

abbrev pub read_firm : Reader Step
read_firm = mapped (λ v. Control (Firm v)) read_version

abbrev pub read_trim : Reader Step
read_trim = mapped (λ v. Control (Trim v)) read_version

abbrev pub read_partial : Reader Step
read_partial text = Some (Control Partial, text)

abbrev pub read_put : Reader Step
read_put = mapped put_of (both read_name (both read_u32 (both read_counted read_attrs)))

abbrev pub read_drop : Reader Step
read_drop = mapped (λ name. Recover (Drop name)) read_name

abbrev pub read_clear : Reader Step
read_clear text = Some (Recover Clear, text)

abbrev pub read_reset : Reader Step
read_reset = mapped reset_of (both read_version read_u32)

-- a step of this kind
abbrev pub read_kind : ℕ → Reader Step
read_kind kind text =
    if kind == 1 then read_write text
    else if kind == 2 then read_replace text
    else if kind == 3 then read_remove text
    else if kind == 4 then read_set_attr text
    else if kind == 5 then read_remove_attr text
    else if kind == 6 then read_back text
    else if kind == 7 then read_started text
    else if kind == 8 then read_firm text
    else if kind == 9 then read_trim text
    else if kind == 10 then read_partial text
    else if kind == 11 then read_put text
    else if kind == 12 then read_drop text
    else if kind == 13 then read_clear text
    else if kind == 14 then read_reset text
    else None

abbrev pub read_step : Reader Step
read_step text = and_then (read_byte text) read_kind
