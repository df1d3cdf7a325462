-- Steps as numbers and lists: these tell two of them apart. Source: this project.
use Rattle.std.proofs.Common.{◌≡◌, ◌⊎◌, inl, inr, ℕ, List, refl}
use Rattle.std.specs.Coded.{Coded, code_by, coded×, coded⊎, coded_ℕ, coded_list}
use Rattle.ec_model.specs.Versions.{Version, version_code}
use Rattle.shard_model.specs.Changes.{Change, Write, Replace, Remove, SetAttr, RemoveAttr}
use Rattle.shard_model.specs.Steps.{Entry, Step, Log, Control, Recover, Back, Firm, Trim, Started, Partial, Put, Drop, Clear, Reset}

-- bytes
abbrev pub coded_bytes : Coded (List ℕ)
coded_bytes = coded_list coded_ℕ

-- a change is one of five kinds
abbrev pub ChangeParts : Type 0
ChangeParts = ((ℕ × ℕ) × (ℕ × List ℕ)) ⊎ ((ℕ × List ℕ) ⊎ ((List ℕ × List ℕ) ⊎ (List ℕ ⊎ ℕ)))

-- a change to its parts, and back
abbrev pub change_parts : Change → ChangeParts
change_parts (Write fresh size at bytes) = inl ((fresh, size), (at, bytes))
change_parts (Replace size bytes) = inr (inl (size, bytes))
change_parts (SetAttr attr value) = inr (inr (inl (attr, value)))
change_parts (RemoveAttr attr) = inr (inr (inr (inl attr)))
change_parts Remove = inr (inr (inr (inr 0)))

abbrev pub change_from : ChangeParts → Change
change_from (inl p) = Write p.0.0 p.0.1 p.1.0 p.1.1
change_from (inr (inl p)) = Replace p.0 p.1
change_from (inr (inr (inl p))) = SetAttr p.0 p.1
change_from (inr (inr (inr (inl attr)))) = RemoveAttr attr
change_from (inr (inr (inr (inr n)))) = Remove

abbrev pub change_back : (c : Change) → change_from (change_parts c) ≡ c
change_back (Write fresh size at bytes) = refl
change_back (Replace size bytes) = refl
change_back (SetAttr attr value) = refl
change_back (RemoveAttr attr) = refl
change_back Remove = refl

abbrev pub change_code : Coded Change
change_code =
    code_by ChangeParts
    (coded⊎ (coded× (coded× coded_ℕ coded_ℕ) (coded× coded_ℕ coded_bytes)) (coded⊎ (coded× coded_ℕ coded_bytes) (coded⊎ (coded× coded_bytes coded_bytes) (coded⊎ coded_bytes coded_ℕ))))
    change_parts change_from change_back

-- version, version before it, name, change
abbrev pub entry_code : Coded Entry
entry_code =
    code_by ((Version × Version) × (List ℕ × Change)) (coded× (coded× version_code version_code) (coded× coded_bytes change_code))
    (λ e. ((e.version, e.prior), (e.name, e.change))) (λ p. record { version = p.0.0; prior = p.0.1; name = p.1.0; change = p.1.1 }) (λ _. refl)

-- the steps that are no entries, by what they carry
abbrev pub RestParts : Type 0
RestParts = (Version ⊎ (Version ⊎ (Version ⊎ (ℕ ⊎ ℕ)))) ⊎ (((List ℕ × ℕ) × (List ℕ × List (List ℕ × List ℕ))) ⊎ (List ℕ ⊎ ((Version × ℕ) ⊎ ℕ)))

abbrev pub rest_code : Coded RestParts
rest_code =
    coded⊎ (coded⊎ version_code (coded⊎ version_code (coded⊎ version_code (coded⊎ coded_ℕ coded_ℕ))))
    (coded⊎ (coded× (coded× coded_bytes coded_ℕ) (coded× coded_bytes (coded_list (coded× coded_bytes coded_bytes)))) (coded⊎ coded_bytes (coded⊎ (coded× version_code coded_ℕ) coded_ℕ)))

-- a step to its parts, and back
abbrev pub step_parts : Step → Entry ⊎ RestParts
step_parts (Log e) = inl e
step_parts (Control (Back v)) = inr (inl (inl v))
step_parts (Control (Firm v)) = inr (inl (inr (inl v)))
step_parts (Control (Trim v)) = inr (inl (inr (inr (inl v))))
step_parts (Control (Started epoch)) = inr (inl (inr (inr (inr (inl epoch)))))
step_parts (Control Partial) = inr (inl (inr (inr (inr (inr 0)))))
step_parts (Recover (Put name size bytes attrs)) = inr (inr (inl ((name, size), (bytes, attrs))))
step_parts (Recover (Drop name)) = inr (inr (inr (inl name)))
step_parts (Recover (Reset v epoch)) = inr (inr (inr (inr (inl (v, epoch)))))
step_parts (Recover Clear) = inr (inr (inr (inr (inr 0))))

abbrev pub step_from : Entry ⊎ RestParts → Step
step_from (inl e) = Log e
step_from (inr (inl (inl v))) = Control (Back v)
step_from (inr (inl (inr (inl v)))) = Control (Firm v)
step_from (inr (inl (inr (inr (inl v))))) = Control (Trim v)
step_from (inr (inl (inr (inr (inr (inl epoch)))))) = Control (Started epoch)
step_from (inr (inl (inr (inr (inr (inr n)))))) = Control Partial
step_from (inr (inr (inl p))) = Recover (Put p.0.0 p.0.1 p.1.0 p.1.1)
step_from (inr (inr (inr (inl name)))) = Recover (Drop name)
step_from (inr (inr (inr (inr (inl p))))) = Recover (Reset p.0 p.1)
step_from (inr (inr (inr (inr (inr n))))) = Recover Clear

abbrev pub step_back : (s : Step) → step_from (step_parts s) ≡ s
step_back (Log e) = refl
step_back (Control (Back v)) = refl
step_back (Control (Firm v)) = refl
step_back (Control (Trim v)) = refl
step_back (Control (Started epoch)) = refl
step_back (Control Partial) = refl
step_back (Recover (Put name size bytes attrs)) = refl
step_back (Recover (Drop name)) = refl
step_back (Recover (Reset v epoch)) = refl
step_back (Recover Clear) = refl

abbrev pub step_code : Coded Step
step_code = code_by (Entry ⊎ RestParts) (coded⊎ entry_code rest_code) step_parts step_from step_back
