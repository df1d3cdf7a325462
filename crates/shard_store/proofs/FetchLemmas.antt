-- A range that is fetched, and one that is not there.
use Rattle.std.proofs.Common.{◌≡◌, ℕ, List, Option, Some, None, Ok, Err, ap, subst, arith}
use Rattle.std.specs.Prelude.{Result, OnOk, OnErr, IfErr}
use Rattle.std.proofs.lemmas.Bool.Decides.{nat_tests}
use Rattle.rig_disk.specs.Disk.{Image}
use Rattle.shard_model.specs.Shards.{Shard}
use Rattle.shard_store.specs.Ranges.{range_of, shard_bytes, object_bytes, LacksRange, IsToldRange}
use Rattle.shard_store.specs.declared.store.Store.{Store}

pub told_range : (reads : ℕ → ℕ → Option (List ℕ)) (images : Image → List ℕ → Type 0) (store : Option Store) (name : List ℕ) (at n : ℕ) (bytes : List ℕ)
    → range_of (object_bytes store name) at n ≡ Some bytes → IsToldRange reads images store name at n bytes
told_range reads images None name at n bytes is = never is
  where
    never : ◌≡◌ {A = Option (List ℕ)} None (Some bytes) → ⊥
    never e = cc
told_range reads images (Some store) name at n bytes is =
    λ text flushed pending stored. subst (λ (s : Shard). range_of (shard_bytes s name) at n ≡ Some bytes) stored.told.shard is

pub lacks : (bytes : Option (List ℕ)) (at n : ℕ) → range_of bytes at n ≡ None → LacksRange bytes at n
lacks None at n is = tt
lacks (Some bytes) at n is = grind (arith, nat_tests, is)

pub not_lacks : (bytes : Option (List ℕ)) (at n : ℕ) (into : List ℕ) → range_of bytes at n ≡ Some into → LacksRange bytes at n → ⊥
not_lacks None at n into is lacks = never is
  where
    never : ◌≡◌ {A = Option (List ℕ)} None (Some into) → ⊥
    never e = cc
not_lacks (Some bytes) at n into is lacks = grind (arith, nat_tests, is, lacks)

pub no_such : {T E : Type 0} (result : Result T E) (fault : E) (bytes : Option (List ℕ)) (at n : ℕ) (into : List ℕ) → OnOk result (range_of bytes at n ≡ Some into)
    → OnErr result (range_of bytes at n ≡ None) → IfErr result (λ f. f ≡ fault)
    → (result ≡ Err fault → LacksRange bytes at n) × (LacksRange bytes at n → result ≡ Err fault)
no_such (Ok value) fault bytes at n into is none only = ((λ e. absurd (other e)), (λ l. absurd (not_lacks bytes at n into is l)))
  where
    other : Ok value ≡ Err fault → ⊥
    other e = cc
no_such (Err f) fault bytes at n into is none only = ((λ e. lacks bytes at n none), (λ l. ap Err only))
