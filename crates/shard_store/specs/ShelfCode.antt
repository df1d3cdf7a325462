-- A shelf's value as numbers and lists. Source: this project.
use Rattle.std.specs.Prelude.{ℕ, List, Option, refl}
use Rattle.std.specs.Coded.{Coded, code_by, coded×, coded_ℕ, coded_list, coded_option}
use Rattle.shard_store.specs.contracts.store.Store as stored
use Rattle.shard_store.specs.declared.store.Store.{Store}
use Rattle.shard_store.specs.Shelved.{Shelved}

abbrev pub shelved_code : Coded Shelved
shelved_code =
    code_by (List (Option Store) × List ℕ) (coded× (coded_list (coded_option stored.the_row.coded)) (coded_list coded_ℕ))
    (λ s. (s.stores, s.fetched)) (λ p. record { stores = p.0; fetched = p.1 }) (λ _. refl)
