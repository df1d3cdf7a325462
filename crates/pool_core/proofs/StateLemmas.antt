-- The states that a pool answers.
use Rattle.std.proofs.Common.{◌≡◌, ℕ, Option, Result, Ok, Err, Some, subst}
use Rattle.ec_model.specs.Codes.{CodeRows}
use Rattle.ec_model.specs.Versions.{Version}
use Rattle.ec_words.specs.declared.mask.Mask.{Mask}
use Rattle.auth_log.specs.States as meant
use Rattle.map_model.specs.States.{kept}
use Rattle.shard_store.specs.Shelved.{Shelved}
use Rattle.pool_map.specs.Maps.{PoolImage}
use Rattle.pool_moves.specs.Choosing.{ComeTo}
use Rattle.pool_core.specs.States.{IsServed, with_begun}
use Rattle.pool_core.specs.declared.fault.PoolFault.{PoolFault}
use Rattle.pool_core.specs.declared.state.State.{State}
use Rattle.pool_core.specs.declared.state.State.TheVariants.{Active}

-- what slots come to, said of an equal map, shelf and least number
pub come_over : (code : CodeRows) (m later : PoolImage) (before shelf : Shelved) (up least same_least : ℕ) (version : Version) (holding : ℕ) (state is : meant.State)
    → later ≡ with_begun m up → shelf ≡ before → same_least ≡ least → state ≡ is
    → ComeTo code (kept later.state) shelf up same_least version holding state → ComeTo code (kept (with_begun m up).state) before up least version holding is
come_over code m later before shelf up least same_least version holding state is begun same equal state_is come_to =
    subst (λ (x : PoolImage). ComeTo code (kept x.state) before up least version holding is) begun
    (subst (λ (x : Shelved). ComeTo code (kept later.state) x up least version holding is) same
    (subst (λ n. ComeTo code (kept later.state) shelf up n version holding is) equal
    (subst (λ (s : meant.State). ComeTo code (kept later.state) shelf up same_least version holding s) state_is come_to)))

-- what was served, said of an equal map, shelf and number of slots
pub served_over : (m mid now : PoolImage) (before near shelf : Shelved) (n same_n epoch joined : ℕ) (base : Version) → mid ≡ m → near ≡ before → same_n ≡ n
    → IsServed mid now near shelf same_n epoch joined base → IsServed m now before shelf n epoch joined base
served_over m mid now before near shelf n same_n epoch joined base same_m same equal served =
    subst (λ (x : PoolImage). IsServed x now before shelf n epoch joined base) same_m
    (subst (λ (x : Shelved). IsServed mid now x shelf n epoch joined base) same
    (subst (λ k. IsServed mid now near shelf k epoch joined base) equal served))

pub same_some : (one other : State) → ◌≡◌ {A = Result (Option State) PoolFault} (Ok (Some one)) (Ok (Some other)) → one ≡ other
same_some one other e = cc

pub err_some : (fault : PoolFault) (state : State) → ◌≡◌ {A = Result (Option State) PoolFault} (Err fault) (Ok (Some state)) → ⊥
err_some fault state e = cc

pub same_active : (epoch other : ℕ) (joined members : Mask) → Active epoch joined ≡ Active other members → (epoch ≡ other) × (joined ≡ members)
same_active epoch other joined members e = (cc, cc)

pub some_ok : (one other : State) → ◌≡◌ {A = Result State PoolFault} (Ok one) (Ok other) → ◌≡◌ {A = Result (Option State) PoolFault} (Ok (Some one)) (Ok (Some other))
some_ok one other e = cc
