-- Which calls of a rig in memory fail. Source: this project.
use Rattle.std.specs.Prelude.{Option, ◌≡◌, ◌⊎◌, ◌+◌, ◌-◌, ◌^◌, min, ℕ, [], None, Some, Contains, slice_index_or}
use Rattle.rig_disk.specs.declared.fault_plan.FaultPlan.{FaultPlan}

-- the calls on a slot so far
abbrev pub plan_calls : FaultPlan → ℕ → ℕ
plan_calls plan slot = slice_index_or plan.calls slot 0

-- the faults of a slot so far
abbrev pub plan_faults : FaultPlan → ℕ → ℕ
plan_faults plan slot = slice_index_or plan.faults slot 0

-- the next call on a slot is to fail
abbrev pub IsDue : FaultPlan → ℕ → Type 0
IsDue plan slot = (plan.left ≡ Some 0) ⊎ Contains plan.planned.items (record { slot = slot; call = min (plan_calls plan slot + 1) (2 ^ 64 - 1) })

-- one call less that may succeed, if they are limited
abbrev pub one_less : Option ℕ → Option ℕ
one_less None = None
one_less (Some left) = Some (left - 1)

-- no call, no fault, and none planned
pub record IsNewPlan (plan : FaultPlan) : Type 0 where
  pub planned : plan.planned.items ≡ []
  pub left : plan.left ≡ None
  pub no_call : (slot : ℕ) → plan_calls plan slot ≡ 0
  pub no_fault : (slot : ℕ) → plan_faults plan slot ≡ 0

-- as before, but for what is planned
pub record IsPlanAsBefore (old new : FaultPlan) : Type 0 where
  pub calls : (slot : ℕ) → plan_calls new slot ≡ plan_calls old slot
  pub faults : (slot : ℕ) → plan_faults new slot ≡ plan_faults old slot
