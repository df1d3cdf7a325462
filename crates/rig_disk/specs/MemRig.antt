-- What a contract sees of a rig in memory. Source: this project.
use Rattle.std.specs.Prelude.{◌≡◌, ◌↔◌, ◌+◌, ℕ, List, [], min, true, false, Option, None, Some, Result, OnErr, IsErr, slice_index_or}
use Rattle.rig_disk.specs.CallLog.{ImagesAt, Log, log_clock, log_disk, said_after}
use Rattle.rig_disk.specs.Disk.{Image}
use Rattle.rig_disk.specs.FaultPlan.{IsDue, one_less, plan_calls, plan_faults}
use Rattle.rig_disk.specs.Faults.{count_limit}
use Rattle.rig_disk.specs.declared.mem_rig.MemRig.{MemRig}
use Rattle.rig_disk.specs.declared.planned_fault.PlannedFault.{PlannedFault}

-- the slots at first, and the calls since
abbrev pub log_of : MemRig → Log
log_of rig = rig.log

-- what reads of the areas give
abbrev pub disk_of : MemRig → Image
disk_of rig = log_disk rig.log

-- what was said
abbrev pub said_by : MemRig → List ℕ
said_by rig = said_after rig.log.calls

-- whether a slot is here
abbrev pub is_here_in : MemRig → ℕ → Type 0
is_here_in rig slot = slice_index_or rig.here slot false ≡ true

-- the faults of a slot
abbrev pub faults_of : MemRig → ℕ → ℕ
faults_of rig slot = plan_faults rig.plan slot

-- the calls on a slot so far
abbrev pub calls_on : MemRig → ℕ → ℕ
calls_on rig slot = plan_calls rig.plan slot

-- the calls that are to fail
abbrev pub planned_of : MemRig → List PlannedFault
planned_of rig = rig.plan.planned.items

-- how many further calls may succeed
abbrev pub left_of : MemRig → Option ℕ
left_of rig = rig.plan.left

-- the syncs of a slot, the bytes written to it, and those read
abbrev pub syncs_of : MemRig → ℕ → ℕ
syncs_of rig slot = slice_index_or rig.syncs slot 0

abbrev pub written_of : MemRig → ℕ → ℕ
written_of rig slot = slice_index_or rig.written slot 0

abbrev pub given_of : MemRig → ℕ → ℕ
given_of rig slot = slice_index_or rig.given slot 0

-- all of it is told
abbrev pub told_reads : MemRig → ℕ → ℕ → Option (List ℕ)
told_reads rig slot area = Some (disk_of rig slot area)

abbrev pub told_said : MemRig → Option (List ℕ)
told_said rig = Some (said_by rig)

abbrev pub told_syncs : MemRig → ℕ → Option ℕ
told_syncs rig slot = Some (syncs_of rig slot)

abbrev pub told_written : MemRig → ℕ → Option ℕ
told_written rig slot = Some (written_of rig slot)

abbrev pub told_given : MemRig → ℕ → Option ℕ
told_given rig slot = Some (given_of rig slot)

-- the number of the present instant
abbrev pub clock_of : MemRig → ℕ
clock_of rig = log_clock rig.log

-- what a crash at an instant may leave, with what was said by then
abbrev pub images_of : MemRig → ℕ → Image → List ℕ → Type 0
images_of rig t image text = ImagesAt rig.log t image text

-- the counts of syncs and bytes are as before
pub record HasSameCounts (old new : MemRig) : Type 0 where
  pub syncs : (slot : ℕ) → syncs_of new slot ≡ syncs_of old slot
  pub written : (slot : ℕ) → written_of new slot ≡ written_of old slot
  pub given : (slot : ℕ) → given_of new slot ≡ given_of old slot

-- a call fails if it is to fail, and keeps what is planned; if it fails it changes nothing but counts of calls and faults
pub record MeetsPlan {T E : Type 0} (old new : MemRig) (slot : ℕ) (result : Result T E) : Type 0 where
  pub due : IsDue old.plan slot → IsErr result
  pub planned : planned_of new ≡ planned_of old
  pub left : left_of new ≡ one_less (left_of old)
  pub counted : calls_on new slot ≡ min (calls_on old slot + 1) count_limit
  pub unchanged : OnErr result (log_of new ≡ log_of old)
  pub here : OnErr result ((s : ℕ) → is_here_in new s ↔ is_here_in old s)
  pub counts : OnErr result (HasSameCounts old new)

-- no call and no fault, none planned, and nothing counted
pub record IsUnused (rig : MemRig) : Type 0 where
  pub calls : rig.log.calls ≡ []
  pub planned : planned_of rig ≡ []
  pub left : left_of rig ≡ None
  pub no_call : (slot : ℕ) → calls_on rig slot ≡ 0
  pub no_fault : (slot : ℕ) → faults_of rig slot ≡ 0
  pub no_sync : (slot : ℕ) → syncs_of rig slot ≡ 0
  pub no_write : (slot : ℕ) → written_of rig slot ≡ 0
  pub no_read : (slot : ℕ) → given_of rig slot ≡ 0

-- every image of now is what reads give
abbrev pub IsSettled : MemRig → Type 0
IsSettled rig = (image : Image) (text : List ℕ) → ImagesAt rig.log (log_clock rig.log) image text → (s a : ℕ) → image s a ≡ disk_of rig s a

-- a rig that is unused: no slot is here, and every area is empty
pub record IsNew (rig : MemRig) : Type 0 where
  pub unused : IsUnused rig
  pub nowhere : (slot : ℕ) → is_here_in rig slot → ⊥
  pub empty : (s a : ℕ) → disk_of rig s a ≡ []

-- the calls and the faults so far are as before, and what is planned
pub record HasSamePlan (old new : MemRig) : Type 0 where
  pub calls : (slot : ℕ) → calls_on new slot ≡ calls_on old slot
  pub faults : (slot : ℕ) → faults_of new slot ≡ faults_of old slot
  pub planned : planned_of new ≡ planned_of old
  pub left : left_of new ≡ left_of old

-- as before, but for what is planned
pub record IsAsBefore (old new : MemRig) : Type 0 where
  pub log : log_of new ≡ log_of old
  pub here : (slot : ℕ) → is_here_in new slot ↔ is_here_in old slot
  pub calls : (slot : ℕ) → calls_on new slot ≡ calls_on old slot
  pub faults : (slot : ℕ) → faults_of new slot ≡ faults_of old slot
  pub counts : HasSameCounts old new
