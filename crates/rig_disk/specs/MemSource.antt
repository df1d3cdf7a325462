-- What a contract sees of an input in memory. Source: this project.
use Rattle.std.specs.Prelude.{ℕ, List, drop, Option}
use Rattle.rig_disk.specs.declared.mem_source.MemSource.{MemSource}

-- the bytes that are left
abbrev pub left_of : MemSource → List ℕ
left_of source = drop source.at source.bytes

abbrev pub faults_of : MemSource → ℕ
faults_of source = source.faults

-- the takes so far
abbrev pub calls_of : MemSource → ℕ
calls_of source = source.calls

-- the number of the take that is to fail
abbrev pub planned_of : MemSource → Option ℕ
planned_of source = source.fail
