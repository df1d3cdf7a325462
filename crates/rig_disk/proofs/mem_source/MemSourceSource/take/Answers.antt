use Rattle.rig_disk.proofs.TakeLemmas.{front_taken, none_left}
use Rattle.rig_disk.proofs.mem_source.MemSourceSource.take.Goals as goal

pub returns-clause-bytes : goal.returns-clause-bytes
returns-clause-bytes c = (
  front_taken _ _ c.args.into.now _ _ _ c.as_slice-bytes.ensures.value c.if-self-bytes.false c.min-count.ensures c.copy_from_slice.ensures.after,
  λ none _. none_left _ _ c.args.into.now c.copy_from_slice.new.self _ _ c.as_slice-bytes.ensures.value c.if-self-bytes.false c.min-count.ensures none c.requires,
)
