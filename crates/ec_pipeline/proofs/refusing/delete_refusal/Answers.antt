use Rattle.ec_pipeline.proofs.ObjectLemmas.{delete_absent, delete_there}
use Rattle.ec_pipeline.proofs.refusing.delete_refusal.Goals as goal

pub returns-in-None : goal.returns-in-None
returns-in-None c = delete_absent c.args.state.now.state.objects c.args.name.now c.in-None.ensures

pub returns-in-Some : goal.returns-in-Some
returns-in-Some c = delete_there c.args.state.now.state.objects c.args.name.now c.in-Some.field-0.now c.in-Some.ensures
