use Rattle.ec_pipeline.specs.Updates.{update_of}
use Rattle.ec_pipeline.proofs.CheckLemmas.{known_told, lead_told, lead_objects}
use Rattle.ec_pipeline.proofs.checking.check.Goals as goal

pub returns-clause-refused : goal.returns-clause-refused
returns-clause-refused c code unit objects head shown =
    c.check_by.ensures.refused code unit c.in-Some.lead objects
    (lead_objects code unit c.args.joined.0 objects head c.args.shelf.now shown c.in-Some.lead c.in-Some.ensures.some.1 c.in-Some-get.store.now c.in-Some-get.ensures.value c.state.result.now c.state.ensures.value)
    shown.shows.within

pub returns-clause-known : goal.returns-clause-known
returns-clause-known c =
    known_told c.args.joined.0 c.args.shelf.now c.in-Some.lead c.in-Some.ensures.some.1 c.in-Some-get.store.now c.in-Some-get.ensures.value c.state.result.now c.state.ensures.value
    c.args.epoch (update_of c.args.update.now) c.check_by.result c.check_by.ensures.size c.check_by.ensures.versions c.check_by.ensures.geometry

pub returns-clause-lead : goal.returns-clause-lead
returns-clause-lead c =
    lead_told c.args.joined.0 c.args.shelf.now c.in-Some.lead c.in-Some.ensures.some.1 c.in-Some.ensures.least c.in-Some-get.store.now c.in-Some-get.ensures.value c.state.result.now c.state.ensures.value
    c.args.epoch (update_of c.args.update.now) c.check_by.result c.check_by.ensures.size c.check_by.ensures.versions c.check_by.ensures.geometry
