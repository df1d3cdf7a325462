-- What the code's updates stand for. Source: this project.
use Rattle.ec_positions.specs.Updates as meant
use Rattle.ec_pipeline.specs.declared.update.Update.TheVariants as plain
use Rattle.ec_pipeline.specs.declared.update.Update.{Update}

abbrev pub update_of : Update → meant.Update
update_of (plain.Append name bytes) = meant.Append name bytes
update_of (plain.Write name off bytes) = meant.WriteAt name off bytes
update_of (plain.Full name bytes) = meant.Full name bytes
update_of (plain.Delete name) = meant.Delete name
update_of (plain.SetAttr name attr value) = meant.SetAttr name attr value
update_of (plain.RemoveAttr name attr) = meant.RemoveAttr name attr
