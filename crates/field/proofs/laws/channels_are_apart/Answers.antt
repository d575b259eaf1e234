use Rattle.field.proofs.FieldLaws.{own_sensor}
use Rattle.field.proofs.laws.channels_are_apart.Goals as goal

pub returns : goal.returns
returns c = record { own = own_sensor }
