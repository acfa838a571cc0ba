use Rattle.fut_value.proofs.Flats.{values_have_shapes}
use Rattle.fut_value.proofs.laws.values_have_their_shapes.Goals as goal

pub returns : goal.returns
returns c = values_have_shapes
