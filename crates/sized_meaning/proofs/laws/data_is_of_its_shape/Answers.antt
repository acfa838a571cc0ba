use Rattle.sized_meaning.proofs.Alone.{data_is_of_its_shape}
use Rattle.sized_meaning.proofs.laws.data_is_of_its_shape.Goals as goal

pub returns : goal.returns
returns c = data_is_of_its_shape
