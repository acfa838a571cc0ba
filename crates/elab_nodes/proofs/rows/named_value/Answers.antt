use Rattle.std.proofs.Common.{refl}
use Rattle.elab_nodes.proofs.Parts.{value_made}
use Rattle.elab_nodes.proofs.rows.named_value.Goals as goal

pub returns : goal.returns
returns c = value_made _ _ refl refl refl refl
