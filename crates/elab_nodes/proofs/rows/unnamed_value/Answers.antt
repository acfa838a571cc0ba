use Rattle.std.proofs.Common.{refl}
use Rattle.elab_nodes.proofs.Parts.{unnamed_made}
use Rattle.elab_nodes.proofs.rows.unnamed_value.Goals as goal

pub returns : goal.returns
returns c = unnamed_made _ refl refl refl refl
