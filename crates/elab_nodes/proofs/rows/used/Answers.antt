use Rattle.std.proofs.Common.{◌∙◌, refl, ap}
use Rattle.fut_flat.specs.Erased.{term_of}
use Rattle.fut_flat.proofs.ErasedForms.{term_use}
use Rattle.elab_nodes.proofs.Joined.{built0_as}
use Rattle.elab_nodes.proofs.rows.used.Goals as goal

pub returns : goal.returns
returns c = built0_as (λ x s. ap term_of s ∙ term_use _ _ _ refl) c.node.ensures
