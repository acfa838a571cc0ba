use Rattle.std.proofs.Common.{◌∙◌, refl, ap}
use Rattle.fut_flat.specs.Erased.{term_of}
use Rattle.fut_flat.proofs.ErasedForms.{term_strict}
use Rattle.elab_nodes.specs.Built.{stops1}
use Rattle.elab_nodes.proofs.Joined.{one_then}
use Rattle.elab_nodes.proofs.exps.strict.Goals as goal

pub returns-in-Ok : goal.returns-in-Ok
returns-in-Ok c = rw c.in-Ok.is (one_then (λ x s. ap term_of s ∙ term_strict _ _ _ _ refl) c.node.ensures)

pub returns-in-Err : goal.returns-in-Err
returns-in-Err c = rw c.in-Err.is stops1
