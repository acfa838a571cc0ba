use Rattle.std.proofs.Common.{◌∙◌, refl, ap}
use Rattle.fut_flat.specs.Erased.{term_of}
use Rattle.fut_flat.proofs.ErasedForms.{term_apply}
use Rattle.elab_nodes.proofs.Joined.{two_then, two_stop}
use Rattle.elab_nodes.proofs.exps.applied.Goals as goal

pub returns-in-Ok : goal.returns-in-Ok
returns-in-Ok c = two_then c.in-Ok.ensures (λ x s. ap term_of s ∙ term_apply _ _ _ refl) c.node.ensures

pub returns-in-Err : goal.returns-in-Err
returns-in-Err c = two_stop c.in-Err.ensures
