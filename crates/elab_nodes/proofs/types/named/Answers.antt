use Rattle.std.proofs.Common.{◌∙◌, refl, ap}
use Rattle.fut_flat.specs.Erased.{type_of}
use Rattle.fut_flat.proofs.ErasedPatterns.{type_use}
use Rattle.elab_nodes.proofs.Joined.{ended, two_then, two_stop}
use Rattle.elab_nodes.proofs.types.named.Goals as goal

pub returns-in-Ok : goal.returns-in-Ok
returns-in-Ok c = two_then c.in-Ok.ensures (λ x s. ap type_of s ∙ type_use _ _ _ refl) (ended _ c.held.ensures.held c.held.ensures.memory)

pub returns-in-Err : goal.returns-in-Err
returns-in-Err c = two_stop c.in-Err.ensures
