use Rattle.std.proofs.Common.{◌∙◌, refl, ap}
use Rattle.fut_flat.specs.Erased.{type_of}
use Rattle.fut_flat.proofs.ErasedPatterns.{type_record}
use Rattle.elab_nodes.specs.Built.{stops1}
use Rattle.elab_nodes.proofs.Joined.{ended, one_then}
use Rattle.elab_nodes.proofs.types.record.Goals as goal

pub returns-in-Ok : goal.returns-in-Ok
returns-in-Ok c = rw c.in-Ok.is (one_then (λ x s. ap type_of s ∙ type_record _ _ refl) (ended _ c.held.ensures.held c.held.ensures.memory))

pub returns-in-Err : goal.returns-in-Err
returns-in-Err c = rw c.in-Err.is stops1
