use Rattle.std.proofs.Common.{◌∙◌, refl, ap}
use Rattle.fut_flat.specs.Erased.{type_of}
use Rattle.fut_flat.proofs.ErasedPatterns.{type_arrow}
use Rattle.elab_nodes.proofs.Joined.{ended, three_then, three_stop}
use Rattle.elab_nodes.proofs.types.named_arrow.Goals as goal

pub returns-in-Ok : goal.returns-in-Ok
returns-in-Ok c = three_then c.in-Ok.ensures c.both.ensures (λ x s. ap type_of s ∙ type_arrow _ _ _ _ refl) (ended _ c.held.ensures.held c.held.ensures.memory)

pub returns-in-Err : goal.returns-in-Err
returns-in-Err c = three_stop c.in-Err.ensures c.both.ensures
