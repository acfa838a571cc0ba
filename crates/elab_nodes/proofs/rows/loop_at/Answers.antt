use Rattle.std.proofs.Common.{◌∙◌, refl, ap}
use Rattle.fut_flat.specs.Erased.{term_of}
use Rattle.fut_flat.proofs.ErasedForms.{loop_is, loop_of, term_loop}
use Rattle.elab_nodes.specs.Built.{no_memory0}
use Rattle.elab_nodes.proofs.Joined.{built0_as}
use Rattle.elab_nodes.proofs.rows.loop_at.Goals as goal

pub returns-in-Ok : goal.returns-in-Ok
returns-in-Ok c = built0_as (λ x s. ap term_of s ∙ term_loop _ _ refl ∙ ap loop_of c.in-Ok.ensures ∙ loop_is _) c.node.ensures

pub returns-in-Err : goal.returns-in-Err
returns-in-Err c = no_memory0
