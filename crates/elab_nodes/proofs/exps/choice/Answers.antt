use Rattle.std.proofs.Common.{◌∙◌, refl, ap}
use Rattle.fut_flat.specs.Erased.{term_of}
use Rattle.fut_flat.proofs.ErasedForms.{term_if}
use Rattle.elab_nodes.specs.Built.{first_of_three}
use Rattle.elab_nodes.proofs.Joined.{and_two, two_then, two_stop}
use Rattle.elab_nodes.proofs.exps.choice.Goals as goal

pub returns-in-Ok-both : goal.returns-in-Ok-both
returns-in-Ok-both c = rw c.in-Ok.is (and_two (two_then c.in-Ok-both.ensures (λ x s. ap term_of s ∙ term_if _ _ _ _ refl) c.node.ensures))

pub returns-in-Err-both : goal.returns-in-Err-both
returns-in-Err-both c = rw c.in-Ok.is (and_two (two_stop c.in-Err-both.ensures))

pub returns-in-Err : goal.returns-in-Err
returns-in-Err c = rw c.in-Err.is first_of_three
