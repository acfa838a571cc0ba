-- The name of a layer has a number, so no memory is taken.
use Rattle.std.proofs.Common.{rules}
use Rattle.elab_scopes.proofs.Tied.{has_number}
use Rattle.elab_scopes.proofs.scope.Scope.forget.Goals as goal

pub invariant_of-self-in-Err : goal.invariant_of-self-in-Err
invariant_of-self-in-Err c = absurd (has_number c.pop.new.self c.self.inside.layers c.in-Some.layer c.self.inside.newest c.self.invariant (search rules) (search rules))
