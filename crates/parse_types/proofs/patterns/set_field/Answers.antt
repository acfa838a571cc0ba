-- The pattern that was read, behind the name.
use Rattle.std.proofs.Common.{refl}
use Rattle.fut_ast.specs.Sorts.{Whole_pat}
use Rattle.parse_types.proofs.ReadLaws.{fails_as}
use Rattle.parse_types.proofs.patterns.set_field.Goals as goal

pub returns-in-Ok-clause-exact : goal.returns-in-Ok-clause-exact
returns-in-Ok-clause-exact c m given = let read = c.in-Ok.ensures.exact Whole_pat (λ p. p.now) m given in rw read refl

pub returns-in-Err-clause-exact : goal.returns-in-Err-clause-exact
returns-in-Err-clause-exact c m given = fails_as c.in-Err.stop (c.in-Err.ensures.exact Whole_pat (λ p. p.now) m given) (λ f read. rw read refl)
