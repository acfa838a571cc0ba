-- What was put, and what is among those that were not looked at.
use Rattle.std.proofs.Common.{◌≡◌, ◌++◌, map, drop}
use Rattle.elab_scopes.specs.Declarations.{given_within}
use Rattle.module_state.specs.Standing.{given_of}
use Rattle.module_members.proofs.giving.given_within.Given as goal

abbrev pub invariant-loop-one : goal.invariant-loop-one
invariant-loop-one l = given_within (map given_of l.fn.given) l.fn.name ≡ map given_of l.within.items ++ given_within (map given_of (drop l.one-index l.fn.given)) l.fn.name
