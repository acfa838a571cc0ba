-- What is given stands among what was not looked at.
use Rattle.std.proofs.Common.{◌≡◌, map, drop}
use Rattle.elab_scopes.specs.Declarations.{given_for}
use Rattle.module_state.specs.Standing.{given_of}
use Rattle.module_members.proofs.giving.given_for.Given as goal

abbrev pub invariant-loop-one : goal.invariant-loop-one
invariant-loop-one l = given_for (map given_of l.given) l.name ≡ given_for (map given_of (drop l.one-index l.given)) l.name
