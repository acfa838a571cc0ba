-- What is listed stands before the rest.
use Rattle.std.proofs.Common.{◌≡◌, ◌++◌, map}
use Rattle.elab_scopes.specs.Held.{member_of}
use Rattle.elab_scopes.proofs.members.one_by_one.Given as goal

abbrev pub invariant-loop-rest : goal.invariant-loop-rest
invariant-loop-rest l = map member_of l.listed.items ++ l.rest ≡ l.members
