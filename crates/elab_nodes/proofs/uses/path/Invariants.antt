-- The fields that are left.
use Rattle.std.proofs.Common.{drop}
use Rattle.fut_flat.specs.Terms.{Use}
use Rattle.fut_flat.specs.Erased.{texts}
use Rattle.elab_scopes.specs.Resolve.{projected}
use Rattle.elab_nodes.specs.Paths.{Projects}
use Rattle.elab_nodes.proofs.uses.path.Given as goal

abbrev pub invariant-loop-name : goal.invariant-loop-name
invariant-loop-name l = Projects l.at (projected l.at (Use l.fn.of l.at l.modules) (texts l.fields)) (drop l.name-index l.fields) l.made
