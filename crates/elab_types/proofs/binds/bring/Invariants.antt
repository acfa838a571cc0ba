-- What is left comes in scope behind what is in scope now.
use Rattle.std.proofs.Common.{drop}
use Rattle.elab_types.specs.Bindings.{Bringing}
use Rattle.elab_types.proofs.binds.bring.Given as goal

abbrev pub invariant-loop-entry : goal.invariant-loop-entry
invariant-loop-entry l = Bringing l.entries l.fn.names (drop l.entry-index l.entries) l.names
