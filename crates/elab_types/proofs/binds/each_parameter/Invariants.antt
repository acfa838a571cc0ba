-- The parameters that were resolved so far.
use Rattle.std.proofs.Common.{drop}
use Rattle.elab_types.specs.Bindings.{Doing_parameters}
use Rattle.elab_types.proofs.binds.each_parameter.Given as goal

abbrev pub invariant-loop-param : goal.invariant-loop-param
invariant-loop-param l = Doing_parameters l.params l.fn.names (drop l.param-index l.params) l.made.items l.names
