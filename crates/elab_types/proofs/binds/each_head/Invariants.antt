-- What was numbered so far.
use Rattle.std.proofs.Common.{drop}
use Rattle.fut_flat.specs.Erased.{parameters}
use Rattle.elab_scopes.specs.Table.{entries_of}
use Rattle.elab_types.specs.Bindings.{Numbering, number_held}
use Rattle.elab_types.proofs.binds.each_head.Given as goal

abbrev pub invariant-loop-head : goal.invariant-loop-head
invariant-loop-head l = Numbering number_held l.heads l.fn.names (drop l.head-index l.heads) (parameters l.made.items) (entries_of l.entries.items) l.names
