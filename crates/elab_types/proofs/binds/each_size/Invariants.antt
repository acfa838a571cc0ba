-- What was numbered so far.
use Rattle.std.proofs.Common.{drop}
use Rattle.elab_scopes.specs.Table.{entries_of}
use Rattle.elab_types.specs.Bindings.{Numbering, number_texts}
use Rattle.elab_types.proofs.binds.each_size.Given as goal

abbrev pub invariant-loop-size : goal.invariant-loop-size
invariant-loop-size l = Numbering number_texts l.sizes l.fn.names (drop l.size-index l.sizes) l.binds.items (entries_of l.entries.items) l.names
