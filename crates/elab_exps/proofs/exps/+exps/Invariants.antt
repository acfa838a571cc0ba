-- What was done so far of a list.
use Rattle.std.proofs.Common.{◌≡◌, ◌+◌, drop, length}
use Rattle.fut_flat.specs.Erased.{term_of}
use Rattle.elab_scopes.specs.Table.{made_of}
use Rattle.elab_scopes.specs.Walks.{Doing}
use Rattle.elab_exps.specs.Parts.{Doing_rows, exp_part, source_of}
use Rattle.elab_exps.proofs.exps.+exps.Given as goal

abbrev pub invariant-walked_parts-loop-part : goal.invariant-walked_parts-loop-part
invariant-walked_parts-loop-part l = Doing made_of term_of exp_part l.parts l.fn.names (drop l.part-index l.parts) l.made.items l.names

abbrev pub invariant-walked_rows-loop-bind : goal.invariant-walked_rows-loop-bind
invariant-walked_rows-loop-bind l = Doing_rows (source_of l.body) l.binds l.fn.names (drop l.bind-index l.binds) l.made.items l.names × (l.left + l.bind-index ≡ length l.binds)
