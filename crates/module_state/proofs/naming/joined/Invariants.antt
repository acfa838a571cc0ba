-- The text of the names so far.
use Rattle.std.proofs.Common.{◌≡◌, take}
use Rattle.std.specs.Prelude.{string_bytes}
use Rattle.fut_tree.specs.Names.{names}
use Rattle.elab_scopes.specs.Declarations.{joined}
use Rattle.module_state.proofs.naming.joined.Given as goal

abbrev pub invariant-loop-next : goal.invariant-loop-next
invariant-loop-next l = string_bytes l.text ≡ joined l.fn.first (names (take l.next-index l.fn.rest))
