-- The path of the segments so far.
use Rattle.std.proofs.Common.{◌≡◌, ◌∷◌, take}
use Rattle.std.specs.Prelude.{string_bytes}
use Rattle.fut_tree.specs.Names.{names}
use Rattle.elab_scopes.specs.Imports.{slashed}
use Rattle.file_paths.proofs.joined.Given as goal

abbrev pub invariant-loop-next : goal.invariant-loop-next
invariant-loop-next l = string_bytes l.path ≡ slashed (l.fn.first ∷ names (take l.next-index l.fn.rest))
