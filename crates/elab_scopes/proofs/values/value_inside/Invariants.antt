-- The rest of the path leads to the same value from where the walk stands, with as many modules named as names were passed.
use Rattle.std.proofs.Common.{◌≡◌, ◌+◌, ◌-◌, ◌≤◌, drop, length}
use denote.Shadow.{shadow}
use denote.Text.{Utf8}
use Rattle.fut_tree.specs.Names.{names}
use Rattle.elab_scopes.specs.Scopes.{inside}
use Rattle.elab_scopes.specs.Held.{module_ref_of}
use Rattle.elab_scopes.specs.Modules.{modules_of}
use Rattle.elab_scopes.proofs.values.value_inside.Given as goal

abbrev pub invariant-loop-index : goal.invariant-loop-index
invariant-loop-index l = (inside (modules_of l.fn.modules) l.fn.at 1 (module_ref_of l.fn.from) l.fn.first (names l.fn.path) ≡ inside (modules_of l.fn.modules) l.fn.at (l.index + 1) (module_ref_of l.within) l.name (names (drop l.index l.fn.path))) × shadow (Utf8 l.name) × (l.index ≤ length l.fn.path)

abbrev pub decreases-loop-index : goal.decreases-loop-index
decreases-loop-index l = length l.fn.path - l.index
