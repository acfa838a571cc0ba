-- The rest of the path leads to the same name from where the walk stands.
use Rattle.std.proofs.Common.{◌≡◌, drop}
use denote.Shadow.{shadow}
use denote.Text.{Utf8}
use Rattle.fut_tree.specs.Names.{names}
use Rattle.elab_scopes.specs.Held.{module_ref_of}
use Rattle.elab_scopes.specs.Modules.{modules_of}
use Rattle.elab_scopes.specs.Paths.{holder}
use Rattle.elab_scopes.proofs.inside.holder.Given as goal

abbrev pub invariant-loop-next : goal.invariant-loop-next
invariant-loop-next l = (holder (modules_of l.fn.modules) l.fn.at (module_ref_of l.fn.from) l.fn.first (names l.fn.path) ≡ holder (modules_of l.fn.modules) l.fn.at (module_ref_of l.within) l.name (names (drop l.next-index l.fn.path))) × shadow (Utf8 l.name)
