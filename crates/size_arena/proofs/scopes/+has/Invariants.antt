use Rattle.std.proofs.Common.{◌≡◌, drop}
use Rattle.sized_types.specs.Sizes.{some_has}
use Rattle.size_arena.specs.Changes.{property_of}
use Rattle.size_arena.specs.Trees.{sizes_of}
use Rattle.size_arena.proofs.scopes.+has.Given as goal

abbrev pub invariant-some_has-loop-part : goal.invariant-some_has-loop-part
invariant-some_has-loop-part l = some_has (property_of l.property) (sizes_of l.parts) ≡ some_has (property_of l.property) (sizes_of (drop l.part-index l.parts))
