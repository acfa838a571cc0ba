use Rattle.std.proofs.Common.{◌≡◌, drop}
use Rattle.sized_types.specs.Sizes.{some_takes}
use Rattle.size_arena.specs.Changes.{property_of}
use Rattle.size_arena.specs.Trees.{sizes_of}
use Rattle.size_arena.proofs.scopes.+takes.Given as goal

abbrev pub invariant-some_takes-loop-part : goal.invariant-some_takes-loop-part
invariant-some_takes-loop-part l = some_takes (property_of l.property) (sizes_of l.parts) ≡ some_takes (property_of l.property) (sizes_of (drop l.part-index l.parts))
