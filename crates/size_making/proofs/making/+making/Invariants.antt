use Rattle.std.proofs.Common.{◌≡◌, drop}
use Rattle.fut_sizes.specs.Agreeing.{of_types}
use Rattle.size_making.specs.Makings.{making_of}
use Rattle.size_arena.specs.Trees.{tys_of}
use Rattle.size_arena.proofs.Parts.{before}
use Rattle.size_making.proofs.making.+making.Given as goal

abbrev pub invariant-of_types-loop-part : goal.invariant-of_types-loop-part
invariant-of_types-loop-part l = of_types (making_of l.making) l.first (tys_of l.parts) ≡ before l.made.items (of_types (making_of l.making) l.number (tys_of (drop l.part-index l.parts)))
