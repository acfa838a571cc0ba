use Rattle.std.proofs.Common.{◌≡◌, drop}
use Rattle.sized_types.specs.Sizes.{all_replaced}
use Rattle.size_arena.specs.Trees.{sizes_of}
use Rattle.size_arena.proofs.Parts.{before}
use Rattle.size_settling.specs.Choosing.{renewal_of}
use Rattle.size_settling.proofs.renewing.+renewed.Given as goal

abbrev pub invariant-all_renewed-loop-part : goal.invariant-all_renewed-loop-part
invariant-all_renewed-loop-part l = all_replaced (renewal_of l.renewal) l.place (sizes_of l.parts) ≡ before l.made.items (all_replaced (renewal_of l.renewal) l.place (sizes_of (drop l.part-index l.parts)))
