use Rattle.std.proofs.Common.{arith}
use Rattle.size_arena.specs.Trees.{size_of}
use Rattle.size_patterns.proofs.WrittenForms.{no_slots}
use Rattle.size_patterns.proofs.taking.slotted.Goals as goal

pub returns-then-is_empty : goal.returns-then-is_empty
returns-then-is_empty c = no_slots c.args.sizes.now (size_of c.args.tree.now) (grind (arith, c.if-is_empty.true, c.is_empty.ensures))
