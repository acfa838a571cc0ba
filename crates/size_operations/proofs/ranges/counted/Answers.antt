use Rattle.size_arena.specs.Trees.{free_of}
use Rattle.size_operations.proofs.RangeForms.{two_parts}
use Rattle.size_operations.proofs.ranges.counted.Goals as goal

pub returns : goal.returns
returns c = two_parts c.args.is_i64 c.args.node c.args.parts.now _ c.is_literal-starts.result c.both.result (free_of c.end_size.result) c.if-parts-ne2.false c.is_literal-starts.ensures c.both.ensures c.end_size.ensures
