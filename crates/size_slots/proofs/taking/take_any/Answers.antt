use Rattle.size_arena.specs.Trees.{variable_of, size_of}
use Rattle.size_slots.proofs.TakeLaws.{any_taken}
use Rattle.size_slots.proofs.taking.take_any.Goals as goal

pub returns : goal.returns
returns c = any_taken c.args.table.now c.take_type.new.table c.args.node (variable_of c.args.variable) (size_of c.args.other.now) _ _ c.take_type.result c.in_ok-any.ensures c.in_ok-taken.ensures c.take_type.ensures
