use Rattle.size_arena.specs.Trees.{variable_of, size_of}
use Rattle.size_slots.specs.Held.{no_memory_met, way_of}
use Rattle.size_slots.proofs.TakeLaws.{formed_refused, formed_taken}
use Rattle.size_slots.proofs.taking.take_formed.Goals as goal

pub returns-then-is_refused : goal.returns-then-is_refused
returns-then-is_refused c = formed_refused c.args.table.now c.args.table.now c.args.wanted (way_of c.args.way) c.args.at c.args.node (variable_of c.args.variable) (size_of c.args.other.now) c.if-is_refused.ensures

pub returns-in-Ok : goal.returns-in-Ok
returns-in-Ok c = formed_taken c.args.table.now c.take_any.new.table c.args.wanted (way_of c.args.way) c.args.at c.args.node (variable_of c.args.variable) (size_of c.args.other.now) c.if-is_refused.ensures c.in-Ok.ensures

pub returns-in-Err : goal.returns-in-Err
returns-in-Err c = λ σ held. no_memory_met
