use Rattle.std.proofs.Common.{refl}
use Rattle.size_arena.specs.Trees.{variable_of, size_of}
use Rattle.size_slots.proofs.TakeLaws.{type_held}
use Rattle.size_slots.proofs.taking.take_type.Goals as goal

pub returns : goal.returns
returns c = λ σ held fixed. type_held c.args.table.now (record { slots = c.args.table.now.slots; chosen = c.push.new.self; next = c.args.table.now.next; makers = c.args.table.now.makers }) c.args.node (variable_of c.args.variable) (size_of c.args.size.now) _ c.fill_all.new.chosen refl refl refl
    c.in_ok-fill_all.ensures c.in_ok-push.ensures.ok refl refl refl σ held fixed
