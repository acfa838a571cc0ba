use Rattle.std.proofs.Common.{refl}
use Rattle.size_arena.specs.Trees.{variable_of, type_of}
use Rattle.size_settling.proofs.SettleLaws.{own_held}
use Rattle.size_settling.proofs.settling.own_type.Goals as goal

pub returns : goal.returns
returns c = own_held c.args.table.now c.take_type.new.table c.args.node (variable_of c.args.variable) (type_of c.args.ty.now) _ _ c.made_at.new.table (record { slots = c.made_at.new.table.slots; chosen = c.made_at.new.table.chosen; next = c.in_ok-next.next; makers = c.made_at.new.table.makers })
    c.take_type.result c.in_ok-made_at.ensures.made refl refl refl c.in_ok-next.ensures c.in_ok-made.ensures c.in_ok-size.ensures c.take_type.ensures
