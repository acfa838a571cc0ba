use Rattle.std.proofs.Common.{refl}
use Rattle.size_applying.proofs.GoingForms.{counting}
use Rattle.size_applying.proofs.going.count.Goals as goal

pub returns : goal.returns
returns c = counting c.args.table.now c.made_at.new.table record { slots = c.made_at.new.table.slots; chosen = c.made_at.new.table.chosen; next = c.in_ok-next.next; makers = c.made_at.new.table.makers } c.args.node c.args.chosen _ c.in_ok-value.value c.in_ok-met.met
    c.in_ok-made_at.ensures.made refl refl refl c.in_ok-value.ensures c.in_ok-met.ensures c.in_ok-next.ensures
