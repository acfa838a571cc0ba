use Rattle.std.proofs.Common.{refl, sym, ap, ◌∙◌, subst}
use Rattle.fut_blocks.specs.Plain.{Size_of, action_of}
use Rattle.fut_blocks.specs.Rows.{extent_of, row_of, test_of}
use Rattle.fut_blocks.proofs.Layers.{action_of-Size, action_of-Coerce}
use Rattle.array_data.specs.Held.{held_all}
use Rattle.fut_eval.specs.Runs.{Act_runs}
use Rattle.fut_eval.proofs.Acts.{act_made, act_coerce}
use Rattle.fut_eval.proofs.blocks.+blocks.Goals as goal

pub run_act-returns-in-Size : goal.run_act-returns-in-Size
run_act-returns-in-Size t c =
    subst (λ z. Act_runs c.args.turns z (held_all c.args.table.now) (held_all c.args.table.now) (held_all c.args.stack.now.items) (held_all c.put_size.new.stack.items) c.put_size.result) (sym (ap action_of c.in-Size.is ∙ action_of-Size c.in-Size.extent))
    (act_made c.args.turns (Size_of (extent_of c.in-Size.extent)) c.args.table.now c.args.table.now (held_all c.args.stack.now.items) (held_all c.put_size.new.stack.items) c.put_size.result c.put_size.ensures refl)

pub run_act-returns-in-Coerce : goal.run_act-returns-in-Coerce
run_act-returns-in-Coerce t c =
    subst (λ z. Act_runs c.args.turns z (held_all c.args.table.now) (held_all c.args.table.now) (held_all c.args.stack.now.items) (held_all c.args.stack.now.items) c.coerce.result) (sym (ap action_of c.in-Coerce.is ∙ action_of-Coerce c.in-Coerce.place c.in-Coerce.test c.in-Coerce.row))
    (act_coerce c.args.turns c.in-Coerce.place (test_of c.in-Coerce.test.now) (row_of c.in-Coerce.row.now) (held_all c.args.table.now) (held_all c.args.stack.now.items) c.coerce.result c.coerce.ensures)
