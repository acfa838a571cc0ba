use Rattle.size_applying.proofs.NotingForms.{composed_told, is_chained}
use Rattle.size_applying.proofs.noting.note_composed.Goals as goal

pub returns : goal.returns
returns c = λ N types m is. composed_told N types c.args.node c.args.table.now c.args.application.now c.args.tables.now c.note_result.new.tables c.note_result.result m is c.as_slice.result.now c.without_two.result.now c.as_slice.ensures c.without_two.ensures.later (c.note_result.ensures N types m.found is.found (c.without_two.ensures.chained (is_chained c.args.table.now c.args.application.now m is c.as_slice.result.now c.as_slice.ensures)))
