use Rattle.size_applying.proofs.NotingForms.{is_chained, met_told}
use Rattle.size_applying.proofs.noting.note_met.Goals as goal

pub returns : goal.returns
returns c = λ N types m is. met_told N types c.args.node c.args.table.now c.args.application.now c.args.tables.now c.note_result.new.tables c.note_result.result m is c.as_slice.result.now c.as_slice.ensures (c.note_result.ensures N types m.found is.found (is_chained c.args.table.now c.args.application.now m is c.as_slice.result.now c.as_slice.ensures))
