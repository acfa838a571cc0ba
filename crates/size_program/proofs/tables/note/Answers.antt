use Rattle.std.proofs.Common.{arith}
use Rattle.size_program.proofs.NoteForms.{note_done}
use Rattle.size_program.proofs.tables.note.Goals as goal

-- src/tables.rt:24:1
pub returns : goal.returns
returns c = note_done c.args.tables.now c.args.node c.args.size c.set.new.self tt (omega (arith, c.if-at-len.false, c.len.ensures)) c.set.ensures
