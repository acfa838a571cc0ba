use Rattle.size_applying.specs.Wanted.{laters_of}
use Rattle.size_applying.proofs.NotingForms.{whole_first_stop, whole_noted, whole_stop}
use Rattle.size_applying.proofs.noting.note_whole.Goals as goal

pub returns-in-Err : goal.returns-in-Err
returns-in-Err c = λ N types σ held chained. whole_first_stop N types c.args.node (laters_of c.args.later.now) σ c.args.tables.now c.note_all.new.tables c.note_all.new.tables c.args.whole c.note_all.result (c.note_all.ensures N types σ held chained) c.in-Err.error c.in-Err.is

pub returns-in-Ok-note : goal.returns-in-Ok-note
returns-in-Ok-note c = λ N types σ held chained. whole_noted N types c.args.node (laters_of c.args.later.now) σ c.args.tables.now c.note_all.new.tables c.note.new.tables c.args.whole c.note_all.result (c.note_all.ensures N types σ held chained) c.note.result c.note.ensures c.in-Ok.is c.in-Ok-note.is

pub returns-in-Err-note : goal.returns-in-Err-note
returns-in-Err-note c = λ N types σ held chained. whole_stop N types c.args.node (laters_of c.args.later.now) σ c.args.tables.now c.note_all.new.tables c.note.new.tables c.args.whole c.note_all.result (c.note_all.ensures N types σ held chained) c.note.result c.note.ensures c.in-Ok.is c.in-Err-note.error c.in-Err-note.is
