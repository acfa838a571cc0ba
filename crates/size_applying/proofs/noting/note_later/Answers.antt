use Rattle.size_arena.specs.Trees.{size_of}
use Rattle.size_applying.specs.Sharing.{Has_seen, noted_size}
use Rattle.size_applying.proofs.NotingForms.{noted_not, noted_so}
use Rattle.size_applying.proofs.noting.note_later.Goals as goal

pub returns-in-Ok-note-clause-noted : goal.returns-in-Ok-note-clause-noted
returns-in-Ok-note-clause-noted c = λ σ held on. noted_so c.in-Ok.noting.seen (Has_seen c.noting_of.new.table c.args.later.now σ) c.args.later.now.node (size_of c.in-Ok.noting.size.now) (noted_size c.args.later.now σ) c.args.tables.now c.note.new.tables c.note.result
    c.in-Ok-note.is (c.in-Ok.ensures.seen σ held on) (c.in-Ok.ensures.size σ held on) c.note.ensures

pub returns-in-Err-note-clause-noted : goal.returns-in-Err-note-clause-noted
returns-in-Err-note-clause-noted c = λ σ held on. noted_not (Has_seen c.noting_of.new.table c.args.later.now σ) c.args.later.now.node (size_of c.in-Ok.noting.size.now) (noted_size c.args.later.now σ) c.args.tables.now c.note.new.tables c.note.result
    c.in-Err-note.error c.in-Err-note.is (c.in-Ok.ensures.size σ held on) c.note.ensures
