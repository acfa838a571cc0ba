use Rattle.size_applying.proofs.NotingForms.{noted_start, noted_more, noted_stop, noted_end}
use Rattle.size_applying.proofs.noting.note_all.Goals as goal

pub loop-one-init : goal.loop-one-init
loop-one-init c = record { held = c.requires; far = noted_start c.args.later.now c.args.table.now c.args.tables.now }

pub loop-one-preserved : goal.loop-one-preserved
loop-one-preserved c = record {
  held = c.in-Ok.ensures.held;
  far = noted_more c.args.later.now c.args.table.now c.loop-one.table c.note_later.new.table c.args.tables.now c.loop-one.tables c.note_later.new.tables c.loop-one.last.seen c.loop-one.one-index c.loop-one.invariant.far _ c.note_later.result c.loop-one-test.true c.note_later.ensures.noted c.in-Ok.seen c.in-Ok.is;
}

pub returns-in-Err : goal.returns-in-Err
returns-in-Err c = noted_stop c.args.later.now c.args.table.now c.loop-one.table c.note_later.new.table c.args.tables.now c.loop-one.tables c.note_later.new.tables c.loop-one.last.seen c.loop-one.one-index c.loop-one.invariant.far _ c.note_later.result c.loop-one-test.true c.note_later.ensures.noted c.in-Err.error c.in-Err.is

pub returns : goal.returns
returns c = noted_end c.args.later.now c.args.table.now c.loop-one.table c.args.tables.now c.loop-one.tables c.loop-one.last.seen c.loop-one.one-index c.loop-one.invariant.far c.loop-one-test.false
