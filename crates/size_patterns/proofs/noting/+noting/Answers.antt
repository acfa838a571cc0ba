use Rattle.fut_flat.specs.Erased.{pattern_of}
use Rattle.size_arena.specs.Trees.{size_of}
use Rattle.size_program.specs.Program.{sub_of}
use Rattle.size_program.proofs.StepLaws.{given, out_of_memory}
use Rattle.std.proofs.Common.{refl, Ok}
use Rattle.size_patterns.specs.Heads.{Done}
use Rattle.size_patterns.proofs.NoteForms.{notes_name, notes_none, notes_no_parts, notes_parts, notes_tuple_not, notes_fields, notes_record_not, notes_typed, notes_more, notes_stop, notes_end, notes_short, fields_more, fields_stop, fields_end, field_none}
use Rattle.size_patterns.proofs.noting.+noting.Goals as goal

pub note_pattern-returns-in-Bound : goal.note_pattern-returns-in-Bound
note_pattern-returns-in-Bound t c = λ N k. notes_name N (sub_of c.args.program.now.types.now) c.args.pat.now c.args.node (size_of c.args.size.now) c.args.tables.now c.note.new.tables c.note.result c.note.ensures c.in-Bound.field-0 c.in-Bound.is

pub note_pattern-returns-in-Wild : goal.note_pattern-returns-in-Wild
note_pattern-returns-in-Wild t c = λ N k. notes_none N (sub_of c.args.program.now.types.now) c.args.pat.now c.args.node (size_of c.args.size.now) c.args.tables.now c.note-in-Wild.new.tables c.note-in-Wild.result c.note-in-Wild.ensures c.in-Wild.is

pub note_pattern-returns-in-Some : goal.note_pattern-returns-in-Some
note_pattern-returns-in-Some t c = λ N k. notes_parts N (sub_of c.args.program.now.types.now) c.args.pat.now c.args.node (size_of c.args.size.now) c.args.tables.now c.note-in-Tuple.new.tables c.note-in-Tuple.result c.note-in-Tuple.ensures c.in-Tuple.parts c.in-Tuple.is c.in-Ok.field-0 c.in-Some.row c.note_patterns.new.tables c.note_patterns.result c.in-Ok.is c.in-Some.ensures (c.note_patterns.ensures N k)

pub note_pattern-returns-in-None : goal.note_pattern-returns-in-None
note_pattern-returns-in-None t c = λ N k. notes_no_parts N (sub_of c.args.program.now.types.now) c.args.pat.now c.args.node (size_of c.args.size.now) c.args.tables.now c.note-in-Tuple.new.tables c.note-in-Tuple.result c.note-in-Tuple.ensures c.in-Tuple.parts c.in-Tuple.is c.in-Ok.field-0 c.in-Ok.is c.in-None.ensures

pub note_pattern-returns-in-Err : goal.note_pattern-returns-in-Err
note_pattern-returns-in-Err t c = λ N k. notes_tuple_not N (sub_of c.args.program.now.types.now) c.args.pat.now c.args.node (size_of c.args.size.now) c.args.tables.now c.note-in-Tuple.new.tables c.note-in-Tuple.result c.note-in-Tuple.ensures c.in-Tuple.parts c.in-Tuple.is c.in-Err.error c.in-Err.is

pub note_pattern-returns-in-Ok-note : goal.note_pattern-returns-in-Ok-note
note_pattern-returns-in-Ok-note t c = λ N k. notes_fields N (sub_of c.args.program.now.types.now) c.args.pat.now c.args.node (size_of c.args.size.now) c.args.tables.now c.note-in-Record.new.tables c.note-in-Record.result c.note-in-Record.ensures c.in-Record.fields c.in-Record.is c.in-Ok-note.field-0 c.note_fields.new.tables c.note_fields.result c.in-Ok-note.is (c.note_fields.ensures N k)

pub note_pattern-returns-in-Err-note : goal.note_pattern-returns-in-Err-note
note_pattern-returns-in-Err-note t c = λ N k. notes_record_not N (sub_of c.args.program.now.types.now) c.args.pat.now c.args.node (size_of c.args.size.now) c.args.tables.now c.note-in-Record.new.tables c.note-in-Record.result c.note-in-Record.ensures c.in-Record.fields c.in-Record.is c.in-Err-note.error c.in-Err-note.is

pub note_pattern-returns-in-Ok-coerced : goal.note_pattern-returns-in-Ok-coerced
note_pattern-returns-in-Ok-coerced t c = λ N k. notes_typed N (sub_of c.args.program.now.types.now) c.args.pat.now c.args.node (size_of c.args.size.now) c.args.tables.now c.in-Typed.inner c.in-Typed.written (size_of c.in-Ok-coerced.same.now) c.note_pattern.new.tables c.note_pattern.result c.in-Typed.is (c.in-Ok-coerced.ensures N k) (c.note_pattern.ensures N k)

pub note_pattern-returns-in-Err-coerced : goal.note_pattern-returns-in-Err-coerced
note_pattern-returns-in-Err-coerced t c = λ N k. out_of_memory Done _ c.args.tables.now c.args.tables.now

pub note_patterns-returns-in-Err : goal.note_patterns-returns-in-Err
note_patterns-returns-in-Err t c = λ N k. out_of_memory Done _ c.args.tables.now c.args.tables.now

pub note_patterns-returns-then-i-row : goal.note_patterns-returns-then-i-row
note_patterns-returns-then-i-row t c = λ N k. notes_short N (sub_of c.args.program.now.types.now) c.args.parts.now c.args.row.now c.loop-i.i c.loop-i.at c.args.tables.now c.loop-i.tables _ (c.loop-i.invariant N k) tt c.if-i-row.true

pub note_patterns-returns-in-Err-note_pattern : goal.note_patterns-returns-in-Err-note_pattern
note_patterns-returns-in-Err-note_pattern t c = λ N k. notes_stop N (sub_of c.args.program.now.types.now) c.args.parts.now c.args.row.now c.loop-i.i c.loop-i.at c.args.tables.now c.loop-i.tables _ (c.loop-i.invariant N k) c.note_pattern.new.tables c.note_pattern.result _ c.index-row-i.result c.index-row-i.is c.loop-i-test.true c.if-i-row.false (c.note_pattern.ensures N k) c.in-Err-note_pattern.error c.in-Err-note_pattern.is

pub note_patterns-returns-in-Err-after_pattern : goal.note_patterns-returns-in-Err-after_pattern
note_patterns-returns-in-Err-after_pattern t c = λ N k. out_of_memory Done _ c.args.tables.now c.note_pattern.new.tables

pub note_patterns-loop-i-preserved : goal.note_patterns-loop-i-preserved
note_patterns-loop-i-preserved t c = λ N k. notes_more N (sub_of c.args.program.now.types.now) c.args.parts.now c.args.row.now c.loop-i.i c.loop-i.at c.args.tables.now c.loop-i.tables _ (c.loop-i.invariant N k) c.note_pattern.new.tables c.note_pattern.result _ c.index-row-i.result c.index-row-i.is c.loop-i-test.true c.if-i-row.false (c.note_pattern.ensures N k) c.in-Ok-note_pattern.field-0 c.in-Ok-after_pattern.next c.in-Ok-note_pattern.is c.in-Ok-after_pattern.ensures

pub note_patterns-returns : goal.note_patterns-returns
note_patterns-returns t c = λ N k. notes_end N (sub_of c.args.program.now.types.now) c.args.parts.now c.args.row.now c.loop-i.i c.loop-i.at c.args.tables.now c.loop-i.tables _ (c.loop-i.invariant N k) tt c.loop-i-test.false

pub note_fields-returns-in-Err : goal.note_fields-returns-in-Err
note_fields-returns-in-Err t c = λ N k. out_of_memory Done _ c.args.tables.now c.args.tables.now

pub note_fields-returns-in-Err-note_field : goal.note_fields-returns-in-Err-note_field
note_fields-returns-in-Err-note_field t c = λ N k. fields_stop N (sub_of c.args.program.now.types.now) c.args.fields.now (size_of c.args.size.now) c.loop-field.field-index c.loop-field.at c.args.tables.now c.loop-field.tables _ (c.loop-field.invariant N k) c.note_field.new.tables c.note_field.result _ c.loop-field-test.true (c.note_field.ensures N k) c.in-Err-note_field.error c.in-Err-note_field.is

pub note_fields-returns-in-Err-after_pattern : goal.note_fields-returns-in-Err-after_pattern
note_fields-returns-in-Err-after_pattern t c = λ N k. out_of_memory Done _ c.args.tables.now c.note_field.new.tables

pub note_fields-loop-field-preserved : goal.note_fields-loop-field-preserved
note_fields-loop-field-preserved t c = λ N k. fields_more N (sub_of c.args.program.now.types.now) c.args.fields.now (size_of c.args.size.now) c.loop-field.field-index c.loop-field.at c.args.tables.now c.loop-field.tables _ (c.loop-field.invariant N k) c.note_field.new.tables c.note_field.result _ c.loop-field-test.true (c.note_field.ensures N k) c.in-Ok-note_field.field-0 c.in-Ok-after_pattern.next c.in-Ok-note_field.is c.in-Ok-after_pattern.ensures

pub note_fields-returns : goal.note_fields-returns
note_fields-returns t c = λ N k. fields_end N (sub_of c.args.program.now.types.now) c.args.fields.now (size_of c.args.size.now) c.loop-field.field-index c.loop-field.at c.args.tables.now c.loop-field.tables _ (c.loop-field.invariant N k) tt c.loop-field-test.false

pub note_field-returns-in-None : goal.note_field-returns-in-None
note_field-returns-in-None t c = λ N k. field_none N (sub_of c.args.program.now.types.now) c.args.field.now.name.now (pattern_of c.args.field.now.pat) c.args.node (size_of c.args.size.now) c.args.tables.now c.args.tables.now (Ok tt) (rw c.in-None.is at (c.in-Ok.ensures N k)) (given Done tt tt c.args.tables.now refl)

pub note_field-returns-in-Err : goal.note_field-returns-in-Err
note_field-returns-in-Err t c = λ N k. out_of_memory Done _ c.args.tables.now c.args.tables.now
