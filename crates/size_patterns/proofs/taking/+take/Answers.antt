use Rattle.fut_flat.specs.Erased.{pattern_of}
use Rattle.size_arena.specs.Trees.{size_of}
use Rattle.size_program.specs.Answers.{no_memory}
use Rattle.size_patterns.proofs.TakeForms.{takes_name, takes_none, takes_no_parts, takes_parts, takes_fields, takes_typed, takes_refused, parts_from, parts_more, parts_stop, parts_done, parts_short, fields_from, fields_next, fields_done, field_none, still_taken}
use Rattle.size_patterns.proofs.Chains.{reach_more, reach_stop, reach_end}
use Rattle.size_patterns.specs.Bound.{Taken_in}
use Rattle.size_patterns.specs.Written.{field_taken}
use Rattle.std.proofs.Common.{get_or, ◌+◌}
use Rattle.size_patterns.proofs.taking.+take.Goals as goal

pub take-returns-in-Ok-clause-gives : goal.take-returns-in-Ok-clause-gives
take-returns-in-Ok-clause-gives t c = λ N k knows scope held. takes_name N c.args.sizes.now c.args.at c.args.pat.now c.args.size.now k c.args.table.now c.in-Bound.bind c.in-Ok.made c.in-Bound.is (c.in-Ok.ensures k.scope scope) held

pub take-returns-in-Err-clause-gives : goal.take-returns-in-Err-clause-gives
take-returns-in-Err-clause-gives t c = λ N k knows scope held. no_memory

pub take-returns-in-Wild-clause-gives : goal.take-returns-in-Wild-clause-gives
take-returns-in-Wild-clause-gives t c = λ N k knows scope held. takes_none N c.args.sizes.now c.args.at c.args.pat.now c.args.size.now k c.args.table.now c.args.names scope held c.in-Wild.is

pub take-returns-in-Some-clause-gives : goal.take-returns-in-Some-clause-gives
take-returns-in-Some-clause-gives t c = λ N k knows scope held. takes_parts N c.args.sizes.now c.args.at c.args.pat.now c.args.size.now k c.take_all.new.table c.take_all.result c.in-Tuple.parts c.in-Some.row c.in-Tuple.is c.in-Some.ensures (c.take_all.ensures.gives N k knows scope held)

pub take-returns-in-None-clause-gives : goal.take-returns-in-None-clause-gives
take-returns-in-None-clause-gives t c = λ N k knows scope held. takes_no_parts N c.args.sizes.now c.args.at c.args.pat.now c.args.size.now k c.args.table.now c.args.names scope held c.in-Tuple.parts c.in-Tuple.is c.in-None.ensures

pub take-returns-in-Record-clause-gives : goal.take-returns-in-Record-clause-gives
take-returns-in-Record-clause-gives t c = λ N k knows scope held. takes_fields N c.args.sizes.now c.args.at c.args.pat.now c.args.size.now k c.take_fields.new.table c.take_fields.result c.in-Record.fields c.in-Record.is (c.take_fields.ensures.gives N k knows scope held)

pub take-returns-in-Ok-take_written-clause-gives : goal.take-returns-in-Ok-take_written-clause-gives
take-returns-in-Ok-take_written-clause-gives t c = λ N k knows scope held. takes_typed N c.args.sizes.now c.args.at c.args.pat.now c.args.size.now k c.take.new.table c.in-Typed.inner c.in-Typed.written c.in-Typed.is c.take_written.new.table c.take_written.result
    (c.take_written.ensures.gives N k.found knows held) c.in-Ok-take_written.same c.take.result c.in-Ok-take_written.is (λ σ h. c.take.ensures.gives N (record { scope = k.scope; found = σ }) knows scope h)

pub take-returns-in-Err-take_written-clause-gives : goal.take-returns-in-Err-take_written-clause-gives
take-returns-in-Err-take_written-clause-gives t c = λ N k knows scope held. takes_refused N c.args.sizes.now c.args.at c.args.pat.now c.args.size.now k c.take_written.new.table c.in-Typed.inner c.in-Typed.written c.in-Typed.is c.take_written.new.table c.take_written.result
    (c.take_written.ensures.gives N k.found knows held) c.in-Err-take_written.error c.in-Err-take_written.is

pub take_all-returns-then-i-row-clause-gives : goal.take_all-returns-then-i-row-clause-gives
take_all-returns-then-i-row-clause-gives t c = λ N k knows scope held. reach_end (Taken_in c.loop-i.table c.loop-i.inside.names) _ (parts_from N c.args.sizes.now c.args.at c.args.parts.now c.args.row.now c.loop-i.i) (Taken_in c.loop-i.table) c.loop-i.inside.names (c.loop-i.invariant.far N k knows scope held) (λ a. parts_short N c.args.sizes.now c.args.at c.args.parts.now c.args.row.now c.loop-i.i a c.if-i-row.true) (λ a so. so)

pub take_all-returns-clause-gives : goal.take_all-returns-clause-gives
take_all-returns-clause-gives t c = λ N k knows scope held. reach_end (Taken_in c.loop-i.table c.loop-i.inside.names) _ (parts_from N c.args.sizes.now c.args.at c.args.parts.now c.args.row.now c.loop-i.i) (Taken_in c.loop-i.table) c.loop-i.inside.names (c.loop-i.invariant.far N k knows scope held) (λ a. parts_done N c.args.sizes.now c.args.at c.args.parts.now c.args.row.now c.loop-i.i a c.loop-i-test.false) (λ a so. so)

pub take_all-returns-in-Err-clause-gives : goal.take_all-returns-in-Err-clause-gives
take_all-returns-in-Err-clause-gives t c = λ N k knows scope held. parts_stop N c.args.sizes.now c.args.at c.args.parts.now c.args.row.now c.loop-i.i (Taken_in c.loop-i.table c.loop-i.inside.names) _ (c.loop-i.invariant.far N k knows scope held) c.take.new.table c.take.result _ c.index-row-i.result c.index-row-i.is c.loop-i-test.true c.if-i-row.false (λ a so. c.take.ensures.gives N a knows so.scope so.found) c.in-Err.error c.in-Err.is

pub take_all-loop-i-preserved : goal.take_all-loop-i-preserved
take_all-loop-i-preserved t c = record {
  holds = c.in-Ok.ensures.holds;
  far = λ N k knows scope held. parts_more N c.args.sizes.now c.args.at c.args.parts.now c.args.row.now c.loop-i.i (Taken_in c.loop-i.table c.loop-i.inside.names) _ (c.loop-i.invariant.far N k knows scope held) c.take.new.table c.take.result _ c.index-row-i.result c.index-row-i.is c.loop-i-test.true c.if-i-row.false (λ a so. c.take.ensures.gives N a knows so.scope so.found) c.in-Ok.names c.in-Ok.is;
}

pub take_field-returns-in-None-clause-gives : goal.take_field-returns-in-None-clause-gives
take_field-returns-in-None-clause-gives t c = λ N k knows scope held. field_none N c.args.sizes.now c.args.at c.args.field.now.name.now (pattern_of c.args.field.now.pat) (size_of c.args.size.now) k c.args.table.now _ (rw c.in-None.is at (c.in-Ok.ensures N knows)) (still_taken c.args.table.now c.args.names k scope held)

pub take_field-returns-in-Err-clause-gives : goal.take_field-returns-in-Err-clause-gives
take_field-returns-in-Err-clause-gives t c = λ N k knows scope held. no_memory

pub take_fields-returns-in-Err-clause-gives : goal.take_fields-returns-in-Err-clause-gives
take_fields-returns-in-Err-clause-gives t c = λ N k knows scope held. reach_stop (Taken_in c.loop-field.table c.loop-field.inside.names) _ (fields_from N c.args.sizes.now c.args.at c.args.fields.now (size_of c.args.size.now) c.loop-field.field-index)
    (λ a. field_taken N c.args.sizes.now c.args.at (get_or c.args.fields.now c.loop-field.field-index _).name.now (pattern_of (get_or c.args.fields.now c.loop-field.field-index _).pat) (size_of c.args.size.now) a)
    (fields_from N c.args.sizes.now c.args.at c.args.fields.now (size_of c.args.size.now) (c.loop-field.field-index + 1)) (Taken_in c.take_field.new.table) c.take_field.result (c.loop-field.invariant.far N k knows scope held)
    (λ a so. c.take_field.ensures.gives N a knows so.scope so.found) (λ a so. fields_next N c.args.sizes.now c.args.at c.args.fields.now (size_of c.args.size.now) c.loop-field.field-index a _ c.loop-field-test.true)
    (Taken_in c.take_field.new.table) c.in-Err.error c.in-Err.is

pub take_fields-loop-field-preserved : goal.take_fields-loop-field-preserved
take_fields-loop-field-preserved t c = record {
  holds = c.in-Ok.ensures.holds;
  far = λ N k knows scope held. reach_more (Taken_in c.loop-field.table c.loop-field.inside.names) _ (fields_from N c.args.sizes.now c.args.at c.args.fields.now (size_of c.args.size.now) c.loop-field.field-index)
      (λ a. field_taken N c.args.sizes.now c.args.at (get_or c.args.fields.now c.loop-field.field-index _).name.now (pattern_of (get_or c.args.fields.now c.loop-field.field-index _).pat) (size_of c.args.size.now) a)
      (fields_from N c.args.sizes.now c.args.at c.args.fields.now (size_of c.args.size.now) (c.loop-field.field-index + 1)) (Taken_in c.take_field.new.table) c.take_field.result (c.loop-field.invariant.far N k knows scope held)
      (λ a so. c.take_field.ensures.gives N a knows so.scope so.found) (λ a so. fields_next N c.args.sizes.now c.args.at c.args.fields.now (size_of c.args.size.now) c.loop-field.field-index a _ c.loop-field-test.true)
      c.in-Ok.names c.in-Ok.is;
}

pub take_fields-returns-clause-gives : goal.take_fields-returns-clause-gives
take_fields-returns-clause-gives t c = λ N k knows scope held. reach_end (Taken_in c.loop-field.table c.loop-field.inside.names) _ (fields_from N c.args.sizes.now c.args.at c.args.fields.now (size_of c.args.size.now) c.loop-field.field-index) (Taken_in c.loop-field.table) c.loop-field.inside.names (c.loop-field.invariant.far N k knows scope held) (λ a. fields_done N c.args.sizes.now c.args.at c.args.fields.now (size_of c.args.size.now) c.loop-field.field-index a c.loop-field-test.false) (λ a so. so)
