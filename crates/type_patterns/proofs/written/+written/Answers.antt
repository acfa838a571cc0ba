use Rattle.std.proofs.Common.{◌+◌, ◌<◌, ◌++◌, List, length, map, take, refl, sym, ◌∙◌, subst, ap, arith}
use Rattle.fut_flat.specs.Terms.{Tuple_type, Record_type}
use Rattle.fut_flat.specs.Erased.{FlatType, size_of, type_of, types}
use Rattle.fut_flat.proofs.ErasedPatterns.{type_array, type_unique, type_arrow, type_tuple}
use Rattle.type_graph.specs.Graph.{Each, numbers}
use Rattle.type_rules.proofs.Adding.{on_ok, if_err, tells}
use Rattle.type_patterns.specs.Asking.{Asked, Types_claim, field_name, field_type}
use Rattle.type_patterns.proofs.Own.{safe_own, old_low, own_low, own_one, own_all}
use Rattle.type_patterns.proofs.Using.{array_within, fun_within}
use Rattle.type_patterns.proofs.Rows.{Row_asked, row_none, row_more, row_refused, map_next, split_at, take_all, long_map, room_at, each_number}
use Rattle.type_patterns.proofs.Forms.{array_ok, array_err1, array_err2, array_err3, arrow_ok, arrow_err1, arrow_err2, arrow_err3, result_ok, result_err, result_safe, made_ok, made_err1, made_err2, of_tuples, of_records, record_is, use_is, given_err}
use Rattle.type_patterns.proofs.Weighing.{weigh, weigh_all, falls, falls_in}
use Rattle.type_patterns.proofs.written.+written.Goals as goal

pub ask_array-ask-requires-clause-safe : goal.ask_array-ask-requires-clause-safe
ask_array-ask-requires-clause-safe t c = safe_own c.args.base 1 c.args.inference.now c.add_nodes.new.inference c.requires.safe c.in-Ok.ensures.ok c.len-all.result c.len-all.ensures

pub ask_array-ask-requires-clause-within : goal.ask_array-ask-requires-clause-within
ask_array-ask-requires-clause-within t c = array_within c.add_nodes.new.inference.table c.len-all.result c.args.node c.in-Ok.own c.args.places (old_low c.args.base 1 c.args.node c.len-all.result c.args.inference.now c.add_nodes.new.inference c.requires.safe c.in-Ok.ensures.ok c.len-all.ensures c.requires.node) (own_one 1 c.in-Ok.own c.len-all.result c.args.inference.now c.add_nodes.new.inference c.in-Ok.ensures.ok c.in-Ok.ensures.first c.len-all.ensures (omega arith))

pub ask_array-returns-in-Err-ask-clause-err : goal.ask_array-returns-in-Err-ask-clause-err
ask_array-returns-in-Err-ask-clause-err t c = tells c.in-Err-ask.error (λ f. array_err1 c.args.places c.args.base c.args.node c.in-Ok.own (size_of c.args.size) (type_of c.args.element.now) c.args.inference.now c.add_nodes.new.inference c.ask.new.inference c.requires.safe c.requires.node c.in-Ok.ensures.ok c.in-Ok.ensures.first c.len-all.result c.len-all.ensures (f c.args.places)) c.in-Err-ask.ensures.err

pub ask_array-ask_size-requires : goal.ask_array-ask_size-requires
ask_array-ask_size-requires t c = record { safe = (c.in-Ok-ask.ensures.ok c.args.places).later.safe }

pub ask_array-returns-in-Err-ask_size-clause-err : goal.ask_array-returns-in-Err-ask_size-clause-err
ask_array-returns-in-Err-ask_size-clause-err t c = tells c.in-Err-ask_size.error (λ f. array_err2 c.args.places c.args.base c.args.node c.in-Ok.own (size_of c.args.size) (type_of c.args.element.now) c.args.inference.now c.add_nodes.new.inference c.ask.new.inference c.requires.safe c.requires.node c.in-Ok.ensures.ok c.in-Ok.ensures.first c.len-all.result c.len-all.ensures c.ask_size.new.inference (c.in-Ok-ask.ensures.ok c.args.places) (f c.args.places)) c.in-Err-ask_size.ensures.err

pub ask_array-ask_type-requires : goal.ask_array-ask_type-requires
ask_array-ask_type-requires t c = (omega arith, ((c.in-Ok-ask_size.ensures.ok c.args.places).later.safe, (own_one 1 c.in-Ok.own c.len-all.result c.args.inference.now c.add_nodes.new.inference c.in-Ok.ensures.ok c.in-Ok.ensures.first c.len-all.ensures (omega arith))))

pub ask_array-returns-clause-ok : goal.ask_array-returns-clause-ok
ask_array-returns-clause-ok t c = on_ok c.ask_type.result (λ f. array_ok c.args.places c.args.base c.args.node c.in-Ok.own (size_of c.args.size) (type_of c.args.element.now) c.args.inference.now c.add_nodes.new.inference c.ask.new.inference c.requires.safe c.requires.node c.in-Ok.ensures.ok c.in-Ok.ensures.first c.len-all.result c.len-all.ensures c.ask_size.new.inference (c.in-Ok-ask.ensures.ok c.args.places) c.ask_type.new.inference (c.in-Ok-ask_size.ensures.ok c.args.places) f) c.ask_type.ensures.ok

pub ask_array-returns-clause-err : goal.ask_array-returns-clause-err
ask_array-returns-clause-err t c = if_err c.ask_type.result (λ f. array_err3 c.args.places c.args.base c.args.node c.in-Ok.own (size_of c.args.size) (type_of c.args.element.now) c.args.inference.now c.add_nodes.new.inference c.ask.new.inference c.requires.safe c.requires.node c.in-Ok.ensures.ok c.in-Ok.ensures.first c.len-all.result c.len-all.ensures c.ask_size.new.inference (c.in-Ok-ask.ensures.ok c.args.places) c.ask_type.new.inference (c.in-Ok-ask_size.ensures.ok c.args.places) f) c.ask_type.ensures.err

pub ask_arrow-ask-requires-clause-safe : goal.ask_arrow-ask-requires-clause-safe
ask_arrow-ask-requires-clause-safe t c = safe_own c.args.base 2 c.args.inference.now c.add_nodes.new.inference c.requires.safe c.in-Ok.ensures.ok c.len-all.result c.len-all.ensures

pub ask_arrow-ask-requires-clause-within : goal.ask_arrow-ask-requires-clause-within
ask_arrow-ask-requires-clause-within t c = fun_within c.add_nodes.new.inference.table c.len-all.result c.args.node c.in-Ok.own (c.in-Ok.own + 1) (old_low c.args.base 2 c.args.node c.len-all.result c.args.inference.now c.add_nodes.new.inference c.requires.safe c.in-Ok.ensures.ok c.len-all.ensures c.requires.node) (own_one 2 c.in-Ok.own c.len-all.result c.args.inference.now c.add_nodes.new.inference c.in-Ok.ensures.ok c.in-Ok.ensures.first c.len-all.ensures (omega arith)) (own_low 2 c.in-Ok.own c.len-all.result 1 c.args.inference.now c.add_nodes.new.inference c.in-Ok.ensures.ok c.in-Ok.ensures.first c.len-all.ensures (omega arith))

pub ask_arrow-returns-in-Err-ask-clause-err : goal.ask_arrow-returns-in-Err-ask-clause-err
ask_arrow-returns-in-Err-ask-clause-err t c = tells c.in-Err-ask.error (λ f. arrow_err1 c.args.places c.args.base c.args.node c.in-Ok.own c.args.bind (type_of c.args.from.now) (type_of c.args.to.now) c.args.inference.now c.add_nodes.new.inference c.ask.new.inference c.requires.safe c.requires.node c.in-Ok.ensures.ok c.in-Ok.ensures.first c.len-all.result c.len-all.ensures (f c.args.places)) c.in-Err-ask.ensures.err

pub ask_arrow-ask_type-requires : goal.ask_arrow-ask_type-requires
ask_arrow-ask_type-requires t c = (omega arith, ((c.in-Ok-ask.ensures.ok c.args.places).later.safe, (own_one 2 c.in-Ok.own c.len-all.result c.args.inference.now c.add_nodes.new.inference c.in-Ok.ensures.ok c.in-Ok.ensures.first c.len-all.ensures (omega arith))))

pub ask_arrow-returns-in-Err-ask_type-clause-err : goal.ask_arrow-returns-in-Err-ask_type-clause-err
ask_arrow-returns-in-Err-ask_type-clause-err t c = tells c.in-Err-ask_type.error (λ f. arrow_err2 c.args.places c.args.base c.args.node c.in-Ok.own c.args.bind (type_of c.args.from.now) (type_of c.args.to.now) c.args.inference.now c.add_nodes.new.inference c.ask.new.inference c.requires.safe c.requires.node c.in-Ok.ensures.ok c.in-Ok.ensures.first c.len-all.result c.len-all.ensures c.ask_type.new.inference (c.in-Ok-ask.ensures.ok c.args.places) f) c.in-Err-ask_type.ensures.err

pub ask_arrow-ask_result-requires : goal.ask_arrow-ask_result-requires
ask_arrow-ask_result-requires t c = (omega arith, (c.in-Ok-ask_type.ensures.ok.later.safe, ((own_one 2 c.in-Ok.own c.len-all.result c.args.inference.now c.add_nodes.new.inference c.in-Ok.ensures.ok c.in-Ok.ensures.first c.len-all.ensures (omega arith)), (own_low 2 c.in-Ok.own c.len-all.result 1 c.args.inference.now c.add_nodes.new.inference c.in-Ok.ensures.ok c.in-Ok.ensures.first c.len-all.ensures (omega arith)))))

pub ask_arrow-returns-clause-ok : goal.ask_arrow-returns-clause-ok
ask_arrow-returns-clause-ok t c = on_ok c.ask_result.result (λ f. arrow_ok c.args.places c.args.base c.args.node c.in-Ok.own c.args.bind (type_of c.args.from.now) (type_of c.args.to.now) c.args.inference.now c.add_nodes.new.inference c.ask.new.inference c.requires.safe c.requires.node c.in-Ok.ensures.ok c.in-Ok.ensures.first c.len-all.result c.len-all.ensures c.ask_type.new.inference (c.in-Ok-ask.ensures.ok c.args.places) c.ask_result.new.inference c.in-Ok-ask_type.ensures.ok f) c.ask_result.ensures.ok

pub ask_arrow-returns-clause-err : goal.ask_arrow-returns-clause-err
ask_arrow-returns-clause-err t c = if_err c.ask_result.result (λ f. arrow_err3 c.args.places c.args.base c.args.node c.in-Ok.own c.args.bind (type_of c.args.from.now) (type_of c.args.to.now) c.args.inference.now c.add_nodes.new.inference c.ask.new.inference c.requires.safe c.requires.node c.in-Ok.ensures.ok c.in-Ok.ensures.first c.len-all.result c.len-all.ensures c.ask_type.new.inference (c.in-Ok-ask.ensures.ok c.args.places) c.ask_result.new.inference c.in-Ok-ask_type.ensures.ok f) c.ask_result.ensures.err

pub ask_result-returns-in-None-clause-ok : goal.ask_result-returns-in-None-clause-ok
ask_result-returns-in-None-clause-ok t c = rw c.in-None.is c.ask_type.ensures.ok

pub ask_result-returns-in-None-clause-err : goal.ask_result-returns-in-None-clause-err
ask_result-returns-in-None-clause-err t c = rw c.in-None.is c.ask_type.ensures.err

pub ask_result-ask_type-requires-2 : goal.ask_result-ask_type-requires-2
ask_result-ask_type-requires-2 t c = (omega arith, (result_safe c.args.places c.args.base c.in-Some.bind c.args.argument (type_of c.args.to.now) c.args.node c.args.inference.now c.enter.new.inference c.enter.new.inference c.requires.safe c.requires.argument c.in-Ok.ensures.within c.in-Ok.ensures.fresh c.in-Ok.ensures.ok, c.requires.node))

pub ask_result-returns-in-Err-ask_type-clause-err : goal.ask_result-returns-in-Err-ask_type-clause-err
ask_result-returns-in-Err-ask_type-clause-err t c = rw c.in-Some.is (tells c.in-Err-ask_type.error (λ f. result_err c.args.places c.args.base c.in-Some.bind c.args.argument (type_of c.args.to.now) c.args.node c.args.inference.now c.enter.new.inference c.ask_type-2.new.inference c.requires.safe c.requires.argument c.in-Ok.ensures.within c.in-Ok.ensures.fresh c.in-Ok.ensures.ok f) c.in-Err-ask_type.ensures.err)

pub ask_result-returns-clause-ok : goal.ask_result-returns-clause-ok
ask_result-returns-clause-ok t c = rw c.in-Some.is (result_ok c.args.places c.args.base c.in-Some.bind c.args.argument (type_of c.args.to.now) c.args.node c.args.inference.now c.enter.new.inference c.ask_type-2.new.inference c.requires.safe c.requires.argument c.in-Ok.ensures.within c.in-Ok.ensures.fresh c.in-Ok.ensures.ok c.take_back.new.inference c.in-Ok-ask_type.ensures.ok (λ before added e l. c.take_back.ensures before added e (l ∙ sym c.mark_of-mark.ensures)))

pub ask_tuple-ask_types-requires : goal.ask_tuple-ask_types-requires
ask_tuple-ask_types-requires t c = (omega arith, ((safe_own c.args.base _ c.args.inference.now c.add_nodes.new.inference c.requires.safe c.in-Ok.ensures.ok c.len-all.result c.len-all.ensures), (let z = own_all _ c.in-Ok.own c.len-all.result c.args.inference.now c.add_nodes.new.inference c.in-Ok.ensures.ok c.in-Ok.ensures.first c.len-all.ensures in omega (arith, z))))

pub ask_tuple-returns-in-Err-ask_types-clause-err : goal.ask_tuple-returns-in-Err-ask_types-clause-err
ask_tuple-returns-in-Err-ask_types-clause-err t c = tells c.in-Err-ask_types.error (λ g. made_err1 c.args.places c.args.base c.args.node c.in-Ok.own _ (Tuple_type (types (map type_of c.args.parts.now))) (map type_of c.args.parts.now) of_tuples c.args.inference.now c.add_nodes.new.inference c.ask_types.new.inference c.requires.safe c.requires.node c.in-Ok.ensures.ok c.in-Ok.ensures.first c.len-all.result c.len-all.ensures (λ N K a scope t d. d) (λ N K a scope t ts d m. (ts, d, m)) (numbers c.in-Ok.own (length (map type_of c.args.parts.now))) refl g) c.in-Err-ask_types.ensures.err

pub ask_tuple-ask_tuple_of-requires-clause-safe : goal.ask_tuple-ask_tuple_of-requires-clause-safe
ask_tuple-ask_tuple_of-requires-clause-safe t c = c.in-Ok-ask_types.ensures.ok.later.safe

pub ask_tuple-ask_tuple_of-requires-clause-node : goal.ask_tuple-ask_tuple_of-requires-clause-node
ask_tuple-ask_tuple_of-requires-clause-node t c = old_low c.args.base _ c.args.node c.len-all.result c.args.inference.now c.add_nodes.new.inference c.requires.safe c.in-Ok.ensures.ok c.len-all.ensures c.requires.node

pub ask_tuple-ask_tuple_of-requires-clause-parts : goal.ask_tuple-ask_tuple_of-requires-clause-parts
ask_tuple-ask_tuple_of-requires-clause-parts t c = subst (λ l. Each (λ p. p < c.len-all.result) l) (sym (c.as_slice.ensures ∙ c.in-Ok-ask_types.ensures.row ∙ ap (λ l. l ++ numbers c.in-Ok.own (length c.args.parts.now)) c.new-row.ensures ∙ ap (numbers c.in-Ok.own) (sym (long_map type_of c.args.parts.now)))) (each_number (length (map type_of c.args.parts.now)) c.in-Ok.own c.len-all.result (let z = own_all _ c.in-Ok.own c.len-all.result c.args.inference.now c.add_nodes.new.inference c.in-Ok.ensures.ok c.in-Ok.ensures.first c.len-all.ensures in let y = long_map type_of c.args.parts.now in omega (arith, z, y)))

pub ask_tuple-returns-clause-ok : goal.ask_tuple-returns-clause-ok
ask_tuple-returns-clause-ok t c = on_ok c.ask_tuple_of.result (λ g. made_ok c.args.places c.args.base c.args.node c.in-Ok.own _ (Tuple_type (types (map type_of c.args.parts.now))) (map type_of c.args.parts.now) of_tuples c.args.inference.now c.add_nodes.new.inference c.ask_types.new.inference c.requires.safe c.requires.node c.in-Ok.ensures.ok c.in-Ok.ensures.first c.len-all.result c.len-all.ensures (λ N K a scope t d. d) (λ N K a scope t ts d m. (ts, d, m)) c.as_slice.result.now (c.as_slice.ensures ∙ c.in-Ok-ask_types.ensures.row ∙ ap (λ l. l ++ numbers c.in-Ok.own (length c.args.parts.now)) c.new-row.ensures ∙ ap (numbers c.in-Ok.own) (sym (long_map type_of c.args.parts.now))) c.ask_tuple_of.new.inference c.in-Ok-ask_types.ensures.ok (g c.args.places)) c.ask_tuple_of.ensures.ok

pub ask_tuple-returns-clause-err : goal.ask_tuple-returns-clause-err
ask_tuple-returns-clause-err t c = if_err c.ask_tuple_of.result (λ g. made_err2 c.args.places c.args.base c.args.node c.in-Ok.own _ (Tuple_type (types (map type_of c.args.parts.now))) (map type_of c.args.parts.now) of_tuples c.args.inference.now c.add_nodes.new.inference c.ask_types.new.inference c.requires.safe c.requires.node c.in-Ok.ensures.ok c.in-Ok.ensures.first c.len-all.result c.len-all.ensures (λ N K a scope t d. d) (λ N K a scope t ts d m. (ts, d, m)) c.as_slice.result.now (c.as_slice.ensures ∙ c.in-Ok-ask_types.ensures.row ∙ ap (λ l. l ++ numbers c.in-Ok.own (length c.args.parts.now)) c.new-row.ensures ∙ ap (numbers c.in-Ok.own) (sym (long_map type_of c.args.parts.now))) c.ask_tuple_of.new.inference c.in-Ok-ask_types.ensures.ok (g c.args.places)) c.ask_tuple_of.ensures.err

pub ask_record-ask_fields-requires : goal.ask_record-ask_fields-requires
ask_record-ask_fields-requires t c = (omega arith, ((safe_own c.args.base _ c.args.inference.now c.add_nodes.new.inference c.requires.safe c.in-Ok.ensures.ok c.len-all.result c.len-all.ensures), (let z = own_all _ c.in-Ok.own c.len-all.result c.args.inference.now c.add_nodes.new.inference c.in-Ok.ensures.ok c.in-Ok.ensures.first c.len-all.ensures in omega (arith, z))))

pub ask_record-returns-in-Err-ask_fields-clause-err : goal.ask_record-returns-in-Err-ask_fields-clause-err
ask_record-returns-in-Err-ask_fields-clause-err t c = tells c.in-Err-ask_fields.error (λ g. made_err1 c.args.places c.args.base c.args.node c.in-Ok.own _ (Record_type (map field_name c.args.fields.now) (types (map field_type c.args.fields.now))) (map field_type c.args.fields.now) (of_records (map field_name c.args.fields.now)) c.args.inference.now c.add_nodes.new.inference c.ask_fields.new.inference c.requires.safe c.requires.node c.in-Ok.ensures.ok c.in-Ok.ensures.first c.len-all.result c.len-all.ensures (λ N K a scope t d. d) (λ N K a scope t ts d m. (ts, d, m)) (numbers c.in-Ok.own (length (map field_type c.args.fields.now))) refl g) c.in-Err-ask_fields.ensures.err

pub ask_record-ask_fields_of-requires-clause-safe : goal.ask_record-ask_fields_of-requires-clause-safe
ask_record-ask_fields_of-requires-clause-safe t c = c.in-Ok-ask_fields.ensures.ok.later.safe

pub ask_record-ask_fields_of-requires-clause-node : goal.ask_record-ask_fields_of-requires-clause-node
ask_record-ask_fields_of-requires-clause-node t c = old_low c.args.base _ c.args.node c.len-all.result c.args.inference.now c.add_nodes.new.inference c.requires.safe c.in-Ok.ensures.ok c.len-all.ensures c.requires.node

pub ask_record-ask_fields_of-requires-clause-row : goal.ask_record-ask_fields_of-requires-clause-row
ask_record-ask_fields_of-requires-clause-row t c = subst (λ l. Each (λ p. p < c.len-all.result) l) (sym (c.as_slice.ensures ∙ c.in-Ok-ask_fields.ensures.row ∙ ap (λ l. l ++ numbers c.in-Ok.own (length c.args.fields.now)) c.new-row.ensures ∙ ap (numbers c.in-Ok.own) (sym (long_map field_type c.args.fields.now)))) (each_number (length (map field_type c.args.fields.now)) c.in-Ok.own c.len-all.result (let z = own_all _ c.in-Ok.own c.len-all.result c.args.inference.now c.add_nodes.new.inference c.in-Ok.ensures.ok c.in-Ok.ensures.first c.len-all.ensures in let y = long_map field_type c.args.fields.now in omega (arith, z, y)))

pub ask_record-returns-clause-ok : goal.ask_record-returns-clause-ok
ask_record-returns-clause-ok t c = on_ok c.ask_fields_of.result (λ g. made_ok c.args.places c.args.base c.args.node c.in-Ok.own _ (Record_type (map field_name c.args.fields.now) (types (map field_type c.args.fields.now))) (map field_type c.args.fields.now) (of_records (map field_name c.args.fields.now)) c.args.inference.now c.add_nodes.new.inference c.ask_fields.new.inference c.requires.safe c.requires.node c.in-Ok.ensures.ok c.in-Ok.ensures.first c.len-all.result c.len-all.ensures (λ N K a scope t d. d) (λ N K a scope t ts d m. (ts, d, m)) c.as_slice.result.now (c.as_slice.ensures ∙ c.in-Ok-ask_fields.ensures.row ∙ ap (λ l. l ++ numbers c.in-Ok.own (length c.args.fields.now)) c.new-row.ensures ∙ ap (numbers c.in-Ok.own) (sym (long_map field_type c.args.fields.now))) c.ask_fields_of.new.inference c.in-Ok-ask_fields.ensures.ok (g c.args.places)) c.ask_fields_of.ensures.ok

pub ask_record-returns-clause-err : goal.ask_record-returns-clause-err
ask_record-returns-clause-err t c = if_err c.ask_fields_of.result (λ g. made_err2 c.args.places c.args.base c.args.node c.in-Ok.own _ (Record_type (map field_name c.args.fields.now) (types (map field_type c.args.fields.now))) (map field_type c.args.fields.now) (of_records (map field_name c.args.fields.now)) c.args.inference.now c.add_nodes.new.inference c.ask_fields.new.inference c.requires.safe c.requires.node c.in-Ok.ensures.ok c.in-Ok.ensures.first c.len-all.result c.len-all.ensures (λ N K a scope t d. d) (λ N K a scope t ts d m. (ts, d, m)) c.as_slice.result.now (c.as_slice.ensures ∙ c.in-Ok-ask_fields.ensures.row ∙ ap (λ l. l ++ numbers c.in-Ok.own (length c.args.fields.now)) c.new-row.ensures ∙ ap (numbers c.in-Ok.own) (sym (long_map field_type c.args.fields.now))) c.ask_fields_of.new.inference c.in-Ok-ask_fields.ensures.ok (g c.args.places)) c.ask_fields_of.ensures.err

pub ask_types-loop-part-init : goal.ask_types-loop-part-init
ask_types-loop-part-init t c = row_none c.args.places c.args.base c.args.first c.args.row.now c.args.inference.now c.requires.safe

pub ask_types-ask_type-requires : goal.ask_types-ask_type-requires
ask_types-ask_type-requires t c = (falls_in type_of c.args.parts.now c.loop-part.part-index _ t c.loop-part-test.true (omega arith), (c.loop-part.invariant.safe, room_at type_of c.args.parts.now c.loop-part.part-index c.loop-part.at c.args.first c.args.base c.loop-part-test.true c.loop-part.invariant.next c.requires.own))

pub ask_types-returns-in-Err-ask_type-clause-err : goal.ask_types-returns-in-Err-ask_type-clause-err
ask_types-returns-in-Err-ask_type-clause-err t c = let w = split_at type_of c.args.parts.now c.loop-part.part-index _ c.loop-part-test.true in tells c.in-Err-ask_type.error (row_refused c.args.places c.args.base c.args.first c.loop-part.at (map type_of (take c.loop-part.part-index c.args.parts.now)) _ c.args.row.now c.loop-part.row c.args.inference.now c.loop-part.inference c.ask_type.new.inference c.requires.safe c.loop-part.invariant (map type_of c.args.parts.now) w.0 w.1) c.in-Err-ask_type.ensures.err

pub ask_types-loop-part-preserved : goal.ask_types-loop-part-preserved
ask_types-loop-part-preserved t c = subst (λ (l : List FlatType). Row_asked c.args.places c.args.base c.args.first (c.loop-part.at + 1) l c.args.row.now c.push.new.self c.args.inference.now c.ask_type.new.inference) (map_next type_of c.args.parts.now c.loop-part.part-index _ c.loop-part-test.true) (row_more c.args.places c.args.base c.args.first c.loop-part.at (map type_of (take c.loop-part.part-index c.args.parts.now)) _ c.args.row.now c.loop-part.row c.args.inference.now c.loop-part.inference c.ask_type.new.inference c.requires.safe c.loop-part.invariant (c.loop-part.at + 1) c.push.new.self c.in-Ok.ensures.ok refl c.in-Ok-ask_type.ensures.ok)

pub ask_types-returns-clause-row : goal.ask_types-returns-clause-row
ask_types-returns-clause-row t c = c.loop-part.invariant.noted ∙ ap (λ n. c.args.row.now ++ numbers c.args.first n) (ap (λ l. length (map type_of l)) (take_all c.args.parts.now c.loop-part.part-index c.loop-part-test.false) ∙ long_map type_of c.args.parts.now)

pub ask_types-returns-clause-ok : goal.ask_types-returns-clause-ok
ask_types-returns-clause-ok t c = subst (λ l. Asked c.args.places c.args.base (Types_claim c.args.places (map type_of l) c.args.first) c.args.inference.now c.loop-part.inference) (take_all c.args.parts.now c.loop-part.part-index c.loop-part-test.false) c.loop-part.invariant.asked

pub ask_fields-loop-field-init : goal.ask_fields-loop-field-init
ask_fields-loop-field-init t c = row_none c.args.places c.args.base c.args.first c.args.row.now c.args.inference.now c.requires.safe

pub ask_fields-ask_type-requires : goal.ask_fields-ask_type-requires
ask_fields-ask_type-requires t c = (falls_in field_type c.args.fields.now c.loop-field.field-index _ t c.loop-field-test.true (omega arith), (c.loop-field.invariant.safe, room_at field_type c.args.fields.now c.loop-field.field-index c.loop-field.at c.args.first c.args.base c.loop-field-test.true c.loop-field.invariant.next c.requires.own))

pub ask_fields-returns-in-Err-ask_type-clause-err : goal.ask_fields-returns-in-Err-ask_type-clause-err
ask_fields-returns-in-Err-ask_type-clause-err t c = let w = split_at field_type c.args.fields.now c.loop-field.field-index _ c.loop-field-test.true in tells c.in-Err-ask_type.error (row_refused c.args.places c.args.base c.args.first c.loop-field.at (map field_type (take c.loop-field.field-index c.args.fields.now)) _ c.args.row.now c.loop-field.row c.args.inference.now c.loop-field.inference c.ask_type.new.inference c.requires.safe c.loop-field.invariant (map field_type c.args.fields.now) w.0 w.1) c.in-Err-ask_type.ensures.err

pub ask_fields-loop-field-preserved : goal.ask_fields-loop-field-preserved
ask_fields-loop-field-preserved t c = subst (λ (l : List FlatType). Row_asked c.args.places c.args.base c.args.first (c.loop-field.at + 1) l c.args.row.now c.push.new.self c.args.inference.now c.ask_type.new.inference) (map_next field_type c.args.fields.now c.loop-field.field-index _ c.loop-field-test.true) (row_more c.args.places c.args.base c.args.first c.loop-field.at (map field_type (take c.loop-field.field-index c.args.fields.now)) _ c.args.row.now c.loop-field.row c.args.inference.now c.loop-field.inference c.ask_type.new.inference c.requires.safe c.loop-field.invariant (c.loop-field.at + 1) c.push.new.self c.in-Ok.ensures.ok refl c.in-Ok-ask_type.ensures.ok)

pub ask_fields-returns-clause-row : goal.ask_fields-returns-clause-row
ask_fields-returns-clause-row t c = c.loop-field.invariant.noted ∙ ap (λ n. c.args.row.now ++ numbers c.args.first n) (ap (λ l. length (map field_type l)) (take_all c.args.fields.now c.loop-field.field-index c.loop-field-test.false) ∙ long_map field_type c.args.fields.now)

pub ask_fields-returns-clause-ok : goal.ask_fields-returns-clause-ok
ask_fields-returns-clause-ok t c = subst (λ l. Asked c.args.places c.args.base (Types_claim c.args.places (map field_type l) c.args.first) c.args.inference.now c.loop-field.inference) (take_all c.args.fields.now c.loop-field.field-index c.loop-field-test.false) c.loop-field.invariant.asked

pub ask_type-returns-then-given-ne0-clause-err : goal.ask_type-returns-then-given-ne0-clause-err
ask_type-returns-then-given-ne0-clause-err t c = given_err c.args.places c.args.base c.args.node c.args.inference.now c.args.ty.now c.in-Use.reference c.in-Use.given c.requires.safe c.in-Use.is c.if-given-ne0.true

pub ask_type-returns-else-given-ne0-clause-ok : goal.ask_type-returns-else-given-ne0-clause-ok
ask_type-returns-else-given-ne0-clause-ok t c = rw (use_is c.args.ty.now c.in-Use.reference c.in-Use.given c.in-Use.is c.if-given-ne0.false) (on_ok c.ask_named.result (λ f. f c.args.places) c.ask_named.ensures.ok)

pub ask_type-returns-else-given-ne0-clause-err : goal.ask_type-returns-else-given-ne0-clause-err
ask_type-returns-else-given-ne0-clause-err t c = rw (use_is c.args.ty.now c.in-Use.reference c.in-Use.given c.in-Use.is c.if-given-ne0.false) (if_err c.ask_named.result (λ f. f c.args.places) c.ask_named.ensures.err)

pub ask_type-ask_array-requires : goal.ask_type-ask_array-requires
ask_type-ask_array-requires t c = ((let z = falls (type_of c.args.ty.now) _ (weigh (type_of c.in-Array.element.now)) 2 t (type_array c.args.ty.now c.in-Array.size c.in-Array.element c.in-Array.is) (omega arith) (omega arith) (omega arith) in omega (arith, z)), (c.requires.safe, c.requires.node))

pub ask_type-returns-in-Array-clause-ok : goal.ask_type-returns-in-Array-clause-ok
ask_type-returns-in-Array-clause-ok t c = rw (type_array c.args.ty.now c.in-Array.size c.in-Array.element c.in-Array.is) c.ask_array.ensures.ok

pub ask_type-returns-in-Array-clause-err : goal.ask_type-returns-in-Array-clause-err
ask_type-returns-in-Array-clause-err t c = rw (type_array c.args.ty.now c.in-Array.size c.in-Array.element c.in-Array.is) c.ask_array.ensures.err

pub ask_type-ask_type-requires : goal.ask_type-ask_type-requires
ask_type-ask_type-requires t c = ((let z = falls (type_of c.args.ty.now) _ (weigh (type_of c.in-Unique.inner.now)) 0 t (type_unique c.args.ty.now c.in-Unique.inner c.in-Unique.is) (omega arith) (omega arith) (omega arith) in omega (arith, z)), (c.requires.safe, c.requires.node))

pub ask_type-returns-in-Unique-clause-ok : goal.ask_type-returns-in-Unique-clause-ok
ask_type-returns-in-Unique-clause-ok t c = rw (type_unique c.args.ty.now c.in-Unique.inner c.in-Unique.is) c.ask_type.ensures.ok

pub ask_type-returns-in-Unique-clause-err : goal.ask_type-returns-in-Unique-clause-err
ask_type-returns-in-Unique-clause-err t c = rw (type_unique c.args.ty.now c.in-Unique.inner c.in-Unique.is) c.ask_type.ensures.err

pub ask_type-ask_arrow-requires : goal.ask_type-ask_arrow-requires
ask_type-ask_arrow-requires t c = ((let z = falls (type_of c.args.ty.now) _ (weigh (type_of c.in-Arrow.from.now) + weigh (type_of c.in-Arrow.to.now)) 2 t (type_arrow c.args.ty.now c.in-Arrow.bind c.in-Arrow.from c.in-Arrow.to c.in-Arrow.is) (omega arith) (omega arith) (omega arith) in omega (arith, z)), (c.requires.safe, c.requires.node))

pub ask_type-returns-in-Arrow-clause-ok : goal.ask_type-returns-in-Arrow-clause-ok
ask_type-returns-in-Arrow-clause-ok t c = rw (type_arrow c.args.ty.now c.in-Arrow.bind c.in-Arrow.from c.in-Arrow.to c.in-Arrow.is) c.ask_arrow.ensures.ok

pub ask_type-returns-in-Arrow-clause-err : goal.ask_type-returns-in-Arrow-clause-err
ask_type-returns-in-Arrow-clause-err t c = rw (type_arrow c.args.ty.now c.in-Arrow.bind c.in-Arrow.from c.in-Arrow.to c.in-Arrow.is) c.ask_arrow.ensures.err

pub ask_type-ask_tuple-requires : goal.ask_type-ask_tuple-requires
ask_type-ask_tuple-requires t c = ((let z = falls (type_of c.args.ty.now) _ (weigh_all (types (map type_of c.in-Tuple.parts.now))) 2 t (type_tuple c.args.ty.now c.in-Tuple.parts c.in-Tuple.is) (omega arith) (omega arith) (omega arith) in omega (arith, z)), (c.requires.safe, c.requires.node))

pub ask_type-returns-in-Tuple-clause-ok : goal.ask_type-returns-in-Tuple-clause-ok
ask_type-returns-in-Tuple-clause-ok t c = rw (type_tuple c.args.ty.now c.in-Tuple.parts c.in-Tuple.is) c.ask_tuple.ensures.ok

pub ask_type-returns-in-Tuple-clause-err : goal.ask_type-returns-in-Tuple-clause-err
ask_type-returns-in-Tuple-clause-err t c = rw (type_tuple c.args.ty.now c.in-Tuple.parts c.in-Tuple.is) c.ask_tuple.ensures.err

pub ask_type-ask_record-requires : goal.ask_type-ask_record-requires
ask_type-ask_record-requires t c = ((let z = falls (type_of c.args.ty.now) _ (weigh_all (types (map field_type c.in-Record.fields.now))) 2 t (record_is c.args.ty.now c.in-Record.fields c.in-Record.is) (omega arith) (omega arith) (omega arith) in omega (arith, z)), (c.requires.safe, c.requires.node))

pub ask_type-returns-in-Record-clause-ok : goal.ask_type-returns-in-Record-clause-ok
ask_type-returns-in-Record-clause-ok t c = rw (record_is c.args.ty.now c.in-Record.fields c.in-Record.is) c.ask_record.ensures.ok

pub ask_type-returns-in-Record-clause-err : goal.ask_type-returns-in-Record-clause-err
ask_type-returns-in-Record-clause-err t c = rw (record_is c.args.ty.now c.in-Record.fields c.in-Record.is) c.ask_record.ensures.err
