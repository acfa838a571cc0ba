use Rattle.std.proofs.Common.{ℕ, length, Option, MatchOption, ◌∙◌, subst}
use Rattle.fut_flat.specs.Erased.{texts}
use Rattle.fut_typing.specs.Names.{IsRecord, Once}
use Rattle.type_graph.specs.Claims.{types_of}
use Rattle.type_rules.proofs.Adding.{on_ok, if_err, adds_as, nowhere_as}
use Rattle.type_rules.specs.Records.{Has_parts}
use Rattle.type_rules.specs.Fields.{Row_is}
use Rattle.type_rules.proofs.Growing.{on_then, numbered_map, long_texts}
use Rattle.type_rules.proofs.Widening.{labelled_less, told_less, sound_more, row_within, row_long}
use Rattle.type_rules.proofs.Joining.{twice_never, other_count, fields_to, fields_from}
use Rattle.type_rules.proofs.rule.fields.Goals as goal

pub returns-then-names-parts-clause-err : goal.returns-then-names-parts-clause-err
returns-then-names-parts-clause-err c = λ N T are lab sh told plain K a p r. other_count N c.args.names.now a c.args.parts.now (a c.args.id) c.if-names-parts.true r

pub returns-in-Ok-None-clause-err : goal.returns-in-Ok-None-clause-err
returns-in-Ok-None-clause-err c = λ N T are lab sh told plain K a p r. twice_never N are (texts c.args.names.now) c.in-Ok.row c.as_slice.result.now
    (subst (λ (found : Option ℕ). MatchOption found (Once c.as_slice.result.now → ⊥) (λ n. Row_is c.number_of_row.new.table c.as_slice.result.now n)) c.in-Ok-None.field-0-is c.in-Ok-None.ensures.number) c.as_slice.ensures (numbered_map c.labelled.new.labels c.labelled.new.table N (labelled_less c.labelled.new.labels c.number_of_row.new.labels c.labelled.new.table c.number_of_row.new.table c.in-Ok.ensures.is.is_table c.in-Ok-None.ensures.on N lab) (texts c.args.names.now) c.in-Ok.row c.in-Ok.ensures.ok) (a c.args.id) (types_of a c.args.parts.now) r

pub returns-in-Ok-None-clause-labelled : goal.returns-in-Ok-None-clause-labelled
returns-in-Ok-None-clause-labelled c = λ N lab. labelled_less c.args.labels.now c.number_of_row.new.labels c.args.table.now c.number_of_row.new.table c.requires.labels.is_table (on_then c.args.labels.now c.labelled.new.labels c.number_of_row.new.labels c.args.table.now c.labelled.new.table c.number_of_row.new.table c.in-Ok.ensures.on c.in-Ok-None.ensures.on) N lab

pub returns-in-Ok-None-clause-before : goal.returns-in-Ok-None-clause-before
returns-in-Ok-None-clause-before c = λ T told. told_less c.args.labels.now c.number_of_row.new.labels c.args.table.now c.number_of_row.new.table c.requires.labels.is_table (on_then c.args.labels.now c.labelled.new.labels c.number_of_row.new.labels c.args.table.now c.labelled.new.table c.number_of_row.new.table c.in-Ok.ensures.on c.in-Ok-None.ensures.on) c.args.entries.now T told

pub put_record-requires-clause-sound : goal.put_record-requires-clause-sound
put_record-requires-clause-sound c = sound_more c.args.labels.now c.number_of_row.new.labels c.args.table.now c.number_of_row.new.table c.requires.labels.is_table (on_then c.args.labels.now c.labelled.new.labels c.number_of_row.new.labels c.args.table.now c.labelled.new.table c.number_of_row.new.table c.in-Ok.ensures.on c.in-Ok-Some.ensures.on) c.args.nodes.now c.args.entries.now c.requires.sound

pub put_record-requires-clause-number : goal.put_record-requires-clause-number
put_record-requires-clause-number c = ((subst (λ (found : Option ℕ). MatchOption found (Once c.as_slice.result.now → ⊥) (λ n. Row_is c.number_of_row.new.table c.as_slice.result.now n)) c.in-Ok-Some.field-0-is c.in-Ok-Some.ensures.number)).within

pub put_record-requires-clause-row : goal.put_record-requires-clause-row
put_record-requires-clause-row c = row_within c.labelled.new.labels c.number_of_row.new.labels c.labelled.new.table c.number_of_row.new.table c.in-Ok.ensures.is c.in-Ok-Some.ensures.on (texts c.args.names.now) c.in-Ok.row c.as_slice-2.result.now c.in-Ok.ensures.ok c.as_slice-2.ensures

pub put_record-requires-clause-long : goal.put_record-requires-clause-long
put_record-requires-clause-long c = row_long c.labelled.new.labels (texts c.args.names.now) c.in-Ok.row c.as_slice-2.result.now (length c.args.parts.now) c.in-Ok.ensures.ok c.as_slice-2.ensures (long_texts c.args.names.now ∙ c.if-names-parts.false)

pub returns-clause-on : goal.returns-clause-on
returns-clause-on c = on_ok c.put_record.result (λ x. (on_then c.args.labels.now c.labelled.new.labels c.number_of_row.new.labels c.args.table.now c.labelled.new.table c.number_of_row.new.table c.in-Ok.ensures.on c.in-Ok-Some.ensures.on)) c.put_record.ensures.extends

pub returns-clause-ok : goal.returns-clause-ok
returns-clause-ok c = on_ok c.put_record.result (λ y N T are lab sh told. adds_as T c.args.base (λ K a. Has_parts T.shapes c.in-Ok-Some.number c.as_slice-2.result.now (a c.args.id) (types_of a c.args.parts.now)) (λ K a. IsRecord N (texts c.args.names.now) (a c.args.id) (types_of a c.args.parts.now)) (λ home. Unit {0}) (λ home. Unit {0}) c.args.nodes.now c.put_record.new.nodes
    (λ K a r. fields_from N are c.number_of_row.new.table lab.shapes T.shapes sh (texts c.args.names.now) c.in-Ok.row c.as_slice.result.now c.as_slice-2.result.now c.in-Ok-Some.number c.as_slice.ensures c.as_slice-2.ensures (numbered_map c.labelled.new.labels c.labelled.new.table N (labelled_less c.labelled.new.labels c.number_of_row.new.labels c.labelled.new.table c.number_of_row.new.table c.in-Ok.ensures.is.is_table c.in-Ok-Some.ensures.on N lab) (texts c.args.names.now) c.in-Ok.row c.in-Ok.ensures.ok) (subst (λ (found : Option ℕ). MatchOption found (Once c.as_slice.result.now → ⊥) (λ n. Row_is c.number_of_row.new.table c.as_slice.result.now n)) c.in-Ok-Some.field-0-is c.in-Ok-Some.ensures.number) (a c.args.id) (types_of a c.args.parts.now) r)
    (λ K a h. fields_to N are c.number_of_row.new.table lab.shapes T.shapes sh (texts c.args.names.now) c.in-Ok.row c.as_slice.result.now c.as_slice-2.result.now c.in-Ok-Some.number c.as_slice.ensures c.as_slice-2.ensures (numbered_map c.labelled.new.labels c.labelled.new.table N (labelled_less c.labelled.new.labels c.number_of_row.new.labels c.labelled.new.table c.number_of_row.new.table c.in-Ok.ensures.is.is_table c.in-Ok-Some.ensures.on N lab) (texts c.args.names.now) c.in-Ok.row c.in-Ok.ensures.ok) (subst (λ (found : Option ℕ). MatchOption found (Once c.as_slice.result.now → ⊥) (λ n. Row_is c.number_of_row.new.table c.as_slice.result.now n)) c.in-Ok-Some.field-0-is c.in-Ok-Some.ensures.number) (a c.args.id) (types_of a c.args.parts.now) h)
    (λ home h. tt) (y T told)) c.put_record.ensures.ok

pub returns-clause-err : goal.returns-clause-err
returns-clause-err c = if_err c.put_record.result (λ y N T are lab sh told. nowhere_as T c.args.base (λ K a. Has_parts T.shapes c.in-Ok-Some.number c.as_slice-2.result.now (a c.args.id) (types_of a c.args.parts.now)) (λ K a. IsRecord N (texts c.args.names.now) (a c.args.id) (types_of a c.args.parts.now)) c.args.nodes.now
    (λ K a r. fields_from N are c.number_of_row.new.table lab.shapes T.shapes sh (texts c.args.names.now) c.in-Ok.row c.as_slice.result.now c.as_slice-2.result.now c.in-Ok-Some.number c.as_slice.ensures c.as_slice-2.ensures (numbered_map c.labelled.new.labels c.labelled.new.table N (labelled_less c.labelled.new.labels c.number_of_row.new.labels c.labelled.new.table c.number_of_row.new.table c.in-Ok.ensures.is.is_table c.in-Ok-Some.ensures.on N lab) (texts c.args.names.now) c.in-Ok.row c.in-Ok.ensures.ok) (subst (λ (found : Option ℕ). MatchOption found (Once c.as_slice.result.now → ⊥) (λ n. Row_is c.number_of_row.new.table c.as_slice.result.now n)) c.in-Ok-Some.field-0-is c.in-Ok-Some.ensures.number) (a c.args.id) (types_of a c.args.parts.now) r) (y T told)) c.put_record.ensures.err

pub returns-clause-labelled : goal.returns-clause-labelled
returns-clause-labelled c = if_err c.put_record.result (λ y N lab. labelled_less c.args.labels.now c.number_of_row.new.labels c.args.table.now c.number_of_row.new.table c.requires.labels.is_table (on_then c.args.labels.now c.labelled.new.labels c.number_of_row.new.labels c.args.table.now c.labelled.new.table c.number_of_row.new.table c.in-Ok.ensures.on c.in-Ok-Some.ensures.on) N lab) c.put_record.ensures.before

pub returns-clause-before : goal.returns-clause-before
returns-clause-before c = if_err c.put_record.result (λ y T told. told_less c.args.labels.now c.number_of_row.new.labels c.args.table.now c.number_of_row.new.table c.requires.labels.is_table (on_then c.args.labels.now c.labelled.new.labels c.number_of_row.new.labels c.args.table.now c.labelled.new.table c.number_of_row.new.table c.in-Ok.ensures.on c.in-Ok-Some.ensures.on) c.args.entries.now T (y T told)) c.put_record.ensures.before
