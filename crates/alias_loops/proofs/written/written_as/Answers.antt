use Rattle.alias_values.specs.Trees.{value_of}
use Rattle.alias_loops.proofs.WrittenForms.{written_neither, written_no_record, written_no_row, written_record, written_tuple}
use Rattle.alias_loops.proofs.written.written_as.Goals as goal

pub returns-in-Some : goal.returns-in-Some
returns-in-Some c = written_tuple c.args.act.now (value_of c.args.value.now) c.in-Some.values _ _ c.if-is_tuple.true c.is_tuple.ensures c.in-Some.is c.row_in.ensures

pub returns-in-None : goal.returns-in-None
returns-in-None c = written_no_row c.args.act.now (value_of c.args.value.now) _ _ c.if-is_tuple.true c.is_tuple.ensures c.in-None.is c.row_in.ensures

pub returns-in-Some-record_in : goal.returns-in-Some-record_in
returns-in-Some-record_in c = written_record c.args.act.now (value_of c.args.value.now) c.in-Some-fields_in.fields c.in-Some-record_in.number _ _ c.in-Some-fields_in.is c.fields_in.ensures c.in-Some-record_in.is c.record_in.ensures

pub returns-in-None-record_in : goal.returns-in-None-record_in
returns-in-None-record_in c = written_no_record c.args.act.now (value_of c.args.value.now) c.in-Some-fields_in.fields _ _ c.in-Some-fields_in.is c.fields_in.ensures c.in-None-record_in.is c.record_in.ensures

pub returns-in-None-fields_in : goal.returns-in-None-fields_in
returns-in-None-fields_in c = written_neither c.args.act.now (value_of c.args.value.now) _ _ c.if-is_tuple.false c.is_tuple.ensures c.in-None-fields_in.is c.fields_in.ensures
