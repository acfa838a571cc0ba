use Rattle.size_patterns.proofs.Results.{on_ok}
use Rattle.size_patterns.proofs.NameForms.{parts_of_tuple, parts_of_record, parts_of_typed}
use Rattle.size_patterns.proofs.names.+put_part_names.Goals as goal

pub returns-in-Tuple : goal.returns-in-Tuple
returns-in-Tuple t c = on_ok _ (parts_of_tuple c.args.pat.now c.args.made.now.items c.put_all_names.new.made.items c.in-Tuple.parts c.in-Tuple.is) c.put_all_names.ensures

pub returns-in-Record : goal.returns-in-Record
returns-in-Record t c = on_ok _ (parts_of_record c.args.pat.now c.args.made.now.items c.put_field_names.new.made.items c.in-Record.fields c.in-Record.is) c.put_field_names.ensures

pub returns-in-Typed : goal.returns-in-Typed
returns-in-Typed t c = on_ok _ (parts_of_typed c.args.pat.now c.args.made.now.items c.put_part_names.new.made.items c.in-Typed.inner _ c.in-Typed.is) c.put_part_names.ensures
