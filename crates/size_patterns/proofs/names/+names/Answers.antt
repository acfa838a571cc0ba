use Rattle.std.proofs.Common.{◌++◌, map}
use Rattle.fut_flat.specs.Erased.{pattern_of, patterns}
use Rattle.fut_flat.specs.declared.pat.PatField.{PatField}
use Rattle.fut_sizes.specs.Scopes.{all_names}
use Rattle.flat_numbers.specs.Fields.{field_patterns}
use Rattle.size_patterns.proofs.Results.{on_ok}
use Rattle.size_patterns.proofs.NameForms.{puts_name, puts_parts, puts_fields, puts_typed, names_more, names_end}
use Rattle.size_patterns.proofs.names.+names.Goals as goal

pub put_names-returns-in_ok-push-in-Bound : goal.put_names-returns-in_ok-push-in-Bound
put_names-returns-in_ok-push-in-Bound t c = puts_name c.args.pat.now c.args.made.now.items _ c.in-Bound.bind c.in-Bound.is c.in_ok-push-in-Bound.ensures.items

pub put_names-returns-in-Tuple : goal.put_names-returns-in-Tuple
put_names-returns-in-Tuple t c = on_ok _ (puts_parts c.args.pat.now c.args.made.now.items c.put_all_names.new.made.items c.in-Tuple.parts c.in-Tuple.is) c.put_all_names.ensures

pub put_names-returns-in-Record : goal.put_names-returns-in-Record
put_names-returns-in-Record t c = on_ok _ (puts_fields c.args.pat.now c.args.made.now.items c.put_field_names.new.made.items c.in-Record.fields c.in-Record.is) c.put_field_names.ensures

pub put_names-returns-in-Typed : goal.put_names-returns-in-Typed
put_names-returns-in-Typed t c = on_ok _ (puts_typed c.args.pat.now c.args.made.now.items c.put_names.new.made.items c.in-Typed.inner _ c.in-Typed.is) c.put_names.ensures

pub put_all_names-loop-part-preserved : goal.put_all_names-loop-part-preserved
put_all_names-loop-part-preserved t c = names_more pattern_of c.args.parts.now c.loop-part.part-index _ (c.args.made.now.items ++ all_names (patterns (map pattern_of c.args.parts.now))) c.loop-part.made.items c.put_names.new.made.items c.loop-part-test.true c.loop-part.invariant c.in_ok-put_names.ensures

pub put_all_names-returns : goal.put_all_names-returns
put_all_names-returns t c = names_end pattern_of c.args.parts.now c.loop-part.part-index (c.args.made.now.items ++ all_names (patterns (map pattern_of c.args.parts.now))) c.loop-part.made.items c.loop-part-test.false c.loop-part.invariant

pub put_field_names-loop-field-preserved : goal.put_field_names-loop-field-preserved
put_field_names-loop-field-preserved t c = names_more (λ (f : PatField). pattern_of f.pat) c.args.fields.now c.loop-field.field-index _ (c.args.made.now.items ++ all_names (field_patterns c.args.fields.now)) c.loop-field.made.items c.put_names.new.made.items c.loop-field-test.true c.loop-field.invariant c.in_ok-put_names.ensures

pub put_field_names-returns : goal.put_field_names-returns
put_field_names-returns t c = names_end (λ (f : PatField). pattern_of f.pat) c.args.fields.now c.loop-field.field-index (c.args.made.now.items ++ all_names (field_patterns c.args.fields.now)) c.loop-field.made.items c.loop-field-test.false c.loop-field.invariant
