-- A list of parts is smaller than the pattern.
use Rattle.std.proofs.Common.{◌++◌, ◌∷◌, [], ◌∙◌, ap, sym, arith}
use Rattle.std.proofs.lemmas.List.{map-append}
use Rattle.fut_ast.specs.Nodes.{exp_of_pat}
use Rattle.fut_ast.specs.Sorts.{Text, SourceExp, SourcePat}
use Rattle.fut_tree.proofs.PatSizes.{record_parts, tuple_parts}
use Rattle.fut_tree.specs.declared.exp.ExpField.{ExpField}
use Rattle.fut_tree.specs.declared.held.Held.{Held}
use Rattle.fut_tree.specs.Exps.{exp_fields}
use Rattle.fut_tree.specs.Names.{all}
use Rattle.parse_nodes.proofs.ListLaws.{all_made, one_more}
use Rattle.parse_nodes.proofs.pat_exps.+patexps.Goals as goal

pub exp_of_pattern-tuple_of-requires : goal.exp_of_pattern-tuple_of-requires
exp_of_pattern-tuple_of-requires t c = (omega (arith, tuple_parts c.pattern.inside _ c.pattern.view_is c.in-Tuple.parts c.in-Tuple.is), tt)

pub exp_of_pattern-record_of-requires : goal.exp_of_pattern-record_of-requires
exp_of_pattern-record_of-requires t c = (omega (arith, record_parts c.pattern.inside _ c.pattern.view_is c.in-Record.fields c.in-Record.is), tt)

pub tuple_of-parts-preserved : goal.tuple_of-parts-preserved
tuple_of-parts-preserved t c = one_more exp_of_pat _ c.args.parts.now c.parts.part-index _ _ c.part-item.result c.parts-test.true c.parts.invariant c.part-item.is (ap all c.in-Ok-push.ensures.items ∙ map-append (λ (h : Held SourceExp). h.at.now) c.parts.made.items _ ∙ ap (λ (e : SourceExp). all c.parts.made.items ++ e ∷ []) c.in-Ok.ensures)

pub tuple_of-returns : goal.tuple_of-returns
tuple_of-returns t c = rw (sym (ap all c.into_bump_slice.ensures ∙ all_made exp_of_pat _ c.args.parts.now c.parts.part-index _ c.parts-test.false c.parts.auto.part-index-end c.parts.invariant)) c.held.ensures

pub record_of-fields-preserved : goal.record_of-fields-preserved
record_of-fields-preserved t c = one_more (λ (f : Text × SourcePat). (f.0, exp_of_pat f.1)) _ c.args.fields.now c.fields.field-index _ _ c.field-item.result c.fields-test.true c.fields.invariant c.field-item.is (ap exp_fields c.in-Ok-push.ensures.items ∙ map-append (λ (f : ExpField). (f.name.now, f.exp.now)) c.fields.made.items _ ∙ ap (λ (e : SourceExp). exp_fields c.fields.made.items ++ (c.field-item.result.name.now, e) ∷ []) c.in-Ok.ensures)

pub record_of-returns : goal.record_of-returns
record_of-returns t c = rw (sym (ap exp_fields c.into_bump_slice.ensures ∙ all_made (λ (f : Text × SourcePat). (f.0, exp_of_pat f.1)) _ c.args.fields.now c.fields.field-index _ c.fields-test.false c.fields.auto.field-index-end c.fields.invariant)) c.record.ensures
