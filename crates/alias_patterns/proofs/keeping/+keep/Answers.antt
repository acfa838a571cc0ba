use Rattle.fut_aliases.specs.Values.{all_of}
use Rattle.alias_patterns.specs.Placing.{sets_of}
use Rattle.std.proofs.Common.{rules, arith, refl, min, length, ap, ◌∙◌}
use Rattle.fut_aliases.specs.Aliases.{first_name_alone}
use Rattle.alias_program.specs.Program.{sub_of}
use Rattle.fut_aliases.specs.Values.{part_named}
use Rattle.alias_values.specs.Trees.{row_of, stars_of, value_of}
use Rattle.alias_patterns.proofs.KeepForms.{keeps_name, keeps_none, keeps_parts, keeps_no_parts, keeps_fields, keeps_no_fields, keeps_typed, parts_more, parts_end, fields_more, fields_end, star_found}
use Rattle.alias_patterns.proofs.keeping.+keep.Goals as goal

pub kept-returns-in_ok-all-in-Bound : goal.kept-returns-in_ok-all-in-Bound
kept-returns-in_ok-all-in-Bound t c = λ N k. keeps_name first_name_alone N (sub_of c.args.program.now.types.now) c.args.pattern.now c.args.node (stars_of c.args.stars.now) (value_of c.args.value.now) _ _ (value_of c.in_ok-own-in-Bound.own.now) c.in-Bound.is c.in_ok-own-in-Bound.ensures c.in_ok-all-in-Bound.ensures

pub kept-returns-in-Wild : goal.kept-returns-in-Wild
kept-returns-in-Wild t c = λ N k. keeps_none first_name_alone N (sub_of c.args.program.now.types.now) c.args.pattern.now c.args.node (stars_of c.args.stars.now) (value_of c.args.value.now) _ c.in-Wild.is c.no_alias.ensures

pub kept-returns-in_ok-all-in-Some : goal.kept-returns-in_ok-all-in-Some
kept-returns-in_ok-all-in-Some t c = λ N k. keeps_parts first_name_alone N (sub_of c.args.program.now.types.now) c.args.pattern.now c.args.node (stars_of c.args.stars.now) (value_of c.args.value.now) _ _ c.in-Some.apart c.in_ok-first-in-Some.first c.in-Tuple.is c.in-Some.ensures c.in_ok-first-in-Some.ensures (c.in_ok-all-in-Some.ensures N k)

pub kept-returns-in-None : goal.kept-returns-in-None
kept-returns-in-None t c = λ N k. keeps_no_parts first_name_alone N (sub_of c.args.program.now.types.now) c.args.pattern.now c.args.node (stars_of c.args.stars.now) (value_of c.args.value.now) _ _ c.in-Tuple.is c.in-None.ensures c.no_alias-in-None.ensures

pub kept-returns-in_ok-all-in-Some-row_parts : goal.kept-returns-in_ok-all-in-Some-row_parts
kept-returns-in_ok-all-in-Some-row_parts t c = λ N k. keeps_fields first_name_alone N (sub_of c.args.program.now.types.now) c.args.pattern.now c.args.node (stars_of c.args.stars.now) (value_of c.args.value.now) _ _ c.in-Some-row_parts.apart c.in_ok-first-in-Some-row_parts.first c.in-Record.is c.in-Some-row_parts.ensures c.in_ok-first-in-Some-row_parts.ensures (c.in_ok-all-in-Some-row_parts.ensures N k)

pub kept-returns-in-None-row_parts : goal.kept-returns-in-None-row_parts
kept-returns-in-None-row_parts t c = λ N k. keeps_no_fields first_name_alone N (sub_of c.args.program.now.types.now) c.args.pattern.now c.args.node (stars_of c.args.stars.now) (value_of c.args.value.now) _ _ c.in-Record.is c.in-None-row_parts.ensures c.no_alias-in-None-row_parts.ensures

pub kept-returns-in_ok-all-in-Typed : goal.kept-returns-in_ok-all-in-Typed
kept-returns-in_ok-all-in-Typed t c = λ N k. keeps_typed first_name_alone N (sub_of c.args.program.now.types.now) c.args.pattern.now c.args.node (stars_of c.args.stars.now) (value_of c.args.value.now) _ _ _ c.in-Typed.is (c.in_ok-all-in-Typed.ensures N k)

pub parts_kept-loop-i-preserved : goal.parts_kept-loop-i-preserved
parts_kept-loop-i-preserved t c = λ N k. parts_more first_name_alone N (sub_of c.args.program.now.types.now) c.args.parts.now c.args.row.now c.args.values.now c.args.node c.loop-i.i c.loop-i.at c.loop-i.sets.items (c.loop-i.invariant N k) _ c.index-row-i.result c.index-values-i.result c.in_ok-at.at c.in_ok-set.set c.push.new.self.items (search rules) (search rules) (search rules) c.index-row-i.is c.index-values-i.is (c.in_ok-set.ensures N k) c.in_ok-push.ensures.items c.in_ok-at.ensures

pub parts_kept-returns : goal.parts_kept-returns
parts_kept-returns t c = λ N k. parts_end first_name_alone N (sub_of c.args.program.now.types.now) c.args.parts.now c.args.row.now c.args.values.now c.args.node c.loop-i.i c.loop-i.at c.loop-i.sets.items (c.loop-i.invariant N k) _ (min (min (length c.args.parts.now) (length c.args.row.now)) (length c.args.values.now)) refl (search rules) (c.in_ok-all.ensures ∙ ap (λ z. all_of (sets_of z)) c.into_bump_slice.ensures)

pub fields_kept-loop-field-preserved : goal.fields_kept-loop-field-preserved
fields_kept-loop-field-preserved t c = λ N k vs e. fields_more first_name_alone N (sub_of c.args.program.now.types.now) c.args.fields.now c.args.head (row_of c.args.row.now) vs c.args.node c.loop-field.field-index c.loop-field.at c.loop-field.sets.items (c.loop-field.invariant N k vs e) _ (stars_of c.in_ok-stars.stars.now) (value_of c.in_ok-part.part.now) c.in_ok-at.at c.in_ok-set.set c.push.new.self.items c.loop-field-test.true
    (star_found _ _ _ _ c.in_ok-stars.ensures (c.in_ok-place.ensures N k) c.in_ok-short.ensures) (c.in_ok-part.ensures N k ∙ ap (part_named N _) e) (c.in_ok-set.ensures N k) c.in_ok-push.ensures.items c.in_ok-at.ensures

pub fields_kept-returns : goal.fields_kept-returns
fields_kept-returns t c = λ N k vs e. fields_end first_name_alone N (sub_of c.args.program.now.types.now) c.args.fields.now c.args.head (row_of c.args.row.now) vs c.args.node c.loop-field.field-index c.loop-field.at c.loop-field.sets.items (c.loop-field.invariant N k vs e) _ (omega (arith, c.loop-field-test.false)) (c.in_ok-all.ensures ∙ ap (λ z. all_of (sets_of z)) c.into_bump_slice.ensures)
