use Rattle.std.proofs.Common.{arith}
use Rattle.fut_flat.specs.declared.pat.PatField.{PatField}
use Rattle.fut_flat.specs.Erased.{pattern_of}
use Rattle.alias_program.specs.Program.{sub_of}
use Rattle.alias_values.specs.Trees.{row_of, stars_of, type_of}
use Rattle.alias_patterns.proofs.StarForms.{stars_bound, stars_wild, stars_tuple, stars_record, stars_typed, stars_more, stars_end}
use Rattle.alias_patterns.proofs.stars.+stars.Goals as goal

pub pattern_stars-returns-in_ok-made-in-Bound : goal.pattern_stars-returns-in_ok-made-in-Bound
pattern_stars-returns-in_ok-made-in-Bound t c = λ N k. stars_bound N (sub_of c.args.program.now.types.now) c.args.pattern.now c.args.node (stars_of c.in_ok-made-in-Bound.made.now) _ c.in-Bound.is c.in_ok-made-in-Bound.ensures

pub pattern_stars-returns-in_ok-made-in-Wild : goal.pattern_stars-returns-in_ok-made-in-Wild
pattern_stars-returns-in_ok-made-in-Wild t c = λ N k. stars_wild N (sub_of c.args.program.now.types.now) c.args.pattern.now c.args.node (stars_of c.in_ok-made-in-Wild.made.now) c.in-Wild.is c.in_ok-made-in-Wild.ensures

pub pattern_stars-returns-in_ok-made-in-Tuple : goal.pattern_stars-returns-in_ok-made-in-Tuple
pattern_stars-returns-in_ok-made-in-Tuple t c = λ N k. stars_tuple N (sub_of c.args.program.now.types.now) c.args.pattern.now c.args.node (stars_of c.in_ok-made-in-Tuple.made.now) _ c.in_ok-first-in-Tuple.first (row_of c.in_ok-row-in-Tuple.row.now) c.in-Tuple.is c.in_ok-first-in-Tuple.ensures (c.in_ok-row-in-Tuple.ensures N k) c.in_ok-made-in-Tuple.ensures

pub pattern_stars-returns-in_ok-made-in-Record : goal.pattern_stars-returns-in_ok-made-in-Record
pattern_stars-returns-in_ok-made-in-Record t c = λ N k. stars_record N (sub_of c.args.program.now.types.now) c.args.pattern.now c.args.node (stars_of c.in_ok-made-in-Record.made.now) _ c.in_ok-first-in-Record.first (row_of c.in_ok-stars-in-Record.stars.now) (type_of c.in_ok-ty-in-Record.ty.now) c.in-Record.is c.in_ok-first-in-Record.ensures (c.in_ok-stars-in-Record.ensures N k) c.in_ok-ty-in-Record.ensures (c.in_ok-made-in-Record.ensures N k)

pub pattern_stars-returns-in_ok-made-in-Typed : goal.pattern_stars-returns-in_ok-made-in-Typed
pattern_stars-returns-in_ok-made-in-Typed t c = λ N k. stars_typed N (sub_of c.args.program.now.types.now) c.args.pattern.now c.args.node (stars_of c.in_ok-made-in-Typed.made.now) _ _ c.in-Typed.is (c.in_ok-made-in-Typed.ensures N k)

pub part_stars-loop-part-preserved : goal.part_stars-loop-part-preserved
part_stars-loop-part-preserved t c = λ N k. stars_more N (sub_of c.args.program.now.types.now) pattern_of c.args.parts.now c.args.node c.loop-part.part-index c.loop-part.at c.loop-part.made.items (c.loop-part.invariant N k) _ c.in_ok-stars.stars.now c.push.new.self.items c.in_ok-at.at c.loop-part-test.true (c.in_ok-stars.ensures N k) c.in_ok-push.ensures.items c.in_ok-at.ensures

pub part_stars-returns : goal.part_stars-returns
part_stars-returns t c = λ N k. stars_end N (sub_of c.args.program.now.types.now) pattern_of c.args.parts.now c.args.node c.loop-part.part-index c.loop-part.at c.loop-part.made.items (c.loop-part.invariant N k) _ (omega (arith, c.loop-part-test.false)) c.into_bump_slice.ensures

pub field_stars-loop-field-preserved : goal.field_stars-loop-field-preserved
field_stars-loop-field-preserved t c = λ N k. stars_more N (sub_of c.args.program.now.types.now) (λ (f : PatField). pattern_of f.pat) c.args.fields.now c.args.node c.loop-field.field-index c.loop-field.at c.loop-field.made.items (c.loop-field.invariant N k) _ c.in_ok-stars.stars.now c.push.new.self.items c.in_ok-at.at c.loop-field-test.true (c.in_ok-stars.ensures N k) c.in_ok-push.ensures.items c.in_ok-at.ensures

pub field_stars-returns : goal.field_stars-returns
field_stars-returns t c = λ N k. stars_end N (sub_of c.args.program.now.types.now) (λ (f : PatField). pattern_of f.pat) c.args.fields.now c.args.node c.loop-field.field-index c.loop-field.at c.loop-field.made.items (c.loop-field.invariant N k) _ (omega (arith, c.loop-field-test.false)) c.into_bump_slice.ensures
