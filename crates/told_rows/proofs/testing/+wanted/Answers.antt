use Rattle.std.proofs.Common.{ap, ◌∙◌, map, arith}
use Rattle.fut_blocks.specs.Rows as blocks
use Rattle.fut_blocks.specs.Rows.{named_test_of, test_of, tests}
use Rattle.unfold.specs.Held.{entered_of}
use Rattle.unfold.specs.Telling.{found}
use Rattle.told_rows.proofs.TestForms.{hole_tested, open_tested, fun_tested, level_tested, tuple_tested, record_tested, scalar_tested, array_tested, arrow_tested, rigid_tested, abstract_tested, tests_more, tests_end, named_more, named_end}
use Rattle.told_rows.proofs.testing.+wanted.Goals as goal

pub size_test-returns-in-Hole : goal.size_test-returns-in-Hole
size_test-returns-in-Hole t c = λ Z w. hole_tested Z.fields (found Z (entered_of c.args.entered.now)) c.args.tree.now c.made_test.result c.made_test.ensures _ c.in-Hole.is

pub size_test-returns-in-Open : goal.size_test-returns-in-Open
size_test-returns-in-Open t c = λ Z w. open_tested Z.fields (found Z (entered_of c.args.entered.now)) c.args.tree.now c.made_test-in-Open.result c.made_test-in-Open.ensures _ _ _ c.in-Open.is

pub size_test-returns-in_ok-under-in-Level : goal.size_test-returns-in_ok-under-in-Level
size_test-returns-in_ok-under-in-Level t c = λ Z w. level_tested Z.fields (found Z (entered_of c.args.entered.now)) c.args.tree.now c.made_test-in-Level.result _ _ _ c.in_ok-many-in-Level.many c.in_ok-under-in-Level.under c.in-Level.is (c.in_ok-many-in-Level.ensures Z w) (c.in_ok-under-in-Level.ensures Z w) c.made_test-in-Level.ensures

pub size_test-returns-in_ok-wanted-in-Tuple : goal.size_test-returns-in_ok-wanted-in-Tuple
size_test-returns-in_ok-wanted-in-Tuple t c = λ Z w. tuple_tested Z.fields (found Z (entered_of c.args.entered.now)) c.args.tree.now c.made_test-in-Tuple.result _ _ _ c.in-Built.is c.in-Tuple.is c.in_ok-wanted-in-Tuple.wanted (c.in_ok-wanted-in-Tuple.ensures Z w) c.made_test-in-Tuple.ensures

pub size_test-returns-in_ok-wanted-in-Record : goal.size_test-returns-in_ok-wanted-in-Record
size_test-returns-in_ok-wanted-in-Record t c = λ Z w. record_tested Z.fields (found Z (entered_of c.args.entered.now)) c.args.tree.now c.made_test-in-Record.result _ _ _ c.in-Built.is _ _ c.in_ok-wanted-in-Record.wanted c.in-Record.is (c.in_ok-names-in-Record.ensures Z w) (c.in_ok-wanted-in-Record.ensures Z w) c.made_test-in-Record.ensures

pub size_test-returns-in-Scalar : goal.size_test-returns-in-Scalar
size_test-returns-in-Scalar t c = λ Z w. scalar_tested Z.fields (found Z (entered_of c.args.entered.now)) c.args.tree.now c.made_test-in-Scalar.result _ _ _ c.in-Built.is c.made_test-in-Scalar.ensures _ c.in-Scalar.is

pub size_test-returns-in-Array : goal.size_test-returns-in-Array
size_test-returns-in-Array t c = λ Z w. array_tested Z.fields (found Z (entered_of c.args.entered.now)) c.args.tree.now c.made_test-in-Array.result _ _ _ c.in-Built.is c.made_test-in-Array.ensures c.in-Array.is

pub size_test-returns-in-Fun-head : goal.size_test-returns-in-Fun-head
size_test-returns-in-Fun-head t c = λ Z w. arrow_tested Z.fields (found Z (entered_of c.args.entered.now)) c.args.tree.now c.made_test-in-Fun-head.result _ _ _ c.in-Built.is c.made_test-in-Fun-head.ensures c.in-Fun-head.is

pub size_test-returns-in-Fun : goal.size_test-returns-in-Fun
size_test-returns-in-Fun t c = λ Z w. fun_tested Z.fields (found Z (entered_of c.args.entered.now)) c.args.tree.now c.made_test-in-Fun.result c.made_test-in-Fun.ensures _ _ _ _ c.in-Fun.is

pub size_test-returns-in-Rigid : goal.size_test-returns-in-Rigid
size_test-returns-in-Rigid t c = λ Z w. rigid_tested Z.fields (found Z (entered_of c.args.entered.now)) c.args.tree.now c.made_test-in-Rigid.result _ _ _ c.in-Built.is c.made_test-in-Rigid.ensures _ _ c.in-Rigid.is

pub size_test-returns-in-Abstract : goal.size_test-returns-in-Abstract
size_test-returns-in-Abstract t c = λ Z w. abstract_tested Z.fields (found Z (entered_of c.args.entered.now)) c.args.tree.now c.made_test-in-Abstract.result _ _ _ c.in-Built.is c.made_test-in-Abstract.ensures _ _ c.in-Abstract.is

pub size_tests-loop-part-preserved : goal.size_tests-loop-part-preserved
size_tests-loop-part-preserved t c = λ Z w. tests_more Z.fields (found Z (entered_of c.args.entered.now)) c.args.parts.now c.loop-part.part-index c.loop-part.made.items (c.loop-part.invariant Z w) c.part-item.result c.in_ok-wanted.wanted.now c.push.new.self.items c.loop-part-test.true c.part-item.is (c.in_ok-wanted.ensures Z w) c.in_ok-push.ensures.items

pub size_tests-returns : goal.size_tests-returns
size_tests-returns t c = λ Z w. ap (λ z. tests (map test_of z)) c.into_bump_slice.ensures ∙ tests_end Z.fields (found Z (entered_of c.args.entered.now)) c.args.parts.now c.loop-part.part-index c.loop-part.made.items (c.loop-part.invariant Z w) c.loop-part-test.false

pub field_tests-loop-i-preserved : goal.field_tests-loop-i-preserved
field_tests-loop-i-preserved t c = record {
  many = c.loop-i.invariant.many;
  made = λ Z w. named_more Z.fields (found Z (entered_of c.args.entered.now)) c.args.parts.now c.loop-i.i c.args.names.now c.loop-i.made.items (c.loop-i.invariant.made Z w) c.index-parts-i.result _ c.in_ok-wanted.wanted.now c.push.new.self.items c.loop-i-test.true (omega (arith, c.loop-i-test.true, c.loop-i.invariant.many)) c.index-parts-i.is (c.in_ok-wanted.ensures Z w) c.in_ok-push.ensures.items;
}

pub field_tests-returns : goal.field_tests-returns
field_tests-returns t c = λ Z w. ap (λ z. blocks.named_tests (map named_test_of z)) c.into_bump_slice.ensures ∙ named_end Z.fields (found Z (entered_of c.args.entered.now)) c.args.parts.now c.loop-i.i c.args.names.now c.loop-i.made.items (c.loop-i.invariant.made Z w) c.loop-i-test.false
