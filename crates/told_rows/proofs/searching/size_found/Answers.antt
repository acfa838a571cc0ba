use Rattle.std.proofs.Common.{refl, sym, ◌∙◌}
use Rattle.fut_blocks.proofs.Layers.{extent_of-Nowhere}
use Rattle.size_arena.specs.Trees.{free_of, size_of}
use Rattle.told_rows.proofs.AskForms.{many_as, size_nowhere, size_named, size_here, size_on}
use Rattle.told_rows.proofs.searching.size_found.Goals as goal

pub loop-current-init : goal.loop-current-init
loop-current-init c = λ Z w. refl

pub returns-then-branch : goal.returns-then-branch
returns-then-branch c = λ Z w. size_named Z c.args.sizes.now w _ _ _ _ _ c.in-First.is (size_of c.in_ok-tree.tree.now) c.in_ok-tree.ensures c.args.size c.in_ok-is_its_name.field-0 (c.in_ok-is_its_name.ensures Z w) _ c.if-branch.true c.known_worth.ensures ∙ sym (c.loop-current.invariant Z w)

pub returns-in-Some : goal.returns-in-Some
returns-in-Some c = λ Z w. many_as c.length_of.result _ _ (size_here Z c.args.sizes.now w _ _ _ _ _ c.in-First.is (size_of c.in_ok-tree.tree.now) c.in_ok-tree.ensures c.args.size c.in_ok-is_its_name.field-0 (c.in_ok-is_its_name.ensures Z w) c.if-branch.false c.in_ok-found.found (c.in_ok-found.ensures Z w) c.in-Some.row c.length_of.result c.in-Some.is c.length_of.ensures) (sym (c.loop-current.invariant Z w))

pub loop-current-preserved : goal.loop-current-preserved
loop-current-preserved c = λ Z w. c.loop-current.invariant Z w ∙ size_on Z c.args.sizes.now w _ _ _ _ _ c.in-First.is (size_of c.in_ok-tree.tree.now) c.in_ok-tree.ensures c.args.size c.in_ok-is_its_name.field-0 (c.in_ok-is_its_name.ensures Z w) c.if-branch.false c.in_ok-found.found (c.in_ok-found.ensures Z w) c.in_default-found.is

pub returns : goal.returns
returns c = λ Z w. extent_of-Nowhere ∙ sym (c.loop-current.invariant Z w ∙ size_nowhere Z _ c.in_default.is (free_of c.args.size))
