use Rattle.std.proofs.Common.{refl, sym, ◌∙◌}
use Rattle.size_arena.specs.Trees.{free_of, size_of}
use Rattle.told_rows.proofs.TakenForms.{told_nothing, told_named, told_here, told_on}
use Rattle.told_rows.proofs.taken.is_told.Goals as goal

pub loop-current-init : goal.loop-current-init
loop-current-init c = λ Z w. refl

pub returns-then-branch : goal.returns-then-branch
returns-then-branch c = λ Z w. told_named Z c.args.sizes.now w _ _ _ _ _ c.in-First.is (size_of c.in_ok-tree.tree.now) c.in_ok-tree.ensures c.args.size c.in_ok-is_its_name.field-0 (c.in_ok-is_its_name.ensures Z w) c.if-branch.true ∙ sym (c.loop-current.invariant Z w)

pub returns-in-Some : goal.returns-in-Some
returns-in-Some c = λ Z w. told_here Z c.args.sizes.now w _ _ _ _ _ c.in-First.is (size_of c.in_ok-tree.tree.now) c.in_ok-tree.ensures c.args.size c.in_ok-is_its_name.field-0 (c.in_ok-is_its_name.ensures Z w) c.if-branch.false c.in_ok-found.found (c.in_ok-found.ensures Z w) _ c.in-Some.is ∙ sym (c.loop-current.invariant Z w)

pub loop-current-preserved : goal.loop-current-preserved
loop-current-preserved c = λ Z w. c.loop-current.invariant Z w ∙ told_on Z c.args.sizes.now w _ _ _ _ _ c.in-First.is (size_of c.in_ok-tree.tree.now) c.in_ok-tree.ensures c.args.size c.in_ok-is_its_name.field-0 (c.in_ok-is_its_name.ensures Z w) c.if-branch.false c.in_ok-found.found (c.in_ok-found.ensures Z w) c.in_default-found.is

pub returns : goal.returns
returns c = λ Z w. told_nothing Z _ (free_of c.args.size) c.in_default.is ∙ sym (c.loop-current.invariant Z w)
