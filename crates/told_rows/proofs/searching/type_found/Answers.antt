use Rattle.std.proofs.Common.{refl, sym, ◌∙◌}
use Rattle.size_arena.specs.Trees.{variable_of, size_of}
use Rattle.told_rows.proofs.AskForms.{type_nowhere, type_here, type_on}
use Rattle.told_rows.proofs.searching.type_found.Goals as goal

pub loop-current-init : goal.loop-current-init
loop-current-init c = λ Z w. refl

pub returns-in-Some : goal.returns-in-Some
returns-in-Some c = λ Z w. type_here Z c.args.sizes.now w _ _ _ _ _ c.in-First.is (size_of c.in_ok-tree.tree.now) c.in_ok-tree.ensures c.args.variable c.in_ok-found.found (c.in_ok-found.ensures Z w) c.in-Some.row c.in-Some.is ∙ sym (c.loop-current.invariant Z w)

pub loop-current-preserved : goal.loop-current-preserved
loop-current-preserved c = λ Z w. c.loop-current.invariant Z w ∙ type_on Z c.args.sizes.now w _ _ _ _ _ c.in-First.is (size_of c.in_ok-tree.tree.now) c.in_ok-tree.ensures c.args.variable c.in_ok-found.found (c.in_ok-found.ensures Z w) c.in_default-found.is

pub returns : goal.returns
returns c = λ Z w. c.unknown.ensures ∙ sym (c.loop-current.invariant Z w ∙ type_nowhere Z _ c.in_default.is (variable_of c.args.variable))
