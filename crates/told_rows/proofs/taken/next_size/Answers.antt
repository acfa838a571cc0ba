use Rattle.std.proofs.Common.{refl, ◌∙◌, le_refl}
use Rattle.size_arena.specs.Trees.{free_of, size_of}
use Rattle.told_rows.proofs.TakenForms.{passed_nothing, older_lighter, step_lighter, step_on, step_here}
use Rattle.told_rows.proofs.taken.next_size.Goals as goal

pub loop-current-init : goal.loop-current-init
loop-current-init c = record { same = λ Z w. refl; lighter = le_refl _ }

pub returns-in-Some : goal.returns-in-Some
returns-in-Some c = record {
  steps = λ Z w. step_here _ _ _ _ _ c.in-First.is Z c.args.sizes.now w (size_of c.in_ok-tree.tree.now) c.in_ok-tree.ensures (free_of c.args.size) c.in_ok-said.said (c.in_ok-said.ensures.says Z w) c.args.entered.now _ c.in-Some.is (c.loop-current.invariant.same Z w);
  lighter = step_lighter _ _ _ _ _ c.in-First.is c.args.entered.now c.in_ok-said.said c.in_ok-said.ensures.lighter c.loop-current.invariant.lighter;
}

pub loop-current-preserved : goal.loop-current-preserved
loop-current-preserved c = record {
  same = λ Z w. c.loop-current.invariant.same Z w ∙ step_on _ _ _ _ _ c.in-First.is Z c.args.sizes.now w (size_of c.in_ok-tree.tree.now) c.in_ok-tree.ensures (free_of c.args.size) c.in_ok-said.said (c.in_ok-said.ensures.says Z w) c.in_default-said.is;
  lighter = older_lighter _ _ _ _ _ c.in-First.is c.args.entered.now c.loop-current.invariant.lighter;
}

pub returns : goal.returns
returns c = record { steps = λ Z w. c.loop-current.invariant.same Z w ∙ passed_nothing Z _ (free_of c.args.size) c.in_default.is; lighter = tt }
