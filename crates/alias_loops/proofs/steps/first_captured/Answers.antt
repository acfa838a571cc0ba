use Rattle.std.proofs.Common.{sym, ◌∙◌}
use Rattle.fut_aliases.specs.Loops.{eaten_captured}
use Rattle.uniqueness.specs.Held.{here_of}
use Rattle.alias_loops.proofs.StepForms.{broken_here, broken_more}
use Rattle.alias_loops.proofs.steps.first_captured.Goals as goal

pub returns-then-is_some : goal.returns-then-is_some
returns-then-is_some c = λ scope. broken_here (eaten_captured (here_of scope c.args.here.now)) c.args.carried.now c.loop-i.i _ _ c.loop-i-test.true (c.eaten_captured-broken.ensures scope) (sym c.is_some.ensures ∙ c.if-is_some.true) (c.loop-i.invariant scope)

pub loop-i-preserved : goal.loop-i-preserved
loop-i-preserved c = λ scope. broken_more (eaten_captured (here_of scope c.args.here.now)) c.args.carried.now c.loop-i.i _ _ c.loop-i-test.true (c.eaten_captured-broken.ensures scope) (sym c.is_some.ensures ∙ c.if-is_some.false) (c.loop-i.invariant scope)
