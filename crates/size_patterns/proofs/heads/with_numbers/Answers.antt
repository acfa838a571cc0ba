use Rattle.size_patterns.proofs.HeadForms.{one_known}
use Rattle.size_patterns.proofs.heads.with_numbers.Goals as goal

pub loop-number-preserved : goal.loop-number-preserved
loop-number-preserved c = one_known c.args.names.now c.args.numbers.now c.loop-number.number-index c.loop-number.inside.names.now c.loop-number.invariant c.in_ok-names.names.now c.loop-number-test.true (λ scope known. rw (← c.in_ok-size.ensures) (c.in_ok-names.ensures scope known))
