use Rattle.std.proofs.Common.{arith, sym, ap, ◌∙◌}
use Rattle.std.specs.Ordering.{is_lt}
use Rattle.typed_programs.proofs.Ordering.{one_rises}
use Rattle.typed_programs.proofs.ordered.rise.Goals as goal

pub loop-at-preserved : goal.loop-at-preserved
loop-at-preserved c = record { some = omega arith; rise = one_rises c.args.names.now c.loop-at.at _ _ c.loop-at.invariant.some c.loop-at-test.true c.loop-at.invariant.rise (ap is_lt (sym c.cmp.ensures ∙ c.in-Less.is)) }
