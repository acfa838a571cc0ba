use Rattle.std.proofs.Common.{ap, sym}
use Rattle.fut_typing.specs.Homes.{written_if}
use Rattle.flat_numbers.proofs.Heads.{found, none_more}
use Rattle.flat_numbers.proofs.home_terms.innermost_written.Goals as goal

pub returns-in-Var : goal.returns-in-Var
returns-in-Var c = sym (ap (λ b. written_if b c.args.deep c.args.written) (found c.args.heads.now c.loop-head.head-index _ c.in-Var.bind c.in-Var.lifted c.loop-head-test.true c.in-Var.is))

pub loop-head-preserved : goal.loop-head-preserved
loop-head-preserved c = none_more c.args.heads.now c.loop-head.head-index _ c.in_default.field-0 c.loop-head-test.true c.in_default.is c.loop-head.invariant
