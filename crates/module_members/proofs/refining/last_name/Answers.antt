use Rattle.std.proofs.Common.{arith}
use Rattle.module_members.proofs.RefinedLaws.{last_at}
use Rattle.module_members.proofs.refining.last_name.Goals as goal

pub returns : goal.returns
returns c = last_at c.args.path.now _ _ (omega (arith, c.if-count-eq0.false))
