use Rattle.std.proofs.Common.{arith}
use Rattle.size_patterns.proofs.HeadForms.{no_name_left, name_left}
use Rattle.size_patterns.proofs.heads.none_left.Goals as goal

pub returns-then-is_empty : goal.returns-then-is_empty
returns-then-is_empty c = λ N types. no_name_left N types c.args.heads.now c.args.node (grind (arith, c.if-is_empty.true, c.is_empty.ensures))

pub returns-else-is_empty : goal.returns-else-is_empty
returns-else-is_empty c = λ N types. name_left N types c.args.heads.now c.args.node (λ e. grind (arith, c.if-is_empty.false, c.is_empty.ensures, e))
