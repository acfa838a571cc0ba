use Rattle.std.proofs.Common.{◌-◌, length}
use Rattle.type_schemes.proofs.grow_memo.Given as goal

abbrev pub decreases-loop-memo : goal.decreases-loop-memo
decreases-loop-memo l = l.count - length l.memo
