use Rattle.std.proofs.Common.{rules}
use Rattle.pair_table.proofs.Keeps.{joins_keep}
use Rattle.pair_table.proofs.table.PairTable.join.Goals as goal

pub join_seat-requires : goal.join_seat-requires
join_seat-requires c = (search rules, search rules, search rules, search rules, joins_keep _ _ _ _ _ _ _ c.seat.invariant.1)
