use Rattle.std.proofs.Common.{rules, ◌≡◌, ap, arith}
use Rattle.pair_table.proofs.Keeps.{splits_keep}
use Rattle.pair_table.proofs.table.PairTable.split.Goals as goal

pub split_seat-other-requires : goal.split_seat-other-requires
split_seat-other-requires c =
    let parts : c.seat.inside.seat.me.0.parts ≡ c.args.seat.now.parts = ap (λ s. s.parts) c.seat.view_is in
    let two = c.requires.parts in
    (search rules, search rules, splits_keep _ _ _ _ _ (omega arith))
