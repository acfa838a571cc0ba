use Rattle.std.proofs.Common.{rules, ◌<◌, arith, length}
use Rattle.pair_table.proofs.Keeps.{more_read}
use Rattle.pair_table.proofs.table.read_back.Goals as goal

pub loop-i-preserved : goal.loop-i-preserved
loop-i-preserved c =
    let long = c.loop-i.invariant.long in
    let all = c.len-i-end.ensures in
    let below = c.loop-i-test.true in
    let within : c.loop-i.i < length c.loop-i.words = omega arith in
    record { long = search rules; read = more_read _ _ _ _ _ within c.word.ensures c.loop-i.invariant.read c.set.ensures }
