use Rattle.std.proofs.Common.{◌≡◌, length, arith}
use Rattle.array_data.specs.Held.{held_all}
use Rattle.fut_eval.proofs.Whole.{eval_stuck}
use Rattle.fut_eval.proofs.program.eval.Goals as goal

pub unreachable-requires : goal.unreachable-requires
unreachable-requires c =
    let m : length c.as_mut_slice.result.now ≡ c.args.program.now.names = omega (arith, c.in-Ok.ensures, c.as_mut_slice.ensures.len) in
    let h = rw c.in-Err-Stuck.field-0-is at c.in-Err-Stuck.ensures in
    eval_stuck c.args.turns c.args.program.now (held_all c.args.args.now) _ _ _ m c.new-stack.ensures.items c.requires.rising c.requires.never_wrong _ h
