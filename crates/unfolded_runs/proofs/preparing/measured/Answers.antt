use Rattle.std.proofs.Common.{◌≡◌, length, arith}
use Rattle.unfolded_runs.proofs.Limits.{found_by}
use Rattle.unfolded_runs.proofs.preparing.measured.Goals as goal

pub measure-requires : goal.measure-requires
measure-requires c =
    let e : c.in-Ok.count ≡ length c.args.params.now = let h = c.in-Ok.ensures in omega (arith, h) in
    record { found = found_by c.args.sizes c.args.flat.now c.args.entry c.args.params.now c.in-Ok.count e c.requires.found }
