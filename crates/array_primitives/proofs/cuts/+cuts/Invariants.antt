-- Each call has fewer cuts, or hands the rows on.
use Rattle.std.proofs.Common.{◌+◌, ◌-◌, ◌*◌, length, take, drop}
use Rattle.std.specs.Prelude.{reverse}
use Rattle.array_data.specs.Held.{built_rows, held, rows_in}
use Rattle.array_primitives.proofs.CutRows.{All_cut}
use Rattle.array_primitives.proofs.cuts.+cuts.Given as goal

abbrev pub decreases-cut_whole : goal.decreases-cut_whole
decreases-cut_whole l = 2 * length l.cuts.now

abbrev pub decreases-cut_row : goal.decreases-cut_row
decreases-cut_row l = 2 * length l.cuts.now + 1

abbrev pub decreases-cut_rows : goal.decreases-cut_rows
decreases-cut_rows l = 2 * length l.cuts.now + 1

abbrev pub decreases-cut_backwards : goal.decreases-cut_backwards
decreases-cut_backwards l = 2 * length l.cuts.now + 1

abbrev pub invariant-cut_rows-loop-i : goal.invariant-cut_rows-loop-i
invariant-cut_rows-loop-i l = All_cut l.cuts (take (l.i - l.from) (drop l.from (rows_in (held l.whole)))) (built_rows l.built)

abbrev pub invariant-cut_backwards-loop-i : goal.invariant-cut_backwards-loop-i
invariant-cut_backwards-loop-i l = All_cut l.cuts (reverse (drop (l.n - l.i) (rows_in (held l.whole)))) (built_rows l.built)
