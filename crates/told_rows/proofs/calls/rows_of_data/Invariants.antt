use Rattle.std.proofs.Common.{◌≡◌, ◌++◌, drop, map}
use Rattle.fut_blocks.specs.Rows.{Shape_of}
use Rattle.unfold.specs.Telling.{rows_in}
use Rattle.told_rows.specs.Arguments.{rows_of}
use Rattle.told_rows.proofs.calls.rows_of_data.Given as goal

abbrev pub invariant-loop-atom : goal.invariant-loop-atom
invariant-loop-atom l = map (λ u. rows_in (Shape_of u)) l.atoms ≡ rows_of l.made.items ++ map (λ u. rows_in (Shape_of u)) (drop l.atom-index l.atoms)
