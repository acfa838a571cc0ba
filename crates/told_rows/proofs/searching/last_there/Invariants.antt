use Rattle.std.proofs.Common.{◌≡◌, ◌≤◌, length, take}
use Rattle.fut_meaning.specs.Found.{Sizing}
use Rattle.told_rows.specs.Findings.{last_there}
use Rattle.told_rows.specs.Tables.{Tells}
use Rattle.told_rows.proofs.searching.last_there.Given as goal

abbrev pub invariant-loop-at : goal.invariant-loop-at
invariant-loop-at l = (l.at ≤ length l.given) × ((Z : Sizing) → Tells l.sizes Z → last_there Z.fields l.sought l.given ≡ last_there Z.fields l.sought (take l.at l.given))

abbrev pub decreases-loop-at : goal.decreases-loop-at
decreases-loop-at l = l.at
