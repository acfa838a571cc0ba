use Rattle.std.proofs.Common.{◌≡◌, ◌*◌, ◌++◌, flat_map, take, drop}
use Rattle.core_steps.proofs.selected.chosen_cells.Given as goal

abbrev pub invariant-loop-row : goal.invariant-loop-row
invariant-loop-row l = l.cells ++ flat_map (λ i. take l.each (drop (i * l.each) l.words)) (drop l.row-index l.rows) ≡ flat_map (λ i. take l.each (drop (i * l.each) l.words)) l.rows
