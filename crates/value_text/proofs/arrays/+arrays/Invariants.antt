use Rattle.std.proofs.Common.{◌≡◌, ◌+◌, ◌-◌, ◌*◌, length, []}
use Rattle.value_text.specs.Arrays.{no_row, read_at, rows_up_to}
use Rattle.value_text.proofs.Rows.{Going}
use Rattle.value_text.proofs.arrays.+arrays.Given as goal

abbrev pub decreases-read_at : goal.decreases-read_at
decreases-read_at l = 3 * l.rank

abbrev pub decreases-read_row : goal.decreases-read_row
decreases-read_row l = 3 * l.rank + 1

abbrev pub decreases-read_rows : goal.decreases-read_rows
decreases-read_rows l = 3 * l.rank + 2

abbrev pub invariant-read_rows-loop-turn : goal.invariant-read_rows-loop-turn
invariant-read_rows-loop-turn l = record {
  within : l.before + length l.rest ≡ length l.text + 1;
  none : l.turn ≡ 0 → l.rows.first ≡ [];
  kept : l.sizes ≡ l.initial.sizes;
  going : Going (read_at l.ty l.rank) l.start l.initial.words (rows_up_to (length l.text) (read_at l.ty l.rank) no_row l.start 1 l.text) (length l.text - l.turn) l.turn l.before l.rows.first l.words l.rest;
}
