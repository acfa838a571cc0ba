use Rattle.std.proofs.Common.{◌≡◌, ◌+◌, ◌*◌, ◌-◌, ◌++◌, length}
use Rattle.std.specs.Prelude.{flat_map}
use Rattle.fut_value.specs.Values.{cut}
use Rattle.value_text.specs.FlatText.{array_text, other_row}
use Rattle.value_text.proofs.array_texts.+rows.Given as goal

abbrev pub decreases-put_data : goal.decreases-put_data
decreases-put_data l = 3 * length l.sizes.now

abbrev pub decreases-put_others : goal.decreases-put_others
decreases-put_others l = 3 * length l.sizes.now + 1

abbrev pub decreases-put_rows : goal.decreases-put_rows
decreases-put_rows l = 3 * length l.sizes.now + 2

abbrev pub invariant-put_others-loop-turn : goal.invariant-put_others-loop-turn
invariant-put_others-loop-turn l = record {
  long : length l.rest ≡ (l.count - l.turn) * l.row_words;
  same : l.text.items ++ flat_map (other_row (array_text l.ty l.sizes)) (cut (l.count - l.turn) l.row_words l.rest) ≡ l.initial.text.items ++ flat_map (other_row (array_text l.ty l.sizes)) (cut l.count l.row_words l.words);
}
