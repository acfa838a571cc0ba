use Rattle.std.proofs.Common.{◌≡◌, ◌++◌, map, take}
use Rattle.data_values.proofs.FromData.{reduced}
use Rattle.data_values.proofs.giving.put_row.Given as goal

abbrev pub invariant-loop-word : goal.invariant-loop-word
invariant-loop-word l = l.words ≡ l.fn.words ++ map (reduced l.elem) (take l.word-index l.row)
