use Rattle.std.proofs.Common.{◌≡◌, ◌++◌, take}
use Rattle.core_steps.proofs.columns.put_words.Given as goal

abbrev pub invariant-loop-word : goal.invariant-loop-word
invariant-loop-word l = l.into ≡ l.initial.into ++ take l.word-index l.words
