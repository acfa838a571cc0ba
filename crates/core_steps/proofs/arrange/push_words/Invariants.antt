use Rattle.std.proofs.Common.{◌≡◌, ◌++◌, take}
use Rattle.core_steps.proofs.arrange.push_words.Given as goal

abbrev pub invariant-loop-word : goal.invariant-loop-word
invariant-loop-word l = l.stack.items ≡ l.initial.stack.items ++ take l.word-index l.words
