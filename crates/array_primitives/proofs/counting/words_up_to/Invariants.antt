use Rattle.array_data.specs.Answers.{Numbers}
use Rattle.array_primitives.proofs.counting.words_up_to.Given as goal

abbrev pub invariant-loop-i : goal.invariant-loop-i
invariant-loop-i l = Numbers l.i l.words
