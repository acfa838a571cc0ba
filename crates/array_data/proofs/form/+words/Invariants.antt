use Rattle.array_data.proofs.Weights.{Words_up_to}
use Rattle.array_data.proofs.form.+words.Given as goal

abbrev pub invariant-all_words_of-loop-form : goal.invariant-all_words_of-loop-form
invariant-all_words_of-loop-form l = Words_up_to l.forms l.form-index l.sum
