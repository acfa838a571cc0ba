use Rattle.flat_numbers.proofs.TermNumbers.{Exps_passed, Lets_passed}
use Rattle.flat_numbers.proofs.terms.+exp.Given as goal

abbrev pub invariant-after_parts-loop-exp : goal.invariant-after_parts-loop-exp
invariant-after_parts-loop-exp l = Exps_passed l.exps l.at l.next l.exp-index

abbrev pub invariant-after_lets-loop-one : goal.invariant-after_lets-loop-one
invariant-after_lets-loop-one l = Lets_passed l.row l.at l.next l.one-index
