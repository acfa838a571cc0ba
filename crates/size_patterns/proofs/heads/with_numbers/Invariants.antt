use Rattle.size_patterns.proofs.HeadForms.{Numbers_known}
use Rattle.size_patterns.proofs.heads.with_numbers.Given as goal

abbrev pub invariant-loop-number : goal.invariant-loop-number
invariant-loop-number l = Numbers_known l.names l.numbers l.number-index l.inside.names.now
