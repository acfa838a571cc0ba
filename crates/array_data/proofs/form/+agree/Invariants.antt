use Rattle.array_data.proofs.Forms.{Agree_from}
use Rattle.array_data.proofs.form.+agree.Given as goal

abbrev pub invariant-all_agree-loop-i : goal.invariant-all_agree-loop-i
invariant-all_agree-loop-i l = Agree_from l.forms l.others l.i
