use Rattle.array_data.proofs.Recording.{Same_before}
use Rattle.array_data.proofs.records.are_names.Given as goal

abbrev pub invariant-loop-i : goal.invariant-loop-i
invariant-loop-i l = Same_before l.names l.others l.i
