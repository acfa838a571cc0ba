use Rattle.array_data.proofs.Recording.{Not_before}
use Rattle.array_data.proofs.records.field_place.Given as goal

abbrev pub invariant-loop-i : goal.invariant-loop-i
invariant-loop-i l = Not_before l.name l.names l.i
