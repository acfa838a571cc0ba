use Rattle.array_data.proofs.Recording.{Names_taken}
use Rattle.array_data.proofs.records.names_of.Given as goal

abbrev pub invariant-loop-name : goal.invariant-loop-name
invariant-loop-name l = Names_taken l.names l.name-index l.all
