use Rattle.size_program.proofs.maps.+with_entry.Given as goal

abbrev pub decreases-with_entry : goal.decreases-with_entry
decreases-with_entry l = l.number
