use Rattle.module_members.proofs.refining.+with_type_at.Given as goal

abbrev pub decreases-with_type_at : goal.decreases-with_type_at
decreases-with_type_at l = l.depth
