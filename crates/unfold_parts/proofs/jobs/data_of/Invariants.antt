use Rattle.std.proofs.Common.{◌≡◌}
use Rattle.unfold_parts.proofs.Jobbing.{Data_lead}
use Rattle.unfold_parts.proofs.jobs.data_of.Given as goal

abbrev pub invariant-loop-argument : goal.invariant-loop-argument
invariant-loop-argument l = (l.argument-index ≡ l.at) × Data_lead l.parameters l.arguments l.at l.argument-index l.chosen.items
