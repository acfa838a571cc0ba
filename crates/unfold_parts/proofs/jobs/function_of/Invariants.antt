use Rattle.std.proofs.Common.{◌≡◌}
use Rattle.unfold.specs.Knowns.{Tuple_known, no_known}
use Rattle.unfold_parts.proofs.Jobbing.{Function_lead}
use Rattle.unfold_parts.proofs.jobs.function_of.Given as goal

abbrev pub invariant-loop-parameter : goal.invariant-loop-parameter
invariant-loop-parameter l = (l.parameter-index ≡ l.at) × Function_lead l.parameters l.arguments (Tuple_known no_known) l.parameter-index l.at
