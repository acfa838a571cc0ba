use Rattle.std.proofs.Common.{◌≡◌, drop}
use Rattle.fut_meaning.specs.Datums.{takes}
use Rattle.unfold_parts.proofs.jobs.takes.Given as goal

abbrev pub invariant-loop-parameter : goal.invariant-loop-parameter
invariant-loop-parameter l = takes l.parameters ≡ takes (drop l.parameter-index l.parameters)
