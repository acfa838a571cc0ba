use Rattle.std.proofs.Common.{◌≡◌, map, drop}
use Rattle.fut_meaning.specs.Knowns.{all_data}
use Rattle.unfold_measure.specs.Held.{known_of, knowns}
use Rattle.unfold_measure.proofs.known.all_data.Given as goal

abbrev pub invariant-loop-known : goal.invariant-loop-known
invariant-loop-known l = all_data (knowns (map known_of l.parts)) ≡ all_data (knowns (map known_of (drop l.known-index l.parts)))
