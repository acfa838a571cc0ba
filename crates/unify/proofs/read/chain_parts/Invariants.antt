use Rattle.std.proofs.Common.{◌≡◌, ◌<◌, ◌++◌, length}
use Rattle.unify.specs.Reading.{chain_of}
use Rattle.unify.proofs.read.chain_parts.Given as goal

abbrev pub invariant-loop-rest : goal.invariant-loop-rest
invariant-loop-rest l = record {
  so_far : l.parts ++ chain_of l.entries l.at l.rest ≡ chain_of l.entries l.start l.count;
  within : l.at < length l.entries;
}

abbrev pub decreases-loop-rest : goal.decreases-loop-rest
decreases-loop-rest l = l.rest
