use Rattle.std.proofs.Common.{◌≤◌}
use Rattle.typed_programs.proofs.Names.{Steps_up}
use Rattle.typed_programs.proofs.definitions.numbers_rise.Given as goal

abbrev pub invariant-loop-at : goal.invariant-loop-at
invariant-loop-at l = record {
  least : 1 ≤ l.at;
  rising : Steps_up l.at l.definitions;
}
