use Rattle.std.proofs.Common.{◌<◌, length}
use Rattle.type_infer.specs.Reading.{Generally}
use Rattle.typed_programs.specs.Entries.{Levels_are}
use Rattle.typed_programs.proofs.entries.below_arrays.Given as goal

abbrev pub invariant-loop : goal.invariant-loop
invariant-loop l = record {
  within : l.below.node < length l.inference.nodes;
  levels : Levels_are (Generally l.inference.nodes) l.node l.below.rank l.below.node;
}
