use Rattle.std.proofs.Common.{◌<◌, length}
use Rattle.type_infer.specs.Reading.{Generally}
use Rattle.typed_programs.specs.Entries.{Parameters_are}
use Rattle.typed_programs.proofs.entries.params_of.Given as goal

abbrev pub invariant-loop : goal.invariant-loop
invariant-loop l = record {
  within : l.node < length l.inference.nodes;
  read : Parameters_are (Generally l.inference.nodes) l.number l.params l.node;
}
