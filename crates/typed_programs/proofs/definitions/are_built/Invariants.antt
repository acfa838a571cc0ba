use Rattle.std.proofs.Common.{take}
use Rattle.std.specs.List.{All}
use Rattle.typed_programs.specs.Trees.{Definition_built}
use Rattle.typed_programs.proofs.definitions.are_built.Given as goal

abbrev pub invariant-loop-definition : goal.invariant-loop-definition
invariant-loop-definition l = All Definition_built (take l.definition-index l.definitions)
