use Rattle.std.proofs.Common.{◌≡◌, ◌+◌, drop, map}
use Rattle.fut_typing.specs.Program.{defined, program_numbers}
use Rattle.unique_programs.proofs.numbers.count_numbers.Given as goal

abbrev pub invariant-loop-definition : goal.invariant-loop-definition
invariant-loop-definition l = l.count + program_numbers (map defined (drop l.definition-index l.flat.definitions.now)) ≡ program_numbers (map defined l.flat.definitions.now)
