use Rattle.std.proofs.Common.{take}
use Rattle.std.specs.List.{flat_map}
use Rattle.flat_numbers.specs.Noted.{Noted}
use Rattle.flat_numbers.specs.Trees.{definition_homes}
use Rattle.flat_numbers.proofs.home_terms.note_definitions.Given as goal

abbrev pub invariant-loop-definition : goal.invariant-loop-definition
invariant-loop-definition l = Noted l.fn.homes l.homes (flat_map definition_homes (take l.definition-index l.definitions))
