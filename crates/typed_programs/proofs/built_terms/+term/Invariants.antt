use Rattle.std.proofs.Common.{take}
use Rattle.std.specs.List.{All}
use Rattle.typed_programs.specs.Trees.{Exp_built, Let_built}
use Rattle.typed_programs.proofs.built_terms.+term.Given as goal

abbrev pub invariant-lets_are_built-loop-one : goal.invariant-lets_are_built-loop-one
invariant-lets_are_built-loop-one l = All Let_built (take l.one-index l.lets)

abbrev pub invariant-parts_are_built-loop-part : goal.invariant-parts_are_built-loop-part
invariant-parts_are_built-loop-part l = All Exp_built (take l.part-index l.parts)
