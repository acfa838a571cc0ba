use Rattle.std.proofs.Common.{take}
use Rattle.std.specs.List.{flat_map}
use Rattle.flat_numbers.specs.Noted.{Noted}
use Rattle.flat_numbers.specs.Trees.{exp_homes, let_homes}
use Rattle.flat_numbers.proofs.home_terms.+term.Given as goal

abbrev pub invariant-note_parts-loop-part : goal.invariant-note_parts-loop-part
invariant-note_parts-loop-part l = Noted l.fn.homes l.homes (flat_map (exp_homes l.depth l.written) (take l.part-index l.parts))

abbrev pub invariant-note_lets-loop-one : goal.invariant-note_lets-loop-one
invariant-note_lets-loop-one l = Noted l.fn.homes l.homes (flat_map (let_homes l.depth l.written) (take l.one-index l.lets))
