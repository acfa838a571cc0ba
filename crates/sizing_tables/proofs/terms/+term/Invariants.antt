use Rattle.std.proofs.Common.{take}
use Rattle.std.specs.List.{flat_map}
use Rattle.sizing_tables.specs.Noted.{Noted}
use Rattle.sizing_tables.specs.Trees.{exp_names, exp_sizes, let_names, let_sizes}
use Rattle.sizing_tables.proofs.terms.+term.Given as goal

abbrev pub invariant-note_parts-loop-part : goal.invariant-note_parts-loop-part
invariant-note_parts-loop-part l = Noted l.fn.noting l.noting (flat_map exp_names (take l.part-index l.parts)) (flat_map exp_sizes (take l.part-index l.parts))

abbrev pub invariant-note_lets-loop-one : goal.invariant-note_lets-loop-one
invariant-note_lets-loop-one l = Noted l.fn.noting l.noting (flat_map let_names (take l.one-index l.lets)) (flat_map let_sizes (take l.one-index l.lets))
