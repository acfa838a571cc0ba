use Rattle.fut_typing.specs.Names.{Names}
use Rattle.alias_parts.specs.Known.{Knows}
use Rattle.alias_values.specs.Trees.{value_of}
use Rattle.alias_loops.proofs.StartForms.{Fielding, Tupling}
use Rattle.alias_loops.proofs.starting.+starts.Given as goal

abbrev pub invariant-tuple_starts-loop-i : goal.invariant-tuple_starts-loop-i
invariant-tuple_starts-loop-i l = (N : Names) → Knows l.names N → Tupling N l.parts l.values l.node l.i l.next l.made.items

abbrev pub invariant-fields_start-loop-i : goal.invariant-fields_start-loop-i
invariant-fields_start-loop-i l = (N : Names) → Knows l.names N → Fielding N l.fields l.parts l.node (value_of l.value) l.i l.next l.made.items
