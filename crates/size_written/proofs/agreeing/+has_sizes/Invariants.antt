use Rattle.fut_typing.specs.Names.{Names}
use Rattle.alias_parts.specs.Known.{Knows}
use Rattle.size_arena.specs.Trees.{size_of}
use Rattle.size_written.proofs.HaveForms.{All_so_far, Fields_so_far}
use Rattle.size_written.proofs.agreeing.+has_sizes.Given as goal

abbrev pub invariant-all_have_sizes-loop-i : goal.invariant-all_have_sizes-loop-i
invariant-all_have_sizes-loop-i l = (N : Names) → Knows l.names N → All_so_far N l.everywhere l.at l.parts l.row l.i

abbrev pub invariant-fields_have_sizes-loop-field : goal.invariant-fields_have_sizes-loop-field
invariant-fields_have_sizes-loop-field l = (N : Names) → Knows l.names N → Fields_so_far N l.everywhere l.at l.fields (size_of l.tree) l.field-index
