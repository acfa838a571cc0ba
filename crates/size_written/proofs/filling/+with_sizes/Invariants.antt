use Rattle.fut_typing.specs.Names.{Names}
use Rattle.alias_parts.specs.Known.{Knows}
use Rattle.size_written.specs.Blanks.{blank_of, results_of}
use Rattle.size_written.proofs.WithForms.{All_made, Fields_made}
use Rattle.size_written.proofs.filling.+with_sizes.Given as goal

abbrev pub invariant-all_with_sizes-loop-i : goal.invariant-all_with_sizes-loop-i
invariant-all_with_sizes-loop-i l = (N : Names) → Knows l.names N → All_made N (results_of l.purpose) (blank_of l.purpose) l.first l.parts l.row l.i l.number l.made.items

abbrev pub invariant-fields_with_sizes-loop-field : goal.invariant-fields_with_sizes-loop-field
invariant-fields_with_sizes-loop-field l =
    (N : Names) → Knows l.names N → Fields_made N (results_of l.purpose) (blank_of l.purpose) l.first l.fields l.head l.fn.row.items l.field-index l.number l.row.items
