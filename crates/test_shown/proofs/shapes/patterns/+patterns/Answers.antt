-- A list of parts is smaller than the pattern.
use Rattle.std.proofs.Common.{arith}
use Rattle.fut_tree.proofs.PatSizes.{tuple_parts, record_parts}
use Rattle.test_shown.proofs.shapes.patterns.+patterns.Goals as goal

pub show_pat-show_pats-requires : goal.show_pat-show_pats-requires
show_pat-show_pats-requires t c = (omega (arith, tuple_parts c.pat.inside _ c.pat.view_is c.in-Tuple.parts c.in-Tuple.is), tt)

pub show_pat-show_fields-requires : goal.show_pat-show_fields-requires
show_pat-show_fields-requires t c = (omega (arith, record_parts c.pat.inside _ c.pat.view_is c.in-Record.fields c.in-Record.is), tt)
