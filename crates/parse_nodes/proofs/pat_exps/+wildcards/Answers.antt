-- A list of parts is smaller than the pattern.
use Rattle.std.proofs.Common.{arith}
use Rattle.fut_tree.proofs.PatSizes.{record_parts, tuple_parts}
use Rattle.parse_nodes.proofs.pat_exps.+wildcards.Goals as goal

pub has_wildcard-any_wildcard-requires : goal.has_wildcard-any_wildcard-requires
has_wildcard-any_wildcard-requires t c = (omega (arith, tuple_parts c.pattern.inside _ c.pattern.view_is c.in-Tuple.parts c.in-Tuple.is), tt)

pub has_wildcard-any_field_wildcard-requires : goal.has_wildcard-any_field_wildcard-requires
has_wildcard-any_field_wildcard-requires t c = (omega (arith, record_parts c.pattern.inside _ c.pattern.view_is c.in-Record.fields c.in-Record.is), tt)
