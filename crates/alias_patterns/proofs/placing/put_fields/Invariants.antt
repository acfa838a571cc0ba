use Rattle.std.proofs.Common.{◌≤◌, length}
use Rattle.fut_typing.specs.Names.{Names}
use Rattle.alias_parts.specs.Known.{Knows}
use Rattle.alias_patterns.proofs.PlaceForms.{Placed_from}
use Rattle.alias_patterns.proofs.placing.put_fields.Given as goal

abbrev pub invariant-fields : goal.invariant-fields
invariant-fields l = ((N : Names) → Knows l.names N → Placed_from N l.head l.fields l.stars l.fn.row.items l.i l.row.items) × (l.i ≤ length l.fields) × (l.i ≤ length l.stars)

abbrev pub decreases-fields : goal.decreases-fields
decreases-fields l = l.i
