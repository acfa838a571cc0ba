use Rattle.std.proofs.Common.{◌≡◌, ◌≤◌, ◌-◌}
use Rattle.unfold_parts.specs.Layouts.{numbers_from}
use Rattle.unfold_parts.proofs.fresh.names_between.Given as goal

abbrev pub invariant-loop-name : goal.invariant-loop-name
invariant-loop-name l = (l.first ≤ l.name) × (l.name - l.first ≤ l.behind - l.first) × (l.names.items ≡ numbers_from l.first (l.name - l.first))
