use Rattle.std.proofs.Common.{ℕ, ◌≡◌, ◌≤◌, ◌-◌}
use Rattle.type_scopes.specs.Table.{known_at}
use Rattle.type_scopes.specs.declared.names.Known.TheVariants as known
use Rattle.type_infer.proofs.begin.no_names.Given as goal

abbrev pub invariant-loop-at : goal.invariant-loop-at
invariant-loop-at l = record {
  within : l.at ≤ l.count;
  none : (b : ℕ) → known_at l.names b ≡ known.Nothing;
}

abbrev pub decreases-loop-at : goal.decreases-loop-at
decreases-loop-at l = l.count - l.at
