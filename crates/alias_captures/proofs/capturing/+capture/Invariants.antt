use Rattle.std.proofs.Common.{◌≡◌, ◌≤◌, drop, length, map}
use Rattle.fut_flat.specs.Erased.{term_of, terms}
use Rattle.fut_flat.proofs.ErasedForms.{row_of}
use Rattle.fut_typing.specs.Names.{Names}
use Rattle.fut_aliases.specs.Capturing.{all_captured}
use Rattle.alias_parts.specs.Known.{Knows}
use Rattle.alias_scopes.specs.Scopes.{scope_of}
use Rattle.alias_captures.specs.Captures.{lets_before}
use Rattle.alias_captures.proofs.capturing.+capture.Given as goal

abbrev pub invariant-all_names-parts : goal.invariant-all_names-parts
invariant-all_names-parts l = record {
  all : (N : Names) → Knows l.names N → l.all ≡ all_captured N (scope_of l.scope) (terms (map term_of (drop l.i l.parts)));
  within : l.i ≤ length l.parts;
}

abbrev pub decreases-all_names-parts : goal.decreases-all_names-parts
decreases-all_names-parts l = l.i

abbrev pub invariant-add_lets-row : goal.invariant-add_lets-row
invariant-add_lets-row l = record {
  all : (N : Names) → Knows l.names N → l.all ≡ lets_before N (scope_of l.scope) (map row_of (drop l.i l.row)) l.behind;
  within : l.i ≤ length l.row;
}

abbrev pub decreases-add_lets-row : goal.decreases-add_lets-row
decreases-add_lets-row l = l.i
