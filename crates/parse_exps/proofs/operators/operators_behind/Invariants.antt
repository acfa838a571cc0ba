-- What is left to read gives the rest of the operands.
use Rattle.std.proofs.Common.{◌≡◌, suc, ◌+◌, ◌≤◌}
use Rattle.fut_grammar.specs.Phrases.{operators_at, phrases, read_at}
use Rattle.parse_exps.proofs.operators.operators_behind.Given as goal

abbrev pub invariant-behind : goal.invariant-behind
invariant-behind g l = (operators_at (phrases (read_at l.inner)) (suc l.inner) l.section_ends l.least l.at l.turns (l.found.tree.exp.now, l.found.tree.ended) l.found.height l.found.rest.now ≡ operators_at (phrases (read_at l.inner)) (suc l.inner) l.section_ends l.least l.at (suc l.inner) (l.fn.first.tree.exp.now, l.fn.first.tree.ended) l.fn.first.height l.fn.first.rest.now) × (l.found.height ≤ l.inner + 1)

abbrev pub decreases-behind : goal.decreases-behind
decreases-behind g l = l.turns
