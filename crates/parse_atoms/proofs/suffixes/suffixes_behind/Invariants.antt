-- What is left to read gives the rest of what stands behind.
use Rattle.std.proofs.Common.{◌≡◌, suc, ◌+◌, ◌≤◌}
use Rattle.fut_grammar.specs.Phrases.{again_at, phrases, read_at}
use Rattle.parse_atoms.proofs.suffixes.suffixes_behind.Given as goal

abbrev pub invariant-behind : goal.invariant-behind
invariant-behind g l = (again_at (phrases (read_at l.inner)) (suc l.inner) g.R.ReadSuffix.test g.R.ReadSuffix.choose l.at l.turns (g.R.ReadSuffix.seen l.found.tree) l.found.height l.found.rest.now ≡ again_at (phrases (read_at l.inner)) (suc l.inner) g.R.ReadSuffix.test g.R.ReadSuffix.choose l.at (suc l.inner) (g.R.ReadSuffix.seen l.fn.first.tree) l.fn.first.height l.fn.first.rest.now) × (l.found.height ≤ l.inner + 1)

abbrev pub decreases-behind : goal.decreases-behind
decreases-behind g l = l.turns
