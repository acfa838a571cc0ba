-- What is left to read gives the rest of the row.
use Rattle.std.proofs.Common.{◌≡◌, suc, ◌-◌, ◌≤◌, length}
use Rattle.fut_ast.specs.Tokens.{tail}
use Rattle.fut_tree.specs.Exps.{binds_of}
use Rattle.fut_grammar.specs.Phrases.{phrases, read_at, row_of_lets}
use Rattle.fut_grammar.proofs.Loops.{with_front}
use Rattle.parse_atoms.proofs.lets.lets.Given as goal

abbrev pub invariant-lets : goal.invariant-lets
invariant-lets g l = (with_front (binds_of l.all.items) (row_of_lets (phrases (read_at l.inner)) (suc l.inner) (length l.tokens - l._turn) l.height l.rest) ≡ row_of_lets (phrases (read_at l.inner)) (suc l.inner) (length l.tokens) 0 (tail l.tokens)) × (l.height ≤ l.inner)
