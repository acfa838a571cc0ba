-- Both readers of phrases read these alike.
use Rattle.std.proofs.Common.{length}
use Rattle.fut_ast.specs.Sorts.{Atomic_pat}
use Rattle.fut_grammar.specs.Phrases.{items, phrases, read_at}
use Rattle.fut_grammar.proofs.Same.{same_pat}
use Rattle.fut_grammar.proofs.Turns.{many_same}
use Rattle.parse_types.proofs.params.patterns_inside.Goals as goal

pub returns-clause-exact : goal.returns-clause-exact
returns-clause-exact c = rw (many_same (items (read_at c.args.inner)) (phrases (read_at c.args.inner)) Atomic_pat (same_pat (read_at c.args.inner)) (length c.args.tokens.now) c.args.first_height c.args.tokens.now) c.patterns_behind.ensures.exact
