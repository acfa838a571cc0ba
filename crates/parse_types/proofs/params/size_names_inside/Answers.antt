-- Both readers of phrases read these alike.
use Rattle.std.proofs.Common.{length}
use Rattle.fut_ast.specs.Sorts.{Size_item}
use Rattle.fut_grammar.specs.Phrases.{items, phrases, read_at}
use Rattle.fut_grammar.proofs.Same.{same_size}
use Rattle.fut_grammar.proofs.Turns.{many_same}
use Rattle.parse_types.proofs.params.size_names_inside.Goals as goal

pub returns-clause-exact : goal.returns-clause-exact
returns-clause-exact c = rw (many_same (items (read_at c.args.inner)) (phrases (read_at c.args.inner)) Size_item (same_size (read_at c.args.inner)) (length c.args.tokens.now) 0 c.args.tokens.now) c.size_names.ensures.exact
