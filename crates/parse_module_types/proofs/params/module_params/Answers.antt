-- Both readers of phrases read these alike.
use Rattle.std.proofs.Common.{length}
use Rattle.fut_ast.specs.Sorts.{Mod_param}
use Rattle.fut_grammar.specs.Phrases.{items, phrases, read_at}
use Rattle.fut_grammar.proofs.Same.{same_param}
use Rattle.fut_grammar.proofs.Turns.{many_same}
use Rattle.parse_module_types.proofs.params.module_params.Goals as goal

pub returns-clause-exact : goal.returns-clause-exact
returns-clause-exact c = rw (many_same (items (read_at c.args.inner)) (phrases (read_at c.args.inner)) Mod_param (same_param (read_at c.args.inner)) (length c.args.tokens.now) 0 c.args.tokens.now) c.many.ensures.exact
