-- An import, or what may be an argument.
use Rattle.std.proofs.Common.{sym, ◌∙◌}
use Rattle.fut_grammar.specs.Phrases.{first_mod_at}
use Rattle.fut_parser.proofs.modules.first_below.Goals as goal

pub returns-then-starts_with : goal.returns-then-starts_with
unfolding first_mod_at
returns-then-starts_with g c = record { exact = rw (sym c.starts_with.ensures ∙ c.if-starts_with.true) c.imported.ensures.exact; low = c.imported.ensures.low }

pub returns-else-starts_with : goal.returns-else-starts_with
unfolding first_mod_at
returns-else-starts_with g c = record { exact = rw (sym c.starts_with.ensures ∙ c.if-starts_with.false) c.argument_below.ensures.exact; low = c.argument_below.ensures.low }
