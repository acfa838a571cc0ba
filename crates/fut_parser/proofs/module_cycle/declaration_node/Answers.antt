-- A declaration begins here, and nothing goes on with it.
use Rattle.std.proofs.Common.{sym, ◌∙◌, refl}
use Rattle.fut_grammar.specs.Phrases.{bounded, dec_at, ended, phrases, read_at, step}
use Rattle.fut_grammar.specs.Reading.{refuse_sort}
use Rattle.parse_types.proofs.ReadLaws.{same_read}
use Rattle.fut_parser.proofs.module_cycle.declaration_node.Goals as goal

pub returns-then-not-begins_declaration : goal.returns-then-not-begins_declaration
unfolding read_at bounded refuse_sort
returns-then-not-begins_declaration g c = record { exact = rw (sym c.begins_declaration.ensures ∙ c.if-not-begins_declaration.true, c.refused.ensures) refl; low = tt }

pub returns : goal.returns
unfolding read_at bounded ended step
returns g c = record { exact = rw (sym c.begins_declaration.ensures ∙ c.if-not-begins_declaration.false, same_read (dec_at (phrases (read_at c.args.inner)) _ c.args.tokens.now)) c.declaration_below.ensures.exact; low = c.declaration_below.ensures.low }
