-- The word that stands first tells which production it is.
use Rattle.std.proofs.Common.{sym, ◌∙◌, refl}
use Rattle.fut_ast.specs.ModRows.{dec_def, dec_entry, dec_let}
use Rattle.fut_ast.specs.Rows.{of_mod}
use Rattle.fut_grammar.specs.Phrases.{bounded, dec_rest_at, ended, flat_at, items, other_dec_at, phrases, read_at}
use Rattle.fut_grammar.specs.Reading.{refuse_sort, row_at}
use Rattle.parse_types.proofs.ReadLaws.{same_read}
use Rattle.fut_parser.proofs.declarations.declared.Goals as goal

pub returns-then-not-begins_declared : goal.returns-then-not-begins_declared
unfolding phrases bounded refuse_sort
returns-then-not-begins_declared g c = record { exact = rw (sym c.begins_declared.ensures ∙ c.if-not-begins_declared.true, c.refused.ensures) refl; low = tt }

pub returns-then-starts_with : goal.returns-then-starts_with
unfolding phrases bounded ended flat_at dec_rest_at row_at
returns-then-starts_with g c = record { exact = rw (sym c.begins_declared.ensures ∙ c.if-not-begins_declared.false, sym c.starts_with.ensures ∙ c.if-starts_with.true, same_read (row_at (items (read_at c.args.inner)) (of_mod dec_def) c.args.tokens.now)) c.definition.ensures.exact; low = c.definition.ensures.low }

pub returns-then-starts_with-2 : goal.returns-then-starts_with-2
unfolding phrases bounded ended flat_at dec_rest_at row_at
returns-then-starts_with-2 g c = record { exact = rw (sym c.begins_declared.ensures ∙ c.if-not-begins_declared.false, sym c.starts_with.ensures ∙ c.if-starts_with.false, sym c.starts_with-else-starts_with.ensures ∙ c.if-starts_with-2.true, same_read (row_at (items (read_at c.args.inner)) (of_mod dec_let) c.args.tokens.now)) c.definition-then-starts_with-2.ensures.exact; low = c.definition-then-starts_with-2.ensures.low }

pub returns-then-starts_with-3 : goal.returns-then-starts_with-3
unfolding phrases bounded ended flat_at dec_rest_at row_at
returns-then-starts_with-3 g c = record { exact = rw (sym c.begins_declared.ensures ∙ c.if-not-begins_declared.false, sym c.starts_with.ensures ∙ c.if-starts_with.false, sym c.starts_with-else-starts_with.ensures ∙ c.if-starts_with-2.false, sym c.starts_with-else-starts_with-2.ensures ∙ c.if-starts_with-3.true, same_read (row_at (items (read_at c.args.inner)) (of_mod dec_entry) c.args.tokens.now)) c.definition-then-starts_with-3.ensures.exact; low = c.definition-then-starts_with-3.ensures.low }

pub returns-else-starts_with-3 : goal.returns-else-starts_with-3
unfolding phrases bounded ended flat_at dec_rest_at
returns-else-starts_with-3 g c = record { exact = rw (sym c.begins_declared.ensures ∙ c.if-not-begins_declared.false, sym c.starts_with.ensures ∙ c.if-starts_with.false, sym c.starts_with-else-starts_with.ensures ∙ c.if-starts_with-2.false, sym c.starts_with-else-starts_with-2.ensures ∙ c.if-starts_with-3.false, same_read (other_dec_at (items (read_at c.args.inner)) c.args.tokens.now)) c.other_declared.ensures.exact; low = c.other_declared.ensures.low }
