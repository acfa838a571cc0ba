-- A parameter is no node, and nothing goes on with it.
use Rattle.std.proofs.Common.{sym, refl, ◌∙◌, arith}
use Rattle.fut_ast.specs.PatRows.{size_head, variable_head}
use Rattle.fut_ast.specs.Rows.{of_pat}
use Rattle.fut_grammar.specs.Phrases.{phrases, items, read_at, bounded, ended, flat_at, head_at}
use Rattle.fut_grammar.specs.Reading.{refuse_sort, row_at}
use Rattle.parse_types.proofs.ReadLaws.{low_as, same_read}
use Rattle.parse_types.proofs.heads.HeadItemsReadItemHead.item.Goals as goal

pub returns-then-starts_with-clause-exact : goal.returns-then-starts_with-clause-exact
unfolding phrases bounded ended flat_at head_at
returns-then-starts_with-clause-exact c =
    rw (sym c.begins_parameter.ensures ∙ c.if-not-begins_parameter.false, sym c.starts_with.ensures ∙ c.if-starts_with.true, same_read (row_at (items (read_at c.args.inner)) (of_pat size_head) c.args.tokens.now)) (c.size.ensures.exact c.args.inner)

pub returns-then-starts_with-clause-low : goal.returns-then-starts_with-clause-low
returns-then-starts_with-clause-low c = low_as c.size.result c.size.ensures.low (omega arith)

pub returns-else-starts_with-clause-exact : goal.returns-else-starts_with-clause-exact
unfolding phrases bounded ended flat_at head_at
returns-else-starts_with-clause-exact c =
    rw (sym c.begins_parameter.ensures ∙ c.if-not-begins_parameter.false, sym c.starts_with.ensures ∙ c.if-starts_with.false, same_read (row_at (items (read_at c.args.inner)) (of_pat variable_head) c.args.tokens.now)) (c.variable.ensures.exact c.args.inner)

pub returns-else-starts_with-clause-low : goal.returns-else-starts_with-clause-low
returns-else-starts_with-clause-low c = low_as c.variable.result c.variable.ensures.low (omega arith)

pub returns-then-not-begins_parameter-clause-exact : goal.returns-then-not-begins_parameter-clause-exact
unfolding phrases bounded ended flat_at refuse_sort
returns-then-not-begins_parameter-clause-exact c = rw (sym c.begins_parameter.ensures ∙ c.if-not-begins_parameter.true, c.refused.ensures) refl
