-- An argument is no node, and nothing goes on with it.
use Rattle.std.proofs.Common.{sym, refl, subst, ◌∙◌, arith}
use Rattle.fut_ast.specs.Rows.{of_type}
use Rattle.fut_ast.specs.Sorts.{Atomic_type, Type_name}
use Rattle.fut_ast.specs.TypeRows.{size_argument}
use Rattle.fut_grammar.specs.Phrases.{phrases, items, read_at, bounded, ended, flat_at, type_argument_at}
use Rattle.fut_grammar.specs.Reading.{Gives, refuse_sort, row_at, parts_at, has_at, sub_at}
use Rattle.fut_tree.specs.Types.{arg_of}
use Rattle.parse_types.specs.Found.{found_as}
use Rattle.parse_types.proofs.ReadLaws.{low_as, same_read}
use Rattle.parse_types.proofs.SortLaws.{argument_as}
use Rattle.parse_types.proofs.types.AnyReadItemTypeArg.item.Goals as goal

pub returns-then-starts_with-clause-exact : goal.returns-then-starts_with-clause-exact
unfolding phrases bounded ended flat_at type_argument_at refuse_sort
returns-then-starts_with-clause-exact g c =
    rw (sym c.begins_argument_of_type.ensures ∙ c.if-not-begins_argument_of_type.false, sym c.starts_with.ensures ∙ c.if-starts_with.true, same_read (row_at (items (read_at c.args.inner)) (of_type size_argument) c.args.tokens.now)) (c.size_argument.ensures.exact c.args.inner)

pub returns-then-starts_with-clause-low : goal.returns-then-starts_with-clause-low
returns-then-starts_with-clause-low g c = low_as c.size_argument.result c.size_argument.ensures.low (omega arith)

pub returns-then-starts_with_word-clause-exact : goal.returns-then-starts_with_word-clause-exact
unfolding phrases bounded ended flat_at type_argument_at refuse_sort row_at parts_at has_at sub_at items
returns-then-starts_with_word-clause-exact g c =
    rw (sym c.begins_argument_of_type.ensures ∙ c.if-not-begins_argument_of_type.false, sym c.starts_with.ensures ∙ c.if-starts_with.false, sym c.starts_with_word.ensures ∙ c.if-starts_with_word.true) (subst (λ m. Gives (found_as arg_of) c.argument.result m) (argument_as (read_at c.args.inner Type_name c.args.tokens.now)) (c.argument.ensures.exact (read_at c.args.inner Type_name c.args.tokens.now) c.type_name.ensures.exact))

pub returns-then-starts_with_word-clause-low : goal.returns-then-starts_with_word-clause-low
returns-then-starts_with_word-clause-low g c = c.argument.ensures.low _ c.type_name.ensures.low

pub returns-else-starts_with_word-clause-exact : goal.returns-else-starts_with_word-clause-exact
unfolding phrases bounded ended flat_at type_argument_at refuse_sort row_at parts_at has_at sub_at items
returns-else-starts_with_word-clause-exact g c =
    rw (sym c.begins_argument_of_type.ensures ∙ c.if-not-begins_argument_of_type.false, sym c.starts_with.ensures ∙ c.if-starts_with.false, sym c.starts_with_word.ensures ∙ c.if-starts_with_word.false) (subst (λ m. Gives (found_as arg_of) c.argument-else-starts_with_word.result m) (argument_as (read_at c.args.inner Atomic_type c.args.tokens.now)) (c.argument-else-starts_with_word.ensures.exact (read_at c.args.inner Atomic_type c.args.tokens.now) c.read.ensures.0))

pub returns-else-starts_with_word-clause-low : goal.returns-else-starts_with_word-clause-low
returns-else-starts_with_word-clause-low g c = c.argument-else-starts_with_word.ensures.low _ c.read.ensures.1

pub returns-then-not-begins_argument_of_type-clause-exact : goal.returns-then-not-begins_argument_of_type-clause-exact
unfolding phrases bounded ended flat_at refuse_sort
returns-then-not-begins_argument_of_type-clause-exact g c = rw (sym c.begins_argument_of_type.ensures ∙ c.if-not-begins_argument_of_type.true, c.refused.ensures) refl
