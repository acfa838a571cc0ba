-- By the token that stands next.
use Rattle.std.proofs.Common.{sym, ap, refl, subst, ◌∙◌}
use Rattle.fut_ast.specs.declared.node.Spot.{Spot}
use Rattle.fut_ast.specs.declared.ty.TypeForm.TheVariants as type_form
use Rattle.fut_ast.specs.Nodes.{type_at}
use Rattle.fut_ast.specs.Sorts.{Applied_type}
use Rattle.fut_grammar.specs.Phrases.{applied_type_at, phrases, read_at}
use Rattle.fut_grammar.specs.Reading.{Gives, row_at, parts_at, has_at, expect, sub_at}
use Rattle.parse_types.specs.Found.{tree_found}
use Rattle.parse_types.proofs.ReadLaws.{under}
use Rattle.parse_types.proofs.SortLaws.{node_alone}
use Rattle.parse_types.proofs.types.applied_type_below.Goals as goal

pub unique-requires : goal.unique-requires
unique-requires g c = under c.read-ty.result c.read-ty.ensures.1 c.requires.room

pub array-requires : goal.array-requires
array-requires g c k =
    ((refl, tt), (c.requires.law, (sym c.starts_with-else-starts_with.ensures ∙ c.if-starts_with-2.true, c.requires.room)))

pub returns-then-starts_with-clause-exact : goal.returns-then-starts_with-clause-exact
unfolding applied_type_at row_at parts_at has_at expect sub_at phrases
returns-then-starts_with-clause-exact g c =
    let place = ap (λ (s : Spot). s.place) (sym c.next_spot.ensures) in
    rw (sym c.starts_with.ensures ∙ c.if-starts_with.true, sym c.rest_of.ensures, place) (subst (λ m. Gives tree_found c.unique.result m) (node_alone (λ t. type_at c.next_spot.result.place (type_form.Unique t)) (read_at c.args.inner Applied_type c.rest_of.result.now)) (c.unique.ensures.exact (read_at c.args.inner Applied_type c.rest_of.result.now) c.read-ty.ensures.0))

pub returns-then-starts_with-clause-low : goal.returns-then-starts_with-clause-low
returns-then-starts_with-clause-low g c = c.unique.ensures.low _ c.read-ty.ensures.1

pub returns-then-starts_with-2-clause-exact : goal.returns-then-starts_with-2-clause-exact
unfolding applied_type_at
returns-then-starts_with-2-clause-exact g c =
    rw (sym c.starts_with.ensures ∙ c.if-starts_with.false, sym c.starts_with-else-starts_with.ensures ∙ c.if-starts_with-2.true) c.array.ensures.exact

pub returns-then-starts_with_word-clause-exact : goal.returns-then-starts_with_word-clause-exact
unfolding applied_type_at
returns-then-starts_with_word-clause-exact g c =
    rw (sym c.starts_with.ensures ∙ c.if-starts_with.false, sym c.starts_with-else-starts_with.ensures ∙ c.if-starts_with-2.false, sym c.starts_with_word.ensures ∙ c.if-starts_with_word.true) c.applied_name.ensures.exact

pub returns-else-starts_with_word-clause-exact : goal.returns-else-starts_with_word-clause-exact
unfolding applied_type_at
returns-else-starts_with_word-clause-exact g c =
    rw (sym c.starts_with.ensures ∙ c.if-starts_with.false, sym c.starts_with-else-starts_with.ensures ∙ c.if-starts_with-2.false, sym c.starts_with_word.ensures ∙ c.if-starts_with_word.false) c.bracket_type_below.ensures.exact
