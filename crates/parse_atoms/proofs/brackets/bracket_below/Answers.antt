-- By the tokens that stand next.
use Rattle.std.proofs.Common.{sym, ◌∙◌, refl, arith}
use Rattle.fut_grammar.specs.Phrases.{bracket_at}
use Rattle.parse_types.proofs.ReadLaws.{low_as}
use Rattle.parse_atoms.proofs.brackets.bracket_below.Goals as goal

pub elements-requires : goal.elements-requires
elements-requires g c = λ k. ((refl, tt), (sym c.starts_with.ensures ∙ c.if-starts_with.true, (c.requires.law, c.requires.room)))

pub returns-then-starts_with-2 : goal.returns-then-starts_with-2
unfolding bracket_at
returns-then-starts_with-2 g c = record { exact = rw (sym c.starts_with.ensures ∙ c.if-starts_with.true, sym c.rest_of-inside.ensures, sym c.starts_with-then-starts_with.ensures ∙ c.if-starts_with-2.true) (c.no_elements.ensures.exact c.args.inner); low = low_as c.no_elements.result c.no_elements.ensures.low (omega arith) }

pub returns-else-starts_with-2 : goal.returns-else-starts_with-2
unfolding bracket_at
returns-else-starts_with-2 g c = record { exact = rw (sym c.starts_with.ensures ∙ c.if-starts_with.true, sym c.rest_of-inside.ensures, sym c.starts_with-then-starts_with.ensures ∙ c.if-starts_with-2.false) c.elements.ensures.exact; low = c.elements.ensures.low }

pub returns-then-starts_with-3 : goal.returns-then-starts_with-3
unfolding bracket_at
returns-then-starts_with-3 g c = record { exact = rw (sym c.starts_with.ensures ∙ c.if-starts_with.false, sym c.rest_of-inside.ensures, sym c.starts_with-else-starts_with.ensures ∙ c.if-starts_with-3.true) (c.no_fields.ensures.exact c.args.inner); low = low_as c.no_fields.result c.no_fields.ensures.low (omega arith) }

pub returns-else-starts_with-3 : goal.returns-else-starts_with-3
unfolding bracket_at
returns-else-starts_with-3 g c = record { exact = rw (sym c.starts_with.ensures ∙ c.if-starts_with.false, sym c.rest_of-inside.ensures, sym c.starts_with-else-starts_with.ensures ∙ c.if-starts_with-3.false) c.fields.ensures.exact; low = c.fields.ensures.low }
