-- By the token that stands next.
use Rattle.std.proofs.Common.{sym, ◌∙◌, refl, arith}
use Rattle.fut_grammar.specs.Phrases.{base_at}
use Rattle.parse_types.proofs.ReadLaws.{low_as}
use Rattle.parse_atoms.proofs.brackets.base_below.Goals as goal

pub returns-then-starts_with_word : goal.returns-then-starts_with_word
unfolding base_at
returns-then-starts_with_word g c = record { exact = rw (sym c.starts_with_word.ensures ∙ c.if-starts_with_word.true) (c.path.ensures.exact c.args.inner); low = low_as c.path.result c.path.ensures.low (omega arith) }

pub returns-then-starts_with_int : goal.returns-then-starts_with_int
unfolding base_at
returns-then-starts_with_int g c = record { exact = rw (sym c.starts_with_word.ensures ∙ c.if-starts_with_word.false, sym c.starts_with_int.ensures ∙ c.if-starts_with_int.true) (c.number.ensures.exact c.args.inner); low = low_as c.number.result c.number.ensures.low (omega arith) }

pub returns-then-starts_with : goal.returns-then-starts_with
unfolding base_at
returns-then-starts_with g c = record { exact = rw (sym c.starts_with_word.ensures ∙ c.if-starts_with_word.false, sym c.starts_with_int.ensures ∙ c.if-starts_with_int.false, sym c.starts_with.ensures ∙ c.if-starts_with.true) (c.yes.ensures.exact c.args.inner); low = low_as c.yes.result c.yes.ensures.low (omega arith) }

pub returns-then-starts_with-2 : goal.returns-then-starts_with-2
unfolding base_at
returns-then-starts_with-2 g c = record { exact = rw (sym c.starts_with_word.ensures ∙ c.if-starts_with_word.false, sym c.starts_with_int.ensures ∙ c.if-starts_with_int.false, sym c.starts_with.ensures ∙ c.if-starts_with.false, sym c.starts_with-else-starts_with.ensures ∙ c.if-starts_with-2.true) (c.no.ensures.exact c.args.inner); low = low_as c.no.result c.no.ensures.low (omega arith) }

pub paren_below-requires : goal.paren_below-requires
paren_below-requires g c = λ k. ((refl, tt), (sym c.starts_with-else-starts_with-2.ensures ∙ c.if-starts_with-3.true, (c.requires.law, c.requires.room)))

pub returns-then-starts_with-3 : goal.returns-then-starts_with-3
unfolding base_at
returns-then-starts_with-3 g c = record { exact = rw (sym c.starts_with_word.ensures ∙ c.if-starts_with_word.false, sym c.starts_with_int.ensures ∙ c.if-starts_with_int.false, sym c.starts_with.ensures ∙ c.if-starts_with.false, sym c.starts_with-else-starts_with.ensures ∙ c.if-starts_with-2.false, sym c.starts_with-else-starts_with-2.ensures ∙ c.if-starts_with-3.true) c.paren_below.ensures.exact; low = c.paren_below.ensures.low }

pub returns-else-starts_with-3 : goal.returns-else-starts_with-3
unfolding base_at
returns-else-starts_with-3 g c = record { exact = rw (sym c.starts_with_word.ensures ∙ c.if-starts_with_word.false, sym c.starts_with_int.ensures ∙ c.if-starts_with_int.false, sym c.starts_with.ensures ∙ c.if-starts_with.false, sym c.starts_with-else-starts_with.ensures ∙ c.if-starts_with-2.false, sym c.starts_with-else-starts_with-2.ensures ∙ c.if-starts_with-3.false) c.bracket_below.ensures.exact; low = c.bracket_below.ensures.low }
