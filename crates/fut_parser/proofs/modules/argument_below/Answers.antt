-- The token that stands first tells which production it is.
use Rattle.std.proofs.Common.{sym, ◌∙◌, refl}
use Rattle.fut_grammar.specs.Phrases.{atomic_mod_at}
use Rattle.fut_parser.proofs.modules.argument_below.Goals as goal

pub returns-then-starts_with_word : goal.returns-then-starts_with_word
unfolding atomic_mod_at
returns-then-starts_with_word g c = record { exact = rw (sym c.starts_with_word.ensures ∙ c.if-starts_with_word.true) c.path.ensures.exact; low = c.path.ensures.low }

pub returns-then-starts_with : goal.returns-then-starts_with
unfolding atomic_mod_at
returns-then-starts_with g c = record { exact = rw (sym c.starts_with_word.ensures ∙ c.if-starts_with_word.false, sym c.starts_with.ensures ∙ c.if-starts_with.true) c.in_braces.ensures.exact; low = c.in_braces.ensures.low }

pub returns-then-starts_with-2 : goal.returns-then-starts_with-2
unfolding atomic_mod_at
returns-then-starts_with-2 g c = record { exact = rw (sym c.starts_with_word.ensures ∙ c.if-starts_with_word.false, sym c.starts_with.ensures ∙ c.if-starts_with.false, sym c.starts_with-else-starts_with.ensures ∙ c.if-starts_with-2.true) c.round.ensures.exact; low = c.round.ensures.low }

pub returns-else-starts_with-2 : goal.returns-else-starts_with-2
unfolding atomic_mod_at
returns-else-starts_with-2 g c = record { exact = rw (sym c.starts_with_word.ensures ∙ c.if-starts_with_word.false, sym c.starts_with.ensures ∙ c.if-starts_with.false, sym c.starts_with-else-starts_with.ensures ∙ c.if-starts_with-2.false) c.far_function.ensures.exact; low = c.far_function.ensures.low }

pub in_braces-requires : goal.in_braces-requires
in_braces-requires g c = λ k. ((refl, tt), (c.requires.law_dec, (sym c.starts_with.ensures ∙ c.if-starts_with.true, c.requires.room)))

pub round-requires : goal.round-requires
round-requires g c = λ k. ((refl, tt), (sym c.starts_with-else-starts_with.ensures ∙ c.if-starts_with-2.true, (c.requires.law, c.requires.room)))
