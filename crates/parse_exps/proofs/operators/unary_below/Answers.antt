-- By the token that stands next.
use Rattle.std.proofs.Common.{sym, ◌∙◌, refl}
use Rattle.fut_grammar.specs.Phrases.{unary_at}
use Rattle.fut_grammar.specs.Reading.{row_at}
use Rattle.parse_exps.proofs.operators.unary_below.Goals as goal

pub returns-then-begins_exp_atom : goal.returns-then-begins_exp_atom
unfolding unary_at
returns-then-begins_exp_atom g c = record { exact = rw (sym c.begins_exp_atom.ensures ∙ c.if-begins_exp_atom.true) c.app_below.ensures.exact; low = c.app_below.ensures.low }

pub prefixed-requires : goal.prefixed-requires
prefixed-requires g c = λ k. ((refl, tt), (sym c.starts_with.ensures ∙ c.if-starts_with.true, (c.requires.law, c.requires.room)))

pub returns-then-starts_with : goal.returns-then-starts_with
unfolding unary_at row_at
returns-then-starts_with g c = record { exact = rw (sym c.begins_exp_atom.ensures ∙ c.if-begins_exp_atom.false, sym c.starts_with.ensures ∙ c.if-starts_with.true) c.prefixed.ensures.exact; low = c.prefixed.ensures.low }

pub prefixed-requires-then-starts_with-2 : goal.prefixed-requires-then-starts_with-2
prefixed-requires-then-starts_with-2 g c = λ k. ((refl, tt), (sym c.starts_with-else-starts_with.ensures ∙ c.if-starts_with-2.true, (c.requires.law, c.requires.room)))

pub returns-then-starts_with-2 : goal.returns-then-starts_with-2
unfolding unary_at row_at
returns-then-starts_with-2 g c = record { exact = rw (sym c.begins_exp_atom.ensures ∙ c.if-begins_exp_atom.false, sym c.starts_with.ensures ∙ c.if-starts_with.false, sym c.starts_with-else-starts_with.ensures ∙ c.if-starts_with-2.true) c.prefixed-then-starts_with-2.ensures.exact; low = c.prefixed-then-starts_with-2.ensures.low }

pub returns-else-starts_with-2 : goal.returns-else-starts_with-2
unfolding unary_at
returns-else-starts_with-2 g c = record { exact = rw (sym c.begins_exp_atom.ensures ∙ c.if-begins_exp_atom.false, sym c.starts_with.ensures ∙ c.if-starts_with.false, sym c.starts_with-else-starts_with.ensures ∙ c.if-starts_with-2.false) c.asserted.ensures.exact; low = c.asserted.ensures.low }
