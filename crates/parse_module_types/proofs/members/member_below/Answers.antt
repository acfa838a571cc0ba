-- The word that stands first tells which production it is.
use Rattle.std.proofs.Common.{sym, ◌∙◌, refl}
use Rattle.fut_grammar.specs.Phrases.{spec_at}
use Rattle.parse_module_types.proofs.members.member_below.Goals as goal

pub returns-then-starts_with : goal.returns-then-starts_with
unfolding spec_at
returns-then-starts_with g c = record { exact = rw (sym c.starts_with.ensures ∙ c.if-starts_with.true) c.value.ensures.exact; low = c.value.ensures.low }

pub returns-then-starts_with-2 : goal.returns-then-starts_with-2
unfolding spec_at
returns-then-starts_with-2 g c = record { exact = rw (sym c.starts_with.ensures ∙ c.if-starts_with.false, sym c.starts_with-else-starts_with.ensures ∙ c.if-starts_with-2.true) c.type_name.ensures.exact; low = c.type_name.ensures.low }

pub returns-then-starts_with-3 : goal.returns-then-starts_with-3
unfolding spec_at
returns-then-starts_with-3 g c = record { exact = rw (sym c.starts_with.ensures ∙ c.if-starts_with.false, sym c.starts_with-else-starts_with.ensures ∙ c.if-starts_with-2.false, sym c.starts_with-else-starts_with-2.ensures ∙ c.if-starts_with-3.true) c.module.ensures.exact; low = c.module.ensures.low }

pub returns-else-starts_with-3 : goal.returns-else-starts_with-3
unfolding spec_at
returns-else-starts_with-3 g c = record { exact = rw (sym c.starts_with.ensures ∙ c.if-starts_with.false, sym c.starts_with-else-starts_with.ensures ∙ c.if-starts_with-2.false, sym c.starts_with-else-starts_with-2.ensures ∙ c.if-starts_with-3.false) c.include.ensures.exact; low = c.include.ensures.low }

pub module-requires : goal.module-requires
module-requires g c = λ k. ((refl, tt), (c.requires.law, (sym c.starts_with-else-starts_with-2.ensures ∙ c.if-starts_with-3.true, c.requires.room)))
