-- By the token that stands next.
use Rattle.std.proofs.Common.{sym, ◌∙◌}
use Rattle.fut_grammar.specs.Phrases.{form_at}
use Rattle.parse_atoms.proofs.forms.form_below.Goals as goal

pub returns-then-starts_with : goal.returns-then-starts_with
unfolding form_at
returns-then-starts_with g c = record { exact = rw (sym c.starts_with.ensures ∙ c.if-starts_with.true) c.if_else.ensures.exact; low = c.if_else.ensures.low }

pub returns-then-starts_with-2 : goal.returns-then-starts_with-2
unfolding form_at
returns-then-starts_with-2 g c = record { exact = rw (sym c.starts_with.ensures ∙ c.if-starts_with.false, sym c.starts_with-else-starts_with.ensures ∙ c.if-starts_with-2.true) c.function_form.ensures.exact; low = c.function_form.ensures.low }

pub returns-else-starts_with-2 : goal.returns-else-starts_with-2
unfolding form_at
returns-else-starts_with-2 g c = record { exact = rw (sym c.starts_with.ensures ∙ c.if-starts_with.false, sym c.starts_with-else-starts_with.ensures ∙ c.if-starts_with-2.false) c.loop_form.ensures.exact; low = c.loop_form.ensures.low }
