-- An equals sign and a type, or nothing.
use Rattle.std.proofs.Common.{sym, ◌∙◌, refl, arith}
use Rattle.std.proofs.Math.Nat.{zero-max}
use Rattle.fut_grammar.specs.Phrases.{phrases}
use Rattle.fut_grammar.specs.Reading.{maybe_at}
use Rattle.parse_module_types.proofs.Stops.{stopped}
use Rattle.parse_module_types.proofs.members.maybe_type.Goals as goal

pub returns-then-not-starts_with : goal.returns-then-not-starts_with
unfolding maybe_at
returns-then-not-starts_with c = record { exact = rw (sym c.starts_with.ensures ∙ c.if-not-starts_with.true) refl; low = omega arith }

pub returns-in-Err : goal.returns-in-Err
unfolding maybe_at phrases
returns-in-Err c = record { exact = rw (sym c.starts_with.ensures ∙ c.if-not-starts_with.false, sym c.rest_of.ensures) (stopped c.in-Err.stop _ _ c.in-Err.ensures.exact); low = tt }

pub returns : goal.returns
unfolding maybe_at phrases
returns c = record { exact = rw (sym c.starts_with.ensures ∙ c.if-not-starts_with.false, sym c.rest_of.ensures, c.in-Ok.ensures.exact, zero-max c.in-Ok.ty.height) refl; low = c.in-Ok.ensures.low }
