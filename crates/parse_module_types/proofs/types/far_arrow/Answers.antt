-- What stands behind the arrow's module type ends it, or is refused.
use Rattle.std.proofs.Common.{sym, ◌∙◌, refl}
use Rattle.fut_grammar.specs.Phrases.{ended, far_at}
use Rattle.parse_module_types.proofs.Stops.{part_stopped}
use Rattle.parse_module_types.proofs.types.far_arrow.Goals as goal

pub returns-in-Err : goal.returns-in-Err
unfolding far_at ended
returns-in-Err g c = record { exact = part_stopped c.in-Err.stop _ _ _ c.in-Err.ensures.exact; low = tt }

pub returns-then-starts_with : goal.returns-then-starts_with
unfolding far_at ended
returns-then-starts_with g c = record { exact = rw (c.in-Ok.ensures.exact, sym c.starts_with.ensures ∙ c.if-starts_with.true, c.refused.ensures) refl; low = tt }

pub returns : goal.returns
unfolding far_at ended
returns g c = record { exact = rw (c.in-Ok.ensures.exact, sym c.starts_with.ensures ∙ c.if-starts_with.false) refl; low = c.in-Ok.ensures.low }
