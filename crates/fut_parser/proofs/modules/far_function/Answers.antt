-- What stands behind the function's body ends it, or is refused.
use Rattle.std.proofs.Common.{sym, ◌∙◌, refl}
use Rattle.fut_grammar.specs.Phrases.{ended, far_at}
use Rattle.parse_module_types.proofs.Stops.{part_stopped}
use Rattle.fut_parser.proofs.modules.far_function.Goals as goal

pub returns-in-Err : goal.returns-in-Err
unfolding far_at ended
returns-in-Err g c = record { exact = part_stopped c.in-Err.stop _ _ _ c.in-Err.ensures.exact; low = tt }

pub returns-then-goes_on_module : goal.returns-then-goes_on_module
unfolding far_at ended
returns-then-goes_on_module g c = record { exact = rw (c.in-Ok.ensures.exact, sym c.goes_on_module.ensures ∙ c.if-goes_on_module.true, c.refused.ensures) refl; low = tt }

pub returns : goal.returns
unfolding far_at ended
returns g c = record { exact = rw (c.in-Ok.ensures.exact, sym c.goes_on_module.ensures ∙ c.if-goes_on_module.false) refl; low = c.in-Ok.ensures.low }
