-- A module expression begins here, and nothing goes on with it.
use Rattle.std.proofs.Common.{sym, ◌∙◌, refl}
use Rattle.fut_grammar.specs.Phrases.{bounded, ended, far_at, read_at, step, whole_mod_at}
use Rattle.fut_grammar.specs.Reading.{refuse_sort}
use Rattle.parse_module_types.proofs.Stops.{part_stopped, stopped}
use Rattle.fut_parser.proofs.module_cycle.last_node.Goals as goal

pub returns-then-not-begins_module : goal.returns-then-not-begins_module
unfolding read_at bounded refuse_sort
returns-then-not-begins_module g c =
    let begun = sym c.begins_module.ensures ∙ c.if-not-begins_module.true in
    record { last = rw (begun, c.refused.ensures) refl; whole = rw (begun, c.refused.ensures) refl; low = tt }

pub returns-in-Err : goal.returns-in-Err
unfolding read_at bounded ended far_at step whole_mod_at
returns-in-Err g c =
    let begun = sym c.begins_module.ensures ∙ c.if-not-begins_module.false in
    record { last = rw begun (stopped c.in-Err.stop _ _ c.in-Err.ensures.exact); whole = rw begun (stopped c.in-Err.stop _ _ (part_stopped c.in-Err.stop _ _ _ c.in-Err.ensures.exact)); low = tt }

pub returns-then-goes_on_module : goal.returns-then-goes_on_module
unfolding read_at bounded ended far_at step whole_mod_at
returns-then-goes_on_module g c =
    let begun = sym c.begins_module.ensures ∙ c.if-not-begins_module.false in
    let goes_on = sym c.goes_on_module.ensures ∙ c.if-goes_on_module.true in
    record { last = rw (begun, c.in-Ok.ensures.exact, goes_on, c.refused-then-goes_on_module.ensures) refl; whole = rw (begun, c.in-Ok.ensures.exact, goes_on, c.refused-then-goes_on_module.ensures) refl; low = tt }

pub returns : goal.returns
unfolding read_at bounded ended far_at step whole_mod_at
returns g c =
    let begun = sym c.begins_module.ensures ∙ c.if-not-begins_module.false in
    let goes_on = sym c.goes_on_module.ensures ∙ c.if-goes_on_module.false in
    record { last = rw (begun, c.in-Ok.ensures.exact, goes_on) refl; whole = rw (begun, c.in-Ok.ensures.exact, goes_on) refl; low = c.in-Ok.ensures.low }
