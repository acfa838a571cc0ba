-- A module type begins here, and no `with` stands behind it.
use Rattle.std.proofs.Common.{sym, ◌∙◌, refl}
use Rattle.fut_grammar.specs.Phrases.{bounded, ended, read_at, step}
use Rattle.fut_grammar.specs.Reading.{refuse_sort}
use Rattle.parse_module_types.proofs.Stops.{stopped}
use Rattle.parse_module_types.proofs.cycle.whole_node.Goals as goal

pub returns-then-not-begins_module_type : goal.returns-then-not-begins_module_type
unfolding read_at bounded refuse_sort
returns-then-not-begins_module_type g c = record { exact = rw (sym c.begins_module_type.ensures ∙ c.if-not-begins_module_type.true, c.refused.ensures) refl; low = tt }

pub returns-in-Err : goal.returns-in-Err
unfolding read_at bounded ended step
returns-in-Err g c = record { exact = rw (sym c.begins_module_type.ensures ∙ c.if-not-begins_module_type.false) (stopped c.in-Err.stop _ _ c.in-Err.ensures.exact); low = tt }

pub returns-then-starts_with : goal.returns-then-starts_with
unfolding read_at bounded ended step
returns-then-starts_with g c = record { exact = rw (sym c.begins_module_type.ensures ∙ c.if-not-begins_module_type.false, c.in-Ok.ensures.exact, sym c.starts_with.ensures ∙ c.if-starts_with.true, c.refused-then-starts_with.ensures) refl; low = tt }

pub returns : goal.returns
unfolding read_at bounded ended step
returns g c = record { exact = rw (sym c.begins_module_type.ensures ∙ c.if-not-begins_module_type.false, c.in-Ok.ensures.exact, sym c.starts_with.ensures ∙ c.if-starts_with.false) refl; low = c.in-Ok.ensures.low }

pub whole_below-requires : goal.whole_below-requires
whole_below-requires g c =
    let begun = sym c.begins_module_type.ensures ∙ c.if-not-begins_module_type.false in
    λ k. ((refl, tt), ((c.requires.callable, c.requires.law), ((c.requires.member_callable, c.requires.member_law), (begun, c.requires.room))))
