-- A module expression that may be an argument begins here.
use Rattle.std.proofs.Common.{sym, ◌∙◌, refl}
use Rattle.fut_grammar.specs.Phrases.{bounded, ended, read_at, step}
use Rattle.fut_grammar.specs.Reading.{refuse_sort}
use Rattle.parse_module_types.proofs.Stops.{stopped}
use Rattle.fut_parser.proofs.module_cycle.argument_node.Goals as goal

pub returns-then-not-begins_module_argument : goal.returns-then-not-begins_module_argument
unfolding read_at bounded refuse_sort
returns-then-not-begins_module_argument g c = record { exact = rw (sym c.begins_module_argument.ensures ∙ c.if-not-begins_module_argument.true, c.refused.ensures) refl; low = tt }

pub returns-in-Err : goal.returns-in-Err
unfolding read_at bounded ended step
returns-in-Err g c = record { exact = rw (sym c.begins_module_argument.ensures ∙ c.if-not-begins_module_argument.false) (stopped c.in-Err.stop _ _ c.in-Err.ensures.exact); low = tt }

pub returns : goal.returns
unfolding read_at bounded ended step
returns g c = record { exact = rw (sym c.begins_module_argument.ensures ∙ c.if-not-begins_module_argument.false, c.in-Ok.ensures.exact) refl; low = c.in-Ok.ensures.low }
