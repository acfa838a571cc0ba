-- A module, its arguments and its seal, one after the other.
use Rattle.std.proofs.Common.{sym}
use Rattle.fut_grammar.specs.Phrases.{applied_mod_at, last_mod_at}
use Rattle.parse_module_types.proofs.Stops.{part_stopped, stopped}
use Rattle.fut_parser.proofs.modules.last_below.Goals as goal

pub returns-in-Err : goal.returns-in-Err
unfolding last_mod_at applied_mod_at
returns-in-Err g c = record { exact = part_stopped c.in-Err.stop _ _ _ c.in-Err.ensures.exact; low = tt }

pub returns-in-Err-arguments_behind : goal.returns-in-Err-arguments_behind
unfolding last_mod_at applied_mod_at
returns-in-Err-arguments_behind g c = record { exact = rw (c.in-Ok.ensures.exact, sym c.next_spot-at.ensures) (stopped c.in-Err-arguments_behind.stop _ _ c.in-Err-arguments_behind.ensures.exact); low = tt }

pub returns-in-Ok-arguments_behind : goal.returns-in-Ok-arguments_behind
unfolding last_mod_at applied_mod_at
returns-in-Ok-arguments_behind g c = record { exact = rw (c.in-Ok.ensures.exact, sym c.next_spot-at.ensures, c.in-Ok-arguments_behind.ensures.exact) c.seal_behind.ensures.exact; low = c.seal_behind.ensures.low }
