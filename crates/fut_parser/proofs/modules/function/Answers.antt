-- What stands behind the parameter, on top of its height.
use Rattle.std.proofs.Common.{sym, ap}
use Rattle.fut_ast.specs.declared.node.Spot.{Spot}
use Rattle.fut_grammar.specs.Reading.{has_at, parts_at, row_at, sub_at}
use Rattle.parse_module_types.proofs.Stops.{part_stopped}
use Rattle.fut_parser.proofs.modules.function.Goals as goal

pub returns-in-Err : goal.returns-in-Err
unfolding row_at parts_at has_at
returns-in-Err g c = record { exact = part_stopped c.in-Err.stop _ _ _ c.in-Err.ensures; low = tt }

pub returns-in-Err-module_parameter : goal.returns-in-Err-module_parameter
unfolding row_at parts_at has_at sub_at
returns-in-Err-module_parameter g c = record { exact = rw (c.in-Ok.ensures) (part_stopped c.in-Err-module_parameter.stop _ _ _ c.in-Err-module_parameter.ensures.exact); low = tt }

pub returns : goal.returns
unfolding row_at parts_at has_at sub_at
returns g c =
    let at = ap (λ (s : Spot). s.place) (sym c.next_spot.ensures) in
    record { exact = rw (c.in-Ok.ensures, c.in-Ok-module_parameter.ensures.exact, sym c.greater.ensures, at) c.body_behind.ensures.exact; low = c.body_behind.ensures.low }
