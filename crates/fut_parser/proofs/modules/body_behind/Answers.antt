-- The parts behind the parameter, one after the other.
use Rattle.std.proofs.Common.{◌≡◌, ◌+◌, ◌≤◌, suc, sym, arith}
use Rattle.fut_grammar.specs.Phrases.{phrases}
use Rattle.fut_grammar.specs.Reading.{has_at, parts_at, sub_at}
use Rattle.parse_module_types.proofs.Stops.{part_stopped, stopped}
use Rattle.parse_types.proofs.ReadLaws.{low_as}
use Rattle.fut_parser.proofs.modules.body_behind.Goals as goal

pub returns-in-Err : goal.returns-in-Err
unfolding parts_at has_at
returns-in-Err g c = record { exact = stopped c.in-Err.stop _ _ c.in-Err.ensures.exact; low = tt }

pub returns-in-Err-take : goal.returns-in-Err-take
unfolding parts_at has_at
returns-in-Err-take g c = record { exact = rw (c.in-Ok.ensures.exact) (part_stopped c.in-Err-take.stop _ _ _ c.in-Err-take.ensures); low = tt }

pub returns-in-Err-read : goal.returns-in-Err-read
unfolding parts_at has_at sub_at phrases
returns-in-Err-read g c = record { exact = rw (c.in-Ok.ensures.exact, c.in-Ok-take.ensures) (part_stopped c.in-Err-read.stop _ _ _ c.in-Err-read.ensures.exact); low = tt }

pub returns : goal.returns
unfolding parts_at has_at sub_at phrases
returns g c =
    let one : suc c.greater.result ≡ c.greater.result + 1 = omega arith in
    let high : c.greater.result + 1 ≤ c.args.inner + 1 = omega (arith, c.greater.ensures, c.in-Ok.ensures.low, c.in-Ok-read.ensures.low) in
    record { exact = rw (c.in-Ok.ensures.exact, c.in-Ok-take.ensures, c.in-Ok-read.ensures.exact, sym c.greater.ensures, one) c.ended.ensures.exact; low = low_as c.ended.result c.ended.ensures.low high }
