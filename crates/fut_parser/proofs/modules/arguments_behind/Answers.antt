-- One argument or more, or none.
use Rattle.std.proofs.Common.{◌≡◌, ◌+◌, ◌≤◌, suc, sym, ◌∙◌, refl, arith}
use Rattle.fut_grammar.specs.Phrases.{once_at}
use Rattle.fut_grammar.specs.Reading.{has_at, parts_at, suffix_at}
use Rattle.parse_module_types.proofs.Stops.{stopped}
use Rattle.parse_types.proofs.ReadLaws.{above, below, low_as}
use Rattle.fut_parser.proofs.modules.arguments_behind.Goals as goal

pub returns-then-not-begins_module_argument : goal.returns-then-not-begins_module_argument
unfolding once_at
returns-then-not-begins_module_argument g c = record { exact = rw (sym c.begins_module_argument.ensures ∙ c.if-not-begins_module_argument.true) refl; low = c.requires.room.1 }

pub returns-then-first-inner : goal.returns-then-first-inner
unfolding once_at suffix_at
returns-then-first-inner g c = record { exact = rw (sym c.begins_module_argument.ensures ∙ c.if-not-begins_module_argument.false, above c.if-first-inner.true) refl; low = tt }

pub returns-in-Err : goal.returns-in-Err
unfolding once_at suffix_at parts_at has_at
returns-in-Err g c = record { exact = rw (sym c.begins_module_argument.ensures ∙ c.if-not-begins_module_argument.false, below c.if-first-inner.false) (stopped c.in-Err.stop _ _ c.in-Err.ensures.exact); low = tt }

pub returns : goal.returns
unfolding once_at suffix_at parts_at has_at
returns g c =
    let one : suc c.in-Ok.all.height ≡ c.in-Ok.all.height + 1 = omega arith in
    let high : c.in-Ok.all.height + 1 ≤ c.args.inner + 1 = omega (arith, c.in-Ok.ensures.low) in
    record { exact = rw (sym c.begins_module_argument.ensures ∙ c.if-not-begins_module_argument.false, below c.if-first-inner.false, c.in-Ok.ensures.exact, one) c.made.ensures.exact; low = low_as c.made.result c.made.ensures.low high }
