-- One `with` or more, or none.
use Rattle.std.proofs.Common.{◌≡◌, ◌+◌, ◌≤◌, ◌<◌, suc, true, sym, ◌∙◌, refl, nat_lt, arith, rules}
use Rattle.fut_grammar.specs.Phrases.{once_at}
use Rattle.fut_grammar.specs.Reading.{has_at, parts_at, suffix_at}
use Rattle.parse_module_types.proofs.Stops.{stopped}
use Rattle.parse_types.proofs.ReadLaws.{low_as}
use Rattle.parse_module_types.proofs.types.withs_behind.Goals as goal

pub returns-then-not-starts_with : goal.returns-then-not-starts_with
unfolding once_at
returns-then-not-starts_with c = record { exact = rw (sym c.starts_with.ensures ∙ c.if-not-starts_with.true) refl; low = c.requires.1 }

pub returns-in-Err : goal.returns-in-Err
unfolding once_at suffix_at parts_at has_at
returns-in-Err c =
    let low : c.args.first_height < suc c.args.inner = omega arith in
    let lt : nat_lt c.args.first_height (suc c.args.inner) ≡ true = search (arith, rules, low) in
    record { exact = rw (sym c.starts_with.ensures ∙ c.if-not-starts_with.false, lt) (stopped c.in-Err.stop _ _ c.in-Err.ensures.exact); low = tt }

pub returns : goal.returns
unfolding once_at suffix_at parts_at has_at
returns c =
    let low : c.args.first_height < suc c.args.inner = omega arith in
    let lt : nat_lt c.args.first_height (suc c.args.inner) ≡ true = search (arith, rules, low) in
    let one : suc c.in-Ok.withs.height ≡ c.in-Ok.withs.height + 1 = omega arith in
    let high : c.in-Ok.withs.height + 1 ≤ c.args.inner + 1 = omega (arith, c.in-Ok.ensures.low) in
    record { exact = rw (sym c.starts_with.ensures ∙ c.if-not-starts_with.false, lt, c.in-Ok.ensures.exact, one) c.made.ensures.exact; low = low_as c.made.result c.made.ensures.low high }
