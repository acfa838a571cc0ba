-- A seal, or none.
use Rattle.std.proofs.Common.{◌≡◌, ◌+◌, ◌≤◌, suc, sym, ◌∙◌, refl, arith}
use Rattle.fut_token.specs.declared.token.Fixed.TheVariants as fixed
use Rattle.fut_grammar.specs.Phrases.{once_at, phrases}
use Rattle.fut_grammar.specs.Reading.{has_at, parts_at, sub_at, suffix_at}
use Rattle.parse_module_types.proofs.Stops.{part_stopped, taken}
use Rattle.parse_types.proofs.ReadLaws.{above, below, low_as}
use Rattle.fut_parser.proofs.modules.seal_behind.Goals as goal

pub returns-then-not-starts_with : goal.returns-then-not-starts_with
unfolding once_at
returns-then-not-starts_with c = record { exact = rw (sym c.starts_with.ensures ∙ c.if-not-starts_with.true) refl; low = c.requires.1 }

pub returns-then-begins_module_argument : goal.returns-then-begins_module_argument
unfolding once_at suffix_at
returns-then-begins_module_argument c = record { exact = rw (sym c.starts_with.ensures ∙ c.if-not-starts_with.false, sym c.begins_module_argument.ensures ∙ c.if-begins_module_argument.true, c.refused.ensures) refl; low = tt }

pub returns-then-first-inner : goal.returns-then-first-inner
unfolding once_at suffix_at
returns-then-first-inner c = record { exact = rw (sym c.starts_with.ensures ∙ c.if-not-starts_with.false, sym c.begins_module_argument.ensures ∙ c.if-begins_module_argument.false, above c.if-first-inner.true) refl; low = tt }

pub returns-in-Err : goal.returns-in-Err
unfolding once_at suffix_at parts_at has_at sub_at phrases
returns-in-Err c =
    let sign = sym c.starts_with.ensures ∙ c.if-not-starts_with.false in
    record { exact = rw (taken fixed.Colon c.args.first.rest.now sign, sign, sym c.begins_module_argument.ensures ∙ c.if-begins_module_argument.false, below c.if-first-inner.false, sym c.rest_of.ensures) (part_stopped c.in-Err.stop _ _ _ c.in-Err.ensures.exact); low = tt }

pub returns : goal.returns
unfolding once_at suffix_at parts_at has_at sub_at phrases
returns c =
    let sign = sym c.starts_with.ensures ∙ c.if-not-starts_with.false in
    let one : suc c.greater.result ≡ c.greater.result + 1 = omega arith in
    let high : c.greater.result + 1 ≤ c.args.inner + 1 = omega (arith, c.greater.ensures, c.if-first-inner.false, c.in-Ok.ensures.low) in
    record { exact = rw (taken fixed.Colon c.args.first.rest.now sign, sign, sym c.begins_module_argument.ensures ∙ c.if-begins_module_argument.false, below c.if-first-inner.false, sym c.rest_of.ensures, c.in-Ok.ensures.exact, sym c.greater.ensures, one) c.ended.ensures.exact; low = low_as c.ended.result c.ended.ensures.low high }
