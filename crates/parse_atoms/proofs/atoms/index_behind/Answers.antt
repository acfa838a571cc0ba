-- What was read between the brackets.
use Rattle.std.proofs.Common.{◌+◌, ◌≤◌, sym, ap, ◌∙◌, refl, arith}
use Rattle.fut_token.specs.declared.token.Fixed.TheVariants as fixed
use Rattle.fut_ast.specs.Sorts.{Atom}
use Rattle.fut_ast.specs.declared.node.Spot.{Spot}
use Rattle.fut_grammar.specs.Phrases.{phrases, read_at}
use Rattle.fut_grammar.specs.Reading.{has_at, parts_at}
use Rattle.parse_types.proofs.ReadLaws.{fails_as, low_as}
use Rattle.parse_atoms.proofs.ClosingLaws.{closes}
use Rattle.parse_atoms.proofs.atoms.index_behind.Goals as goal

pub returns-then-not-starts_with_tight : goal.returns-then-not-starts_with_tight
unfolding parts_at has_at
returns-then-not-starts_with_tight g c = record { exact = rw (sym c.starts_with_tight.ensures ∙ c.if-not-starts_with_tight.true, c.refused.ensures) refl; low = tt }

pub returns-in-Ok : goal.returns-in-Ok
unfolding parts_at has_at
returns-in-Ok g c =
    let bracket = ap (λ (s : Spot). s.place) (sym c.next_spot.ensures) in
    let low : c.in-Ok.parts.height + 1 ≤ c.args.inner + 1 = omega (arith, c.in-Ok.ensures.low) in
    record { exact = rw (sym c.starts_with_tight.ensures ∙ c.if-not-starts_with_tight.false, sym c.rest_of.ensures, c.in-Ok.ensures.exact, bracket) (closes (phrases (read_at c.args.inner)) Atom fixed.CloseBracket _ c.in-Ok.parts.height c.in-Ok.parts.rest.now _ c.made_before.result (c.made_before.ensures.exact _ c.index.ensures)); low = low_as c.made_before.result c.made_before.ensures.low low }

pub returns-in-Err : goal.returns-in-Err
unfolding parts_at has_at
returns-in-Err g c = record { exact = fails_as c.in-Err.stop c.in-Err.ensures.exact (λ f read. rw (sym c.starts_with_tight.ensures ∙ c.if-not-starts_with_tight.false, sym c.rest_of.ensures, read) refl); low = tt }
