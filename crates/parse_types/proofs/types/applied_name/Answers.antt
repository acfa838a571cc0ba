-- The name of the type, and its arguments.
use Rattle.std.proofs.Common.{◌≡◌, ◌+◌, suc, sym, ap, refl, arith}
use Rattle.fut_ast.specs.declared.node.Spot.{Spot}
use Rattle.fut_grammar.specs.Reading.{row_at, parts_at, has_at}
use Rattle.parse_types.proofs.ReadLaws.{fails_as, high_as}
use Rattle.parse_types.proofs.types.applied_name.Goals as goal

pub returns-in-Ok-without_form-clause-exact : goal.returns-in-Ok-without_form-clause-exact
unfolding row_at parts_at has_at
returns-in-Ok-without_form-clause-exact g c =
    let place = ap (λ (s : Spot). s.place) (sym c.next_spot.ensures) in
    let one : suc c.in-Ok-many.found.height ≡ c.in-Ok-many.found.height + 1 = omega arith in
    rw (c.in-Ok.ensures, c.in-Ok-many.ensures.exact, c.in-Ok-without_form.ensures, place, one) c.made.ensures

pub returns-in-Ok-without_form-clause-low : goal.returns-in-Ok-without_form-clause-low
returns-in-Ok-without_form-clause-low g c = high_as _ c.made.result _ _ c.made.ensures (omega (arith, c.in-Ok-many.ensures.low))

pub returns-in-Err-without_form-clause-exact : goal.returns-in-Err-without_form-clause-exact
unfolding row_at parts_at has_at
returns-in-Err-without_form-clause-exact g c =
    fails_as c.in-Err-without_form.stop c.in-Err-without_form.ensures (λ f read. rw (c.in-Ok.ensures, c.in-Ok-many.ensures.exact, read) refl)

pub returns-in-Err-many-clause-exact : goal.returns-in-Err-many-clause-exact
unfolding row_at parts_at has_at
returns-in-Err-many-clause-exact g c = fails_as c.in-Err-many.stop c.in-Err-many.ensures.exact (λ f read. rw (c.in-Ok.ensures, read) refl)

pub returns-in-Err-clause-exact : goal.returns-in-Err-clause-exact
unfolding row_at parts_at has_at
returns-in-Err-clause-exact g c = fails_as c.in-Err.stop c.in-Err.ensures (λ f read. rw read refl)
