use Rattle.std.proofs.Common.{arith}
use Rattle.size_operations.proofs.RecordForms.{recorded}
use Rattle.size_operations.proofs.records.record_of.Goals as goal

pub returns-in_ok-parts-in-Some : goal.returns-in_ok-parts-in-Some
returns-in_ok-parts-in-Some c = λ N k. rw (recorded N c.args.fields.now c.args.sizes.now _ _ c.in_ok-ty.ensures c.record_number.result c.record_number.ensures c.in-Some.number c.in_ok-places-in-Some.places.now c.in_ok-parts-in-Some.parts.now c.in-Some.is (omega (arith, c.if-fields-sizes.false)) (c.in_ok-places-in-Some.ensures N k) c.in_ok-parts-in-Some.ensures) c.built.ensures
