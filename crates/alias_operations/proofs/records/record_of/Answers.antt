use Rattle.std.proofs.Common.{arith}
use Rattle.alias_operations.proofs.RecordForms.{recorded, recorded_not}
use Rattle.alias_operations.proofs.records.record_of.Goals as goal

pub returns-in_ok-made-in-Some : goal.returns-in_ok-made-in-Some
returns-in_ok-made-in-Some c = λ N k. recorded N c.args.fields.now c.args.held.now _ _ c.in_ok-ty.ensures _ c.in-Some.number c.in_ok-places-in-Some.places.now c.in_ok-values-in-Some.values.now c.in-Some.ensures (omega (arith, c.if-fields-held.false)) (c.in_ok-places-in-Some.ensures N k) c.in_ok-values-in-Some.ensures c.in_ok-made-in-Some.ensures

pub returns-in_ok-made-in-None : goal.returns-in_ok-made-in-None
returns-in_ok-made-in-None c = λ N k. recorded_not N c.args.fields.now c.args.held.now _ _ c.in_ok-ty.ensures _ c.in-None.ensures c.in_ok-made-in-None.ensures
