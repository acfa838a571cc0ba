use Rattle.std.proofs.Common.{◌-◌, arith}
use Rattle.alias_patterns.proofs.PlaceForms.{placed_more}
use Rattle.alias_patterns.proofs.placing.put_fields.Goals as goal

pub fields-preserved : goal.fields-preserved
fields-preserved c = (
  λ N k. placed_more N c.args.head c.args.fields.now c.args.stars.now c.args.row.now.items c.fields.i (c.fields.i - 1) c.fields.row.items c.put_star.new.row.items _ c.index-stars-i.result (omega (arith, c.fields-test.true)) (c.fields.invariant.0 N k) c.fields.invariant.1 c.fields.invariant.2
      c.index-stars-i.is (c.in_ok-put_star.ensures _ (c.in_ok-place.ensures N k)),
  omega (arith, c.fields.invariant.1),
  omega (arith, c.fields.invariant.2),
)
