use Rattle.std.proofs.Common.{◌≡◌, slice_index_or, subst, sym}
use Rattle.type_graph.specs.Rereading.{Bears_it}
use Rattle.type_scopes.specs.declared.names.Seat.{Seat}
use Rattle.type_scopes.proofs.Fixing.{deep_more, deep_all, has_one}
use Rattle.type_scopes.proofs.ending.escapes.Goals as goal

pub returns-then-is_fixed-clause-fixed : goal.returns-then-is_fixed-clause-fixed
returns-then-is_fixed-clause-fixed c e = record {
  number = _;
  own_one = has_one c.args.own.now c.loop-parameter.parameter-index 0 c.loop-parameter-test.true;
  left = λ lt T home born k b h. c.is_fixed.ensures.left c.if-is_fixed.true lt T home born _ k b (subst (λ (s : Seat). Bears_it T c.args.inference.now.nodes s.node (slice_index_or c.args.own.now c.loop-parameter.parameter-index 0) k) (sym c.seat_of-node.ensures) h);
}

pub loop-parameter-preserved : goal.loop-parameter-preserved
loop-parameter-preserved c = deep_more c.args.depth c.args.inference.now c.args.own.now c.loop-parameter.parameter-index _ c.loop-parameter-test.true c.loop-parameter.invariant (λ T home base st is. c.is_fixed.ensures.deeper c.if-is_fixed.false T home base _ st (subst (λ (s : Seat). T.seat (slice_index_or c.args.own.now c.loop-parameter.parameter-index 0) ≡ s.node) (sym c.seat_of-node.ensures) is))

pub returns-clause-deep : goal.returns-clause-deep
returns-clause-deep c e = deep_all c.args.depth c.args.inference.now c.args.own.now c.loop-parameter.parameter-index c.loop-parameter-test.false c.loop-parameter.invariant
