use Rattle.std.proofs.Common.{◌++◌, ap, sym, ◌∙◌, arith}
use Rattle.type_graph.proofs.Chains.{pushed, all_pushed, row_step, row_none}
use Rattle.type_graph.proofs.tasks.push_row.Goals as goal

pub loop-rest-preserved : goal.loop-rest-preserved
loop-rest-preserved c = record {
  so_far = pushed c.loop-rest.tasks _ _ _ _ c.in_ok-push.ensures.ok (ap (λ l. c.loop-rest.tasks ++ l) (sym (row_step c.args.kind c.args.depth c.loop-rest.x c.loop-rest.rest c.loop-rest-test.true)) ∙ c.loop-rest.invariant.so_far);
  fits = omega (arith, c.loop-rest.invariant.fits, c.loop-rest-test.true);
}

pub returns : goal.returns
returns c = all_pushed c.loop-rest.tasks _ _ (row_none c.args.kind c.args.depth c.loop-rest.x c.loop-rest.rest c.loop-rest-test.false) c.loop-rest.invariant.so_far
