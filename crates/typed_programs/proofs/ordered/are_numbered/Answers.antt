use Rattle.std.proofs.Common.{arith, sym, ◌∙◌}
use Rattle.type_rules.proofs.Numbering.{number_found}
use Rattle.typed_programs.proofs.Ordering.{one_numbered}
use Rattle.typed_programs.proofs.ordered.are_numbered.Goals as goal

pub loop-at-preserved : goal.loop-at-preserved
loop-at-preserved c = record {
  within = omega (arith, c.loop-at-test.true);
  numbered = one_numbered c.args.labels.now c.args.names.now c.loop-at.at _ c.in-Some.number c.loop-at-test.true c.loop-at.invariant.numbered (number_found c.args.labels.now _ _ (sym c.get.ensures.value ∙ sym c.copied.ensures ∙ c.in-Some.is)) c.if-number-at.false;
}
