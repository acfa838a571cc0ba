use Rattle.std.proofs.Common.{map, refl, ap, ◌∙◌, arith}
use Rattle.unfold.proofs.Mirror.{known_tuple}
use Rattle.unfold.specs.Held.{known_of}
use Rattle.unfold.specs.Knowns.{Tuple_known, no_known}
use Rattle.unfold.specs.Unfolding.{function_known}
use Rattle.unfold_parts.proofs.Jobbing.{function_past, function_end}
use Rattle.unfold_parts.proofs.jobs.function_of.Goals.{else-parameter-gt0-via-then-parameter-gt0+else-at-arguments, else-parameter-gt0-via-else-parameter-gt0}
use Rattle.unfold_parts.proofs.jobs.function_of.Goals as goal

pub loop-parameter-preserved : goal.loop-parameter-preserved
loop-parameter-preserved c = (omega (arith, c.loop-parameter.invariant.0), function_past _ _ _ _ _ 0 c.loop-parameter-test.true (elim c.else-parameter-gt0.branch [ else-parameter-gt0-via-then-parameter-gt0+else-at-arguments w ↦ (λ pos lt. omega (arith, lt, w.if-at-arguments.false)) | else-parameter-gt0-via-else-parameter-gt0 w ↦ (λ pos lt. omega (arith, pos, w.if-parameter-gt0.false)) ]) c.loop-parameter.invariant.1)

pub returns : goal.returns
returns c = function_end c.line_of.result.parameters.now c.args.arguments.now (Tuple_known no_known) c.loop-parameter.parameter-index c.loop-parameter.at _ (omega (arith, c.loop-parameter-test.false)) c.loop-parameter.invariant.1 (known_tuple _ _ refl) ∙ ap (λ z. function_known z (map known_of c.args.arguments.now) (Tuple_known no_known)) c.line_of.ensures.parameters
