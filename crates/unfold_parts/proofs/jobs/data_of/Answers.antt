use Rattle.std.proofs.Common.{map, Ok, refl, sym, subst, arith}
use Rattle.unfold.specs.Held.{known_of}
use Rattle.unfold_parts.specs.Jobs.{Data_to, no_data_to}
use Rattle.unfold_parts.specs.Refused.{no_memory}
use Rattle.unfold_parts.proofs.Jobbing.{Data_lead, data_end, data_unlike}
use Rattle.unfold_parts.proofs.jobs.data_of.Goals as goal

pub loop-argument-init : goal.loop-argument-init
loop-argument-init c = (refl, subst (Data_lead c.line_of.result.parameters.now c.args.arguments.now 0 0) (sym c.new-chosen.ensures.items) (λ us e. e))

pub returns-then-parameters-arguments : goal.returns-then-parameters-arguments
returns-then-parameters-arguments c = subst (λ z. Data_to z (map known_of c.args.arguments.now) _) c.line_of.ensures.parameters (data_unlike _ _ c.if-parameters-arguments.true)

pub returns-in-Err : goal.returns-in-Err
returns-in-Err c = no_data_to no_memory

pub returns : goal.returns
returns c = subst (λ z. Data_to z (map known_of c.args.arguments.now) (Ok c.into_bump_slice.result)) c.line_of.ensures.parameters (data_end _ _ _ _ _ c.into_bump_slice.result (omega (arith, c.loop-argument-test.false, c.loop-argument.invariant.0, c.if-parameters-arguments.false)) (omega (arith, c.loop-argument-test.false)) c.loop-argument.invariant.1 c.into_bump_slice.ensures)
