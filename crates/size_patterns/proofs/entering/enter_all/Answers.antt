use Rattle.std.proofs.Common.{refl}
use Rattle.size_program.specs.Answers.{no_memory}
use Rattle.size_program.specs.Program.{sub_of}
use Rattle.size_patterns.proofs.EnterForms.{none_entered, enter_more, enter_stops, enter_ends}
use Rattle.size_patterns.proofs.entering.enter_all.Goals as goal

pub loop-pattern-init : goal.loop-pattern-init
loop-pattern-init c = record {
  holds = c.requires.holds;
  far = λ N scope σ k known there. none_entered N (sub_of c.args.program.now.types.now) c.args.lambda c.args.pats.now c.args.table.now c.args.names.now c.args.wanted _ c.args.first scope σ c.new-parameters.ensures.items known there;
}

pub loop-pattern-preserved : goal.loop-pattern-preserved
loop-pattern-preserved c = record {
  holds = c.in-Ok.ensures.holds;
  far = λ N scope σ k known there. enter_more N (sub_of c.args.program.now.types.now) c.args.lambda c.args.pats.now c.loop-pattern.pattern-index c.loop-pattern.at c.loop-pattern.table c.loop-pattern.inside.names.now c.loop-pattern.inside.wanted c.loop-pattern.parameters.items _ (c.loop-pattern.invariant.far N scope σ k known there) c.enter.new.table c.enter.result _ c.loop-pattern-test.true (λ E s h. c.enter.ensures.gives N E k s h) c.in-Ok.entry _ c.in-Ok-after_pattern.next c.in-Ok.is c.in-Ok-push.ensures.items c.in-Ok-after_pattern.ensures;
}

pub returns-in-Err-clause-gives : goal.returns-in-Err-clause-gives
returns-in-Err-clause-gives c = λ N scope σ k known there. enter_stops N (sub_of c.args.program.now.types.now) c.args.lambda c.args.pats.now c.loop-pattern.pattern-index c.loop-pattern.at c.loop-pattern.table c.loop-pattern.inside.names.now c.loop-pattern.inside.wanted c.loop-pattern.parameters.items _ (c.loop-pattern.invariant.far N scope σ k known there) c.enter.new.table c.enter.result _ c.loop-pattern-test.true (λ E s h. c.enter.ensures.gives N E k s h) c.in-Err.error c.in-Err.is

pub returns-clause-gives : goal.returns-clause-gives
returns-clause-gives c = λ N scope σ k known there. enter_ends N (sub_of c.args.program.now.types.now) c.args.lambda c.args.pats.now c.loop-pattern.pattern-index c.loop-pattern.at c.loop-pattern.table c.loop-pattern.inside.names.now c.loop-pattern.inside.wanted c.loop-pattern.parameters.items _ (c.loop-pattern.invariant.far N scope σ k known there) _ c.loop-pattern-test.false refl c.into_bump_slice.ensures refl

pub returns-in-Err-push-clause-gives : goal.returns-in-Err-push-clause-gives
returns-in-Err-push-clause-gives c = λ N scope σ k known there. no_memory

pub returns-in-Err-after_pattern-clause-gives : goal.returns-in-Err-after_pattern-clause-gives
returns-in-Err-after_pattern-clause-gives c = λ N scope σ k known there. no_memory
