use Rattle.std.proofs.Common.{List, take, subst}
use Rattle.fut_flat.specs.declared.program.Definition.{Definition}
use Rattle.type_infer.proofs.Results.{shows, at_number}
use Rattle.type_scopes.proofs.Binding.{take_all}
use Rattle.type_infer.proofs.Rows.{Gone, gone_none, gone_more, gone_refused, gone_all, at_place, take_more, room_in, lo_within}
use Rattle.type_infer.proofs.definitions.constrain_definitions.Goals as goal

pub loop-definition-init : goal.loop-definition-init
loop-definition-init c = gone_none c.args.places c.args.base c.args.inference.now c.requires.safe

pub constrain_definition-requires-clause-room : goal.constrain_definition-requires-clause-room
constrain_definition-requires-clause-room c = room_in c.args.definitions.now c.loop-definition.definition-index _ c.loop-definition.lo c.args.base c.loop-definition-test.true c.loop-definition.invariant.next c.requires.room

pub returns-in-Err-clause-err : goal.returns-in-Err-clause-err
returns-in-Err-clause-err c = let w = at_place c.args.definitions.now c.loop-definition.definition-index _ c.loop-definition-test.true in shows c.refused.result c.in-Err.error c.refused.ensures.why
    (gone_refused c.args.places c.args.base c.loop-definition.lo (take c.loop-definition.definition-index c.args.definitions.now) _ c.args.inference.now c.loop-definition.inference c.constrain_definition.new.inference c.loop-definition.invariant c.args.definitions.now w.0 w.1) c.in-Err.ensures.err

pub returns-in-Err-clause-at : goal.returns-in-Err-clause-at
returns-in-Err-clause-at c = at_number c.loop-definition.lo c.args.base c.refused.result (lo_within c.args.definitions.now c.loop-definition.definition-index c.loop-definition.lo c.args.base c.loop-definition-test.true c.loop-definition.invariant.next c.requires.room) c.refused.ensures.at

pub loop-definition-preserved : goal.loop-definition-preserved
loop-definition-preserved c = subst (λ (l : List Definition). Gone c.args.places c.args.base c.in-Ok.next l c.args.inference.now c.constrain_definition.new.inference) (take_more c.args.definitions.now c.loop-definition.definition-index _ c.loop-definition-test.true)
    (gone_more c.args.places c.args.base c.loop-definition.lo (take c.loop-definition.definition-index c.args.definitions.now) _ c.args.inference.now c.loop-definition.inference c.constrain_definition.new.inference c.loop-definition.invariant c.in-Ok.next c.in-Ok.ensures.next c.in-Ok.ensures.ok)

pub returns-clause-ok : goal.returns-clause-ok
returns-clause-ok c = gone_all c.args.places c.args.base c.loop-definition.lo (take c.loop-definition.definition-index c.args.definitions.now) c.args.definitions.now c.args.inference.now c.loop-definition.inference (take_all c.args.definitions.now c.loop-definition.definition-index c.loop-definition-test.false) c.loop-definition.invariant
