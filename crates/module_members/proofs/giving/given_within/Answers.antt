use Rattle.std.proofs.Common.{ap, map, ◌∙◌}
use Rattle.module_state.specs.Standing.{given_of}
use Rattle.module_members.proofs.GivenLaws.{end_within, put_within}
use Rattle.module_members.proofs.giving.given_within.Goals as goal

pub loop-one-preserved : goal.loop-one-preserved
loop-one-preserved c = put_within c.args.given.now c.loop-one.one-index _ c.args.name.now _ _ _ c.loop-one-test.true c.loop-one.invariant c.in-Ok.ensures

pub returns : goal.returns
returns c = ap (map given_of) c.into_bump_slice.ensures ∙ end_within c.args.given.now c.loop-one.one-index c.args.name.now _ _ c.loop-one-test.false c.loop-one.invariant
