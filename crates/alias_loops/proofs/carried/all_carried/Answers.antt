use Rattle.std.proofs.Common.{ap, ◌∙◌, length, min}
use Rattle.alias_loops.specs.Carried.{carrieds_of}
use Rattle.alias_loops.proofs.CarriedForms.{carried_end}
use Rattle.alias_loops.proofs.carried.all_carried.Goals as goal

pub returns : goal.returns
returns c = ap carrieds_of c.into_bump_slice.ensures ∙ carried_end c.args.losses.now c.args.nodes.now c.args.own.now c.args.first.now c.args.gives.now c.min-count.result c.loop-i.i c.loop-i.made.items
    (c.min-count.ensures ∙ ap (λ z. min z (length c.args.gives.now)) (c.min-2.ensures ∙ ap (λ z. min z (length c.args.first.now)) c.min.ensures)) c.loop-i.auto.i-end c.loop-i-test.false c.loop-i.invariant
