use Rattle.std.proofs.Common.{ap, ◌∙◌, length, min}
use Rattle.alias_joins.specs.SetRows.{sets_of}
use Rattle.alias_loops.proofs.ValueForms.{results_end}
use Rattle.alias_loops.proofs.values.results.Goals as goal

pub returns : goal.returns
returns c = ap sets_of c.into_bump_slice.ensures ∙ results_end c.args.carried.now c.args.turns.now c.args.given.now c.min-count.result c.loop-i.i c.loop-i.made.items
    (c.min-count.ensures ∙ ap (λ z. min z (length c.args.given.now)) c.min.ensures) c.loop-i.auto.i-end c.loop-i-test.false c.loop-i.invariant
