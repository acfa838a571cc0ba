use Rattle.std.proofs.Common.{sym, ap, ◌∙◌, arith}
use Rattle.fut_meaning.specs.Knowns.{is_data}
use Rattle.unfold_measure.specs.Held.{known_of}
use Rattle.unfold_measure.proofs.Parts.{all_here, all_on, all_done}
use Rattle.unfold_measure.proofs.known.all_data.Goals as goal

pub returns-in-loop-known : goal.returns-in-loop-known
returns-in-loop-known c = all_here _ c.loop-known.known-index _ _ c.loop-known-test.true c.loop-known.invariant (ap (λ z. is_data (known_of z)) (sym c.known-item.is) ∙ sym c.is_data.ensures ∙ c.if-is_data.false)

pub loop-known-preserved : goal.loop-known-preserved
loop-known-preserved c = all_on _ c.loop-known.known-index _ _ c.loop-known-test.true c.loop-known.invariant (ap (λ z. is_data (known_of z)) (sym c.known-item.is) ∙ sym c.is_data.ensures ∙ c.if-is_data.true)

pub returns : goal.returns
returns c = sym (c.loop-known.invariant ∙ all_done c.args.parts.now c.loop-known.known-index (omega (arith, c.loop-known-test.false)))
