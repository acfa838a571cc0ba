use Rattle.std.proofs.Common.{get_or, sym, ap, ◌∙◌}
use Rattle.fut_meaning.specs.Knowns.{replaced_in}
use Rattle.unfold_measure.specs.Held.{known_of}
use Rattle.unfold_measure.proofs.Parts.{known_as_wanted, replaced_two, replaced_otherwise}
use Rattle.unfold_measure.proofs.operations.with_replaced.Goals as goal

pub returns-then-parts-eq2 : goal.returns-then-parts-eq2
returns-then-parts-eq2 c = known_as_wanted (replaced_two _ _ _ _ c.if-parts-eq2.true ∙ ap (λ z. replaced_in c.args.name.now (known_of z) (known_of (get_or c.args.parts.now 1 c.index-parts-1.result))) (sym c.index-parts-0.is) ∙ ap (λ z. replaced_in c.args.name.now (known_of c.index-parts-0.result) (known_of z)) (sym c.index-parts-1.is)) c.replaced.ensures

pub returns-else-parts-eq2 : goal.returns-else-parts-eq2
returns-else-parts-eq2 c = known_as_wanted (replaced_otherwise _ _ c.if-parts-eq2.false) c.data_of.ensures
