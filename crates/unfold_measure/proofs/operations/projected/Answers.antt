use Rattle.std.proofs.Common.{sym, ap, ◌∙◌}
use Rattle.fut_meaning.specs.Knowns.{known_part}
use Rattle.unfold_measure.specs.Held.{known_of}
use Rattle.unfold_measure.proofs.Parts.{known_as_wanted, projected_one, projected_other}
use Rattle.unfold_measure.proofs.operations.projected.Goals as goal

pub returns-then-parts-eq1 : goal.returns-then-parts-eq1
returns-then-parts-eq1 c = known_as_wanted (projected_one _ _ _ c.if-parts-eq1.true ∙ ap (λ z. known_part c.args.name.now (known_of z)) (sym c.index-parts-0.is)) c.part_of.ensures

pub returns-else-parts-eq1 : goal.returns-else-parts-eq1
returns-else-parts-eq1 c = known_as_wanted (projected_other _ _ c.if-parts-eq1.false) c.data_of.ensures
