-- The law of lowering, for whole programs.
use Rattle.fut_meaning.specs.Outcomes.{Wrong}
use Rattle.core_ir.proofs.Fitted.{fitted_adds_nothing}
use Rattle.std.proofs.Common.{[], false, sym, subst, ◌≡◌, ◌⊎◌, inl, inr}
use Rattle.fut_blocks.specs.Meaning as source
use Rattle.fut_blocks.specs.Plain as block
use Rattle.fut_blocks.specs.Programs.{Program_means}
use Rattle.steps_simulate.specs.Covers.{Covered, Covers}
use Rattle.core_ir.specs.Meaning.{under, body_means}
use Rattle.core_ir.specs.Programs.{Core_means}
use Rattle.lowering.specs.Claims.{AddsNoOutcome, FittedAddsNoOutcome}
use Rattle.lowering.specs.Programs.{Are_components}
use Rattle.lowering.proofs.Stands.{no_name}
use Rattle.lowering.proofs.Runs.{under_covers}
use Rattle.lowering.proofs.Simulation.{body_covers}

pub adds_no_outcome : AddsNoOutcome
unfolding Core_means Program_means
adds_no_outcome tight budget hs ks p c l cs ds a =
    subst (λ z. Covers (Are_components ks) (under c.params.now cs [] (body_means tight false budget z)) (source.under p.params.now ds [] (source.body_means tight budget (block.body_of p.body)))) (sym l.body)
    (under_covers p.params.now l.parameters l.named a no_name (λ e env x h. body_covers tight budget l.lowered h))

pub fitted_adds_no_outcome : FittedAddsNoOutcome
fitted_adds_no_outcome tight budget hs ks p c l cs ds a o f x = by (fitted_adds_nothing tight budget c cs o f x)
  where
    by : Core_means tight false budget c cs o f ⊎ (o ≡ Wrong) → Covered (Are_components ks) (Program_means tight budget p ds) o f ⊎ (o ≡ Wrong)
    by (inl y) = inl ((adds_no_outcome tight budget hs ks p c l cs ds a).each o f y)
    by (inr e) = inr e
