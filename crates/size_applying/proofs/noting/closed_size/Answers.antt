use Rattle.std.proofs.Common.{ℕ, sym, ap, ◌∙◌}
use Rattle.fut_sizes.specs.Applications.{all_settled}
use Rattle.fut_sizes.specs.Functions.{closed}
use Rattle.size_arena.specs.Trees.{size_of}
use Rattle.size_slots.specs.Held.{maker_of}
use Rattle.size_applying.proofs.noting.closed_size.Goals as goal

pub returns-clause-closed : goal.returns-clause-closed
returns-clause-closed c = λ σ held. c.in_ok-whole.ensures ∙ ap (λ z. closed c.args.goes_on (maker_of z) (size_of c.in_ok-made.made.now)) c.as_slice.ensures ∙ ap (λ (z : ℕ → ℕ). closed c.args.goes_on z (size_of c.in_ok-made.made.now)) (sym (c.in_ok-made.ensures.settled σ held).makers) ∙ ap (closed c.args.goes_on (all_settled (size_of c.args.size.now) σ).maker) (c.in_ok-made.ensures.read σ held)
