use Rattle.std.proofs.Common.{refl}
use Rattle.size_slots.specs.Held.{met}
use Rattle.size_slots.proofs.meeting.meet_dim.Goals as goal

pub returns-in-Bound-found : goal.returns-in-Bound-found
returns-in-Bound-found c = λ σ held. met σ (rw (c.in-At.is, c.in-Bound-found.is) refl) held

pub returns-in-Bound : goal.returns-in-Bound
returns-in-Bound c = λ σ held. met σ (rw c.in-Bound.is refl) held
