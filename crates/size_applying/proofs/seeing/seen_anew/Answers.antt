use Rattle.size_arena.specs.Trees.{size_of}
use Rattle.size_applying.proofs.SeeingForms.{has_seen}
use Rattle.size_applying.proofs.seeing.seen_anew.Goals as goal

pub returns-clause-seen : goal.returns-clause-seen
returns-clause-seen c = λ σ held. has_seen c.settled.new.table c.args.later.now _ σ (size_of c.in_ok-opened.opened.now) c.in_ok-opened.ensures c.in_ok-arrows.ensures.apart (c.in_ok-size.ensures.settled σ held) (c.in_ok-size.ensures.read σ held) c.in_ok-no_slots.ensures
