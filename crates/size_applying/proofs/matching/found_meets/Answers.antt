use Rattle.std.proofs.Common.{sym, ap, ◌∙◌}
use Rattle.fut_sizes.specs.Matching.{made_at, meet, none_opened}
use Rattle.size_arena.specs.Trees.{size_of}
use Rattle.size_arena.proofs.FrameLaws.{opened_closed}
use Rattle.size_slots.specs.Held.{no_memory_met, way_of}
use Rattle.size_applying.proofs.MatchingForms.{made_on, wanted_same}
use Rattle.size_applying.proofs.matching.found_meets.Goals as goal

pub returns-in-Ok-clause-met : goal.returns-in-Ok-clause-met
returns-in-Ok-clause-met c = λ N types w wants. made_on c.args.table.now c.made_at.new.table c.meet.new.table c.args.wanting.now.node _ (λ σ. meet w.node (way_of c.args.way) c.args.at w.opened w.wanted none_opened (size_of c.args.size.now) (made_at w.node σ)) _ c.in-Ok.ensures.made c.meet.ensures.met
    (λ σ. ap (λ z. meet z (way_of c.args.way) c.args.at w.opened w.wanted none_opened (size_of c.args.size.now) (made_at z σ)) (sym wants.node) ∙ wanted_same _ _ _ _ wants.opened wants.wanted opened_closed (made_at c.args.wanting.now.node σ))

pub returns-in-Err-clause-met : goal.returns-in-Err-clause-met
returns-in-Err-clause-met c = λ N types w wants σ held. no_memory_met
