use Rattle.size_slots.specs.Held.{maker_of}
use Rattle.size_applying.proofs.SeeingForms.{stays_quantified}
use Rattle.size_applying.proofs.seeing.quantified_seen.Goals as goal

pub returns-then-seen : goal.returns-then-seen
returns-then-seen c = λ σ t sees. stays_quantified c.args.seen.now (maker_of c.args.makers.now) σ t sees c.if-seen.true
