use Rattle.std.proofs.Common.{refl}
use Rattle.fut_sizes.specs.Matching.{made_at}
use Rattle.size_slots.proofs.MakerLaws.{made_held}
use Rattle.size_slots.proofs.makers.made_at.Goals as goal

pub returns-clause-made : goal.returns-clause-made
returns-clause-made c = λ σ held. made_held c.args.table.now (record { slots = c.args.table.now.slots; chosen = c.args.table.now.chosen; next = c.args.table.now.next; makers = c.push.new.self }) σ (record { first = c.args.table.now.next; node = c.args.node }) refl refl refl c.in_ok-push.ensures.ok refl held

pub returns-clause-held : goal.returns-clause-held
returns-clause-held c = λ h. (made_at c.args.node h.0, made_held c.args.table.now (record { slots = c.args.table.now.slots; chosen = c.args.table.now.chosen; next = c.args.table.now.next; makers = c.push.new.self }) h.0 (record { first = c.args.table.now.next; node = c.args.node }) refl refl refl c.in_ok-push.ensures.ok refl h.1)
