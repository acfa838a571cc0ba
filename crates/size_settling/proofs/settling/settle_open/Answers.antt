use Rattle.fut_sizes.specs.Matching.{read}
use Rattle.size_arena.specs.Trees.{size_of}
use Rattle.size_settling.specs.Settled.{settled_by}
use Rattle.size_settling.proofs.SettleForms.{still_held}
use Rattle.size_settling.proofs.SettleLaws.{settled_read}
use Rattle.size_settling.proofs.settling.settle_open.Goals as goal

pub returns-in-Ok-clause-settled : goal.returns-in-Ok-clause-settled
returns-in-Ok-clause-settled c = settled_read _ _ (λ σ. read σ (size_of c.args.tree.now)) (size_of c.in-Ok.taken.now) _ c.in-Ok.ensures c.settle_taken.ensures

pub returns-in-Ok-clause-held : goal.returns-in-Ok-clause-held
returns-in-Ok-clause-held c = still_held _ _ (λ σ. settled_by (read σ (size_of c.args.tree.now)) σ) _ c.requires (settled_read _ _ (λ σ. read σ (size_of c.args.tree.now)) (size_of c.in-Ok.taken.now) _ c.in-Ok.ensures c.settle_taken.ensures)
