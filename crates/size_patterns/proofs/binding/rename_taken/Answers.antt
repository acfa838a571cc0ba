use Rattle.size_arena.specs.Trees.{size_of}
use Rattle.size_patterns.proofs.Results.{if_ok}
use Rattle.size_patterns.proofs.BindForms.{taken_renamed}
use Rattle.size_patterns.proofs.binding.rename_taken.Goals as goal

pub returns : goal.returns
returns c = λ σ held. if_ok c.with_sizes.result (λ m h. taken_renamed c.args.sizes.now σ (size_of c.args.tree.now) (size_of c.in_ok-slotted.slotted.now) (size_of m.now) c.in_ok-slotted.ensures h) (c.with_sizes.ensures σ held 0)
