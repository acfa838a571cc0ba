use Rattle.size_arena.specs.Trees.{size_of}
use Rattle.size_applying.proofs.SharingForms.{none_apart}
use Rattle.size_applying.proofs.sharing.no_arrows.Goals as goal

pub returns-clause-apart : goal.returns-clause-apart
returns-clause-apart c = none_apart (size_of c.args.tree.now)
