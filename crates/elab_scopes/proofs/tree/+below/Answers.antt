use Rattle.std.proofs.Common.{rules}
use Rattle.elab_scopes.proofs.Trees.{leaf_means, here_means, odd_means, even_means}
use Rattle.elab_scopes.proofs.tree.+below.Goals as goal

pub returns-then-eq : goal.returns-then-eq
returns-then-eq t c = here_means _ _ _ _ c.in-Fork.is (search rules)

pub returns-in-Leaf : goal.returns-in-Leaf
returns-in-Leaf t c = leaf_means _ _ _ c.in-Leaf.is

pub returns-then-left-eq1 : goal.returns-then-left-eq1
returns-then-left-eq1 t c = odd_means _ _ _ _ c.in-Fork.is _ (search rules) c.if-left-eq1.true c.below.ensures

pub returns-else-left-eq1 : goal.returns-else-left-eq1
returns-else-left-eq1 t c = even_means _ _ _ _ c.in-Fork.is _ (search rules) c.if-left-eq1.false c.below-else-left-eq1.ensures
