use Rattle.std.proofs.Common.{rules}
use Rattle.elab_scopes.proofs.Trees.{if_ok, puts_leaf, puts_here, puts_odd, puts_even}
use Rattle.elab_scopes.proofs.tree.+put.Goals as goal

pub returns-then-eq : goal.returns-then-eq
returns-then-eq t c = if_ok _ (puts_here _ _ _ _ _ c.in-Fork.is (search rules)) c.forked-then-eq.ensures

pub returns-in-Leaf : goal.returns-in-Leaf
returns-in-Leaf t c = if_ok _ (puts_leaf _ _ _ _ c.in-Leaf.is) c.forked.ensures

pub returns-in-Ok : goal.returns-in-Ok
returns-in-Ok t c = if_ok _ (puts_odd _ _ _ _ _ c.in-Fork.is _ (search rules) c.if-left-eq1.true c.in-Ok.ensures) c.forked-in-Ok.ensures

pub returns-in-Ok-put : goal.returns-in-Ok-put
returns-in-Ok-put t c = if_ok _ (puts_even _ _ _ _ _ c.in-Fork.is _ (search rules) c.if-left-eq1.false c.in-Ok-put.ensures) c.forked-in-Ok-put.ensures
