use Rattle.std.proofs.Common.{ap, length, subst, sym, ◌≡◌, ℕ}
use Rattle.std.specs.Prelude.{None}
use Rattle.sized_programs.specs.Trees.{tree_at}
use Rattle.sized_programs.proofs.Rows.{long_more, no_trees, none_more}
use Rattle.sized_programs.proofs.trees.none_made.Goals as goal

pub loop-init : goal.loop-init
loop-init c = record { long = ap length c.new-made.ensures; none = no_trees c.new-made.result c.new-made.ensures }

pub loop-preserved : goal.loop-preserved
loop-preserved c = record {
  long = long_more c.loop.counter c.loop.made c.push.new.self None c.in_ok-push.ensures.ok c.loop.invariant.long;
  none = subst (λ m. (i : ℕ) → tree_at m i ≡ None) (sym c.in_ok-push.ensures.ok) (none_more c.loop.made c.loop.invariant.none);
}
