use Rattle.std.proofs.Common.{◌≡◌, Option, Some, None, refl}
use Rattle.fut_meaning.specs.Found.{Sizing}
use Rattle.size_arena.specs.Trees.{size_of}
use Rattle.unfold.specs.Held.{scope_of}
use Rattle.unfold.specs.Telling.{test_at}
use Rattle.told_rows.specs.Calls.{maybe_test}
use Rattle.told_rows.proofs.CallForms.{told_some, told_none, test_as}
use Rattle.told_rows.proofs.calls.test_at.Goals as goal

pub returns-in_default : goal.returns-in_default
returns-in_default c = λ Z w. told_none (λ (Y : Option Sizing). maybe_test None ≡ test_at Y (scope_of c.args.scope) c.args.node) c.args.sizes Z c.in_default.is w refl

pub returns : goal.returns
returns c = λ Z w. told_some (λ (Y : Option Sizing). maybe_test (Some c.in_ok-wanted.wanted) ≡ test_at Y (scope_of c.args.scope) c.args.node) c.args.sizes c.in-Some.sizes Z c.in-Some.is w
    (λ Y v. test_as c.in-Some.sizes.now Y v c.args.scope c.args.node (size_of c.in_ok-tree.tree.now) c.in_ok-wanted.wanted c.in_ok-tree.ensures (c.in_ok-wanted.ensures Y v))
