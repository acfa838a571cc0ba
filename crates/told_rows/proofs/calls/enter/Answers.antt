use Rattle.std.proofs.Common.{refl, ◌≡◌, Option}
use Rattle.fut_meaning.specs.Found.{Sizing}
use Rattle.size_arena.specs.Trees.{size_of}
use Rattle.unfold.specs.Held.{known_of, scope_of}
use Rattle.unfold.specs.Telling.{enter}
use Rattle.told_rows.proofs.CallForms.{told_some, told_none, entered_as}
use Rattle.told_rows.proofs.calls.enter.Goals as goal

pub returns-in_default : goal.returns-in_default
returns-in_default c = λ Z w. told_none (λ (Y : Option Sizing). scope_of c.args.scope ≡ enter Y c.args.node (known_of c.args.known.now) (scope_of c.args.scope)) c.args.sizes Z c.in_default.is w refl

pub returns-in-Ok : goal.returns-in-Ok
returns-in-Ok c = λ Z w. told_some (λ (Y : Option Sizing). scope_of (record { names = c.args.scope.names; entered = record { ref_ptr = (0, 0); now = c.in-Ok.entered.now } }) ≡ enter Y c.args.node (known_of c.args.known.now) (scope_of c.args.scope)) c.args.sizes c.in-Some.sizes Z c.in-Some.is w
    (λ Y v. entered_as c.in-Some.sizes.now Y v c.args.node c.args.known.now (size_of c.in_ok-tree.tree.now) c.in_ok-told.told c.args.scope (record { names = c.args.scope.names; entered = record { ref_ptr = (0, 0); now = c.in-Ok.entered.now } }) c.in_ok-tree.ensures (c.in_ok-told.ensures Y v) refl c.in-Ok.ensures)
