use Rattle.std.proofs.Common.{◌≡◌, Option, Some, None, refl, sym, ◌∙◌}
use Rattle.fut_meaning.specs.Found.{Sizing}
use Rattle.unfold.specs.Held.{scope_of}
use Rattle.unfold.specs.Telling.{size_used}
use Rattle.told_rows.specs.Calls.{maybe_extent}
use Rattle.told_rows.proofs.CallForms.{told_some, told_none, used_as, unused_as}
use Rattle.told_rows.proofs.calls.size_used.Goals as goal

pub returns-in_default : goal.returns-in_default
returns-in_default c = λ Z w. told_none (λ (Y : Option Sizing). maybe_extent None ≡ size_used Y (scope_of c.args.scope) c.args.number) c.args.sizes Z c.in_default.is w refl

pub returns-then-not-is_size : goal.returns-then-not-is_size
returns-then-not-is_size c = λ Z w. told_some (λ (Y : Option Sizing). maybe_extent None ≡ size_used Y (scope_of c.args.scope) c.args.number) c.args.sizes c.in-Some.sizes Z c.in-Some.is w
    (λ Y v. unused_as c.in-Some.sizes.now Y v c.args.scope c.args.number (sym c.if-not-is_size.true ∙ c.is_size.ensures))

pub returns : goal.returns
returns c = λ Z w. told_some (λ (Y : Option Sizing). maybe_extent (Some c.in_ok-many.many) ≡ size_used Y (scope_of c.args.scope) c.args.number) c.args.sizes c.in-Some.sizes Z c.in-Some.is w
    (λ Y v. used_as c.in-Some.sizes.now Y v c.args.scope c.args.number c.in_ok-many.many (sym c.if-not-is_size.false ∙ c.is_size.ensures) (c.in_ok-many.ensures Y v))
