-- A name that is numbered, and one that comes in scope.
use Rattle.std.specs.Prelude.{◌≡◌, ◌++◌, [], ◌∷◌, true, false, Result, Ok, Err}
use Rattle.fut_ast.specs.Sorts.{Text}
use Rattle.std.specs.Borrow.{Bor}
use Rattle.fut_scalar.specs.declared.place.BindId.{BindId}
use Rattle.fut_scalar.specs.declared.place.Place.{Place}
use Rattle.elab_scopes.specs.declared.refusal.Refusal.TheVariants as held
use Rattle.elab_scopes.specs.declared.refusal.Stop.{Stop}
use Rattle.elab_scopes.specs.declared.refusal.Stop.TheVariants as stop
use Rattle.elab_scopes.specs.declared.table.Names.{Names}
use Rattle.elab_scopes.specs.Scopes.{a_value}
use Rattle.elab_scopes.specs.Resolve.{has, next, with_text}
use Rattle.elab_scopes.specs.Table.{scope_of, bound_of, made_of}

pub data Numbers (x : Text) (s t : Names) : Result BindId Stop → Type 0 where
  numbers : {b : BindId} → b ≡ next (made_of s) → made_of t ≡ with_text (made_of s) x → scope_of t ≡ scope_of s → bound_of t ≡ bound_of s → Numbers x s t (Ok b)
  no_number : Numbers x s t (Err stop.Memory)

pub data Comes (x : Text) : Result BindId Stop → Names → Names → Result BindId Stop → Type 0 where
  comes : {b : BindId} {s t : Names} → scope_of t ≡ a_value x b ∷ scope_of s → made_of t ≡ made_of s → bound_of t ≡ bound_of s → Comes x (Ok b) s t (Ok b)
  comes_not : {b : Result BindId Stop} {s t : Names} → Comes x b s t (Err stop.Memory)
  comes_stopped : {e : Stop} {s t : Names} → Comes x (Err e) s t (Err e)

-- a name that the pattern at hand binds
pub data Named (x : Text) (at : Place) (s t : Names) : Result BindId Stop → Type 0 where
  named : {b : BindId} → has (bound_of s) x ≡ false → b ≡ next (made_of s) → made_of t ≡ with_text (made_of s) x → scope_of t ≡ scope_of s → bound_of t ≡ bound_of s ++ a_value x b ∷ [] → Named x at s t (Ok b)
  bound_before : {y : Bor Text} → has (bound_of s) x ≡ true → y.now ≡ x → Named x at s t (Err (stop.Refused (held.Twice y at)))
  no_name : Named x at s t (Err stop.Memory)
