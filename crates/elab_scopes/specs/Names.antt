-- Why a name is refused.
use Rattle.fut_scalar.specs.declared.place.Place.{Place}
use Rattle.fut_ast.specs.Sorts.{Text}

-- why names are refused, and where
pub data Refusal : Type 0 where
  Unbound : Text → Place → Refusal
  Twice : Text → Place → Refusal
  -- the module that is named before it has no such member
  NoMember : Text → Place → Refusal
  -- the module that a seal or a parameter asks for has no such member
  SealMissing : Text → Place → Refusal
  -- parametric modules are applied more than 1,024 times
  TooManyApplications : Place → Refusal
  -- modules stand deeper in one another than is looked at
  TooFar : Refusal
  -- a declaration that is not built yet
  NotYet : Place → Refusal
