-- Operations on no arrays, and their second nodes.
use Rattle.std.specs.Prelude.{◌≡◌, ℕ, ◌+◌, Bool, true, Ok}
use Rattle.fut_scalar.specs.declared.place.BindId.{BindId}
use Rattle.fut_flat.specs.declared.prim.Ref.{Ref}
use Rattle.fut_flat.specs.Terms.{Operation, Terms}
use Rattle.fut_types.specs.Types.{Sub}
use Rattle.fut_typing.specs.Names.{Names}
use Rattle.sized_types.specs.Sizes.{Sizes, no_size, size_and}
use Rattle.fut_sizes.specs.Operations.{operation, plain}
use Rattle.fut_sizes.specs.Steps.{Step, note, give, and_then}

-- where so, what the operation makes at a node is of the node's type, all of whose levels it makes unknown
pub record Holds_none (o : Operation Ref BindId) (so : Bool) : Type 0 where
  pub plain : so ≡ true → (N : Names) (types : Sub) (n at : ℕ) (es : Terms Ref BindId) (ts : Sizes) → operation N types o n at es ts ≡ Ok (plain N types n)

-- the first of these is the sized type of the node behind one
abbrev pub operand_noted : ℕ → Sizes → Step (Unit {0})
operand_noted lo no_size = give tt
operand_noted lo (size_and t ts) = and_then (note (1 + lo) t) (λ z. give tt)
