-- How many parts the operations of an expression have.
use Rattle.std.specs.Prelude.{◌≡◌, ℕ, true, false}
use Rattle.fut_scalar.specs.declared.place.BindId.{BindId}
use Rattle.fut_flat.specs.declared.prim.Ref.{Ref}
use Rattle.fut_flat.specs.Terms.{Operation, Integer, Truth, Binary, Negate, Complement, Project, Replace, Ascribe, Coerce, Declared, Assert, Range}

-- those that are not named may have any number, as far as this goes
abbrev pub Works_on : Operation Ref BindId → ℕ → Type 0
Works_on (Integer n t) count = count ≡ 0
Works_on (Truth b) count = count ≡ 0
Works_on Negate count = count ≡ 1
Works_on Complement count = count ≡ 1
Works_on (Project f) count = count ≡ 1
Works_on (Ascribe e) count = count ≡ 1
Works_on (Coerce e) count = count ≡ 1
Works_on (Declared e) count = count ≡ 1
Works_on Assert count = count ≡ 1
Works_on (Binary o) count = count ≡ 2
Works_on (Replace f) count = count ≡ 2
Works_on (Range true end) count = count ≡ 3
Works_on (Range false end) count = count ≡ 2
Works_on o count = Unit {0}
