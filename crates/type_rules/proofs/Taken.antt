-- A test, and what it tells.
use Rattle.std.proofs.Common.{◌≡◌, Bool, true, false, IsTrue, ◌↔◌, sym, ◌∙◌}

pub taken : {P : Type 0} (b : Bool) → (IsTrue b ↔ P) → b ≡ true → P
taken b iff e = iff.0 e

pub not_taken : {P : Type 0} (b : Bool) → (IsTrue b ↔ P) → b ≡ false → P → ⊥
not_taken b iff e p = let h : false ≡ true = sym e ∙ iff.1 p in cc
