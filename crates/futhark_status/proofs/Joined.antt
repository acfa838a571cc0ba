-- The parts of a line, one after another.
use Rattle.std.proofs.Common.{◌≡◌, ◌++◌, ℕ, List, [], ◌∷◌, refl, ap, map}
use Rattle.std.specs.Prelude.{flat_map}
use Rattle.futhark_status.specs.Status.{joined}

pub joined_map : {A : Type 0} (f : A → List ℕ) (xs : List A) → joined (map f xs) ≡ flat_map f xs
unfolding joined
joined_map f [] = refl
joined_map f (x ∷ xs) = ap (λ rest. f x ++ rest) (joined_map f xs)
