-- The last row of several.
use Rattle.std.specs.Prelude.{◌≡◌, ◌++◌, List, [], ◌∷◌}

-- the second list has one row, and the first ends in it
abbrev pub Ends_in : {A : Type 0} → List A → List A → Type 0
Ends_in {A} us zs = (uf : List A) × (z : A) × (us ≡ uf ++ z ∷ []) × (zs ≡ z ∷ [])
