-- A list from an item on.
use Rattle.std.proofs.Common.{◌≡◌, ℕ, zero, suc, ◌+◌, ◌<◌, List, [], ◌∷◌, length, drop, get_or, slice_index_or, refl, ap, ◌∙◌}
use Rattle.std.proofs.lemmas.List.{drop_more}

same_at : {A : Type 0} (xs : List A) (i : ℕ) (d : A) → get_or xs i d ≡ slice_index_or xs i d
same_at [] i d = refl
same_at (x ∷ xs) zero d = refl
same_at (x ∷ xs) (suc i) d = same_at xs i d

pub from_index : {A : Type 0} (xs : List A) (i : ℕ) (d : A) → i < length xs → drop i xs ≡ slice_index_or xs i d ∷ drop (i + 1) xs
from_index xs i d lt = drop_more xs i d lt ∙ ap (λ y. y ∷ drop (i + 1) xs) (same_at xs i d)
