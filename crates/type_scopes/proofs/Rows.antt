-- Lists in which each item has a property.
use Rattle.std.proofs.Common.{◌≡◌, ℕ, zero, suc, ◌+◌, ◌<◌, ◌≤◌, List, [], ◌∷◌, ◌++◌, length, map, take, slice_index_or, refl, sym, ◌∙◌, ap, subst, arith}
use Rattle.std.specs.List.{Contains}
use Rattle.std.proofs.Math.Seq.{take-suc}
use Rattle.type_graph.specs.Graph.{Each}

module _ {X : Type 0} (P : X → Type 0) where
  pub each_both : (xs ys : List X) → Each P xs → Each P ys → Each P (xs ++ ys)
  each_both [] ys h g = g
  each_both (x ∷ xs) ys h g = (h.0, each_both xs ys h.1 g)

  pub each_map : (Q : X → Type 0) → ((x : X) → P x → Q x) → (xs : List X) → Each P xs → Each Q xs
  each_map Q f [] h = tt
  each_map Q f (x ∷ xs) h = (f x h.0, each_map Q f xs h.1)

  pub each_at : (xs : List X) (k : ℕ) (d : X) → k < length xs → Each P xs → P (slice_index_or xs k d)
  each_at [] k d lt h = absurd (omega arith)
  each_at (x ∷ xs) zero d lt h = h.0
  each_at (x ∷ xs) (suc k) d lt h = each_at xs k d (omega arith) h.1

  pub each_one : (xs : List X) (n : X) → Each P xs → Contains xs n → P n
  each_one xs n h c = subst P c.2 (each_at xs c.0 n c.1 h)

pub take_more : {X : Type 0} (xs : List X) (n : ℕ) (d : X) → n < length xs → take n xs ++ slice_index_or xs n d ∷ [] ≡ take (n + 1) xs
take_more xs n d lt = let z : suc n ≡ n + 1 = omega arith in sym (take-suc xs n d lt) ∙ ap (λ m. take m xs) z

pub take_all : {X : Type 0} (xs : List X) (n : ℕ) → length xs ≤ n → take n xs ≡ xs
take_all [] zero h = refl
take_all [] (suc n) h = refl
take_all (x ∷ xs) zero h = absurd (omega arith)
take_all (x ∷ xs) (suc n) h = ap (λ l. x ∷ l) (take_all xs n (omega arith))

pub map_both : {X Y : Type 0} (f : X → Y) (xs ys : List X) → map f (xs ++ ys) ≡ map f xs ++ map f ys
map_both f [] ys = refl
map_both f (x ∷ xs) ys = ap (λ l. f x ∷ l) (map_both f xs ys)

pub append_none : {X : Type 0} (xs : List X) → xs ++ [] ≡ xs
append_none [] = refl
append_none (x ∷ xs) = ap (λ l. x ∷ l) (append_none xs)
