-- What a loop makes of a list, item by item.
use Rattle.std.proofs.Common.{◌≡◌, ◌≤◌, ◌<◌, ◌+◌, ◌++◌, ℕ, List, [], ◌∷◌, length, map, take, get_or, sym, ap, ◌∙◌, arith}
use Rattle.std.proofs.Math.Numerals.{suc-eq-add-one}
use Rattle.std.proofs.Math.Seq.{take-suc, take-length}
use Rattle.std.proofs.lemmas.List.{map-append}

-- the items so far and one more
pub so_many : {B : Type 0} (parts : List B) (i : ℕ) (y : B) → i < length parts → y ≡ get_or parts i y → take i parts ++ y ∷ [] ≡ take (i + 1) parts
so_many parts i y lt is = ap (λ z. take i parts ++ z ∷ []) is ∙ sym (take-suc parts i y lt) ∙ ap (λ (k : ℕ). take k parts) (suc-eq-add-one i)

-- all of them
pub so_all : {B : Type 0} (parts : List B) (i : ℕ) → length parts ≤ i → i ≤ length parts → take i parts ≡ parts
so_all parts i ge le = let same : i ≡ length parts = omega (arith, ge, le) in ap (λ (k : ℕ). take k parts) same ∙ take-length parts

module _ {B C D : Type 0} (f : C → D) (g : B → C) (parts : List B) (i : ℕ) where
  pub one_more : (old new : List D) (y : B) → i < length parts → old ≡ map f (map g (take i parts)) → y ≡ get_or parts i y → new ≡ old ++ f (g y) ∷ [] → new ≡ map f (map g (take (i + 1) parts))
  one_more old new y lt so_far is so =
      let done : List B = take i parts in
      so ∙ ap (λ (zs : List D). zs ++ f (g y) ∷ []) so_far
      ∙ sym (map-append f (map g done) (g y ∷ [])) ∙ sym (ap (λ (zs : List C). map f zs) (map-append g done (y ∷ []))) ∙ ap (λ (zs : List B). map f (map g zs)) (so_many parts i y lt is)

  pub all_made : (made : List D) → length parts ≤ i → i ≤ length parts → made ≡ map f (map g (take i parts)) → made ≡ map f (map g parts)
  all_made made ge le so_far = so_far ∙ ap (λ (zs : List B). map f (map g zs)) (so_all parts i ge le)
