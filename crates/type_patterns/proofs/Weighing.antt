-- How large a written type is: each of its parts is smaller.
use Rattle.std.proofs.Common.{◌≡◌, ℕ, zero, suc, ◌+◌, ◌*◌, ◌≤◌, ◌<◌, List, [], ◌∷◌, length, map, slice_index_or, ap, arith}
use Rattle.fut_scalar.specs.declared.place.BindId.{BindId}
use Rattle.fut_flat.specs.declared.prim.Ref.{Ref}
use Rattle.fut_flat.specs.Terms.{Type_use, Array_type, Unique_type, Arrow_type, Tuple_type, Record_type, Type_terms, no_type, type_and}
use Rattle.fut_flat.specs.Erased.{FlatType, types}

abbrev mutual
  pub weigh : FlatType → ℕ
  weigh (Type_use r given) = 1
  weigh (Array_type s e) = 1 + weigh e
  weigh (Unique_type e) = 1 + weigh e
  weigh (Arrow_type b from to) = 1 + weigh from + weigh to
  weigh (Tuple_type es) = 1 + weigh_all es
  weigh (Record_type fs es) = 1 + weigh_all es

  pub weigh_all : Type_terms Ref BindId → ℕ
  weigh_all no_type = 0
  weigh_all (type_and e es) = weigh e + weigh_all es

weigh_in : {X : Type 0} (f : X → FlatType) (xs : List X) (n : ℕ) (d : X) → n < length xs → weigh (f (slice_index_or xs n d)) ≤ weigh_all (types (map f xs))
unfolding types
weigh_in f [] n d lt = absurd (omega arith)
weigh_in f (x ∷ xs) zero d lt = omega arith
weigh_in f (x ∷ xs) (suc n) d lt = let w = weigh_in f xs n d (omega arith) in omega (arith, w)

pub falls_in : {X : Type 0} (f : X → FlatType) (xs : List X) (n : ℕ) (d : X) (t : ℕ) → n < length xs → t ≡ 3 * weigh_all (types (map f xs)) + 1 → 3 * weigh (f (slice_index_or xs n d)) < t
falls_in f xs n d t lt is = let w = weigh_in f xs n d lt in omega (arith, w)

pub falls : (p q : FlatType) (w k t : ℕ) → p ≡ q → weigh q ≡ 1 + w → t ≡ 3 * weigh p → k ≤ 2 → 3 * w + k < t
falls p q w k t e h is le = let z : weigh p ≡ weigh q = ap (λ (x : FlatType). weigh x) e in omega (arith, z)
