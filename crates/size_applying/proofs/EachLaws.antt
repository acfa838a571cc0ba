-- Two lists whose items stand in a relation.
use Rattle.std.proofs.Common.{◌≡◌, ℕ, zero, suc, ◌<◌, ◌≤◌, List, [], ◌∷◌, ◌++◌, length, get_or, drop, refl, ap, subst, arith}
use Rattle.size_applying.specs.Wanted.{Each, none_each, one_each}

module _ {A B : Type 0} (R : A → B → Type 0) where
  pub each_more : {xs : List A} {ys : List B} → Each R xs ys → (x : A) (y : B) → R x y → Each R (xs ++ x ∷ []) (ys ++ y ∷ [])
  each_more none_each x y r = one_each r none_each
  each_more (one_each z zs) x y r = one_each z (each_more zs x y r)

  pub each_length : {xs : List A} {ys : List B} → Each R xs ys → length ys ≡ length xs
  each_length none_each = refl
  each_length (one_each z zs) = ap suc (each_length zs)

  -- the first of the one list has one in the other
  pub record First (x : A) (xs : List A) (ys : List B) : Type 0 where
    pub first : B
    pub behind : List B
    pub is : ys ≡ first ∷ behind
    pub related : R x first
    pub others : Each R xs behind

  first_by : (x : A) (xs : List A) {ys : List B} → Each R (x ∷ xs) ys → First x xs ys
  first_by x xs (one_each {y = y} {ys = ys} z zs) = record { first = y; behind = ys; is = refl; related = z; others = zs }

  pub each_first : (left : List A) (ys : List B) (x : A) (xs : List A) → left ≡ x ∷ xs → Each R left ys → First x xs ys
  each_first left ys x xs is all = first_by x xs (subst (λ z. Each R z ys) is all)

  none_by : {ys : List B} → Each R [] ys → ys ≡ []
  none_by none_each = refl

  pub each_none : (left : List A) (ys : List B) → left ≡ [] → Each R left ys → ys ≡ []
  each_none left ys is all = none_by (subst (λ z. Each R z ys) is all)

  -- the item at a place, and those behind it
  pub record At_place (xs : List A) (ys : List B) (i : ℕ) (x : A) : Type 0 where
    pub one : B
    pub related : R (get_or xs i x) one
    pub behind : drop i ys ≡ one ∷ drop (suc i) ys

  pub each_at : {xs : List A} {ys : List B} → Each R xs ys → (i : ℕ) → i < length xs → (x : A) → At_place xs ys i x
  each_at none_each i l x = absurd (omega arith)
  each_at (one_each {y = y} z zs) zero l x = record { one = y; related = z; behind = refl }
  each_at (one_each z zs) (suc i) l x = let at = each_at zs i (omega arith) x in record { one = at.one; related = at.related; behind = at.behind }

  pub each_end : {xs : List A} {ys : List B} → Each R xs ys → (i : ℕ) → length xs ≤ i → drop i ys ≡ []
  each_end none_each zero l = refl
  each_end none_each (suc i) l = refl
  each_end (one_each z zs) zero l = absurd (omega arith)
  each_end (one_each z zs) (suc i) l = each_end zs i (omega arith)
