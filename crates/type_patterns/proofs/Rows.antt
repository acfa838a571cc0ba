-- Types in a row, at nodes in a row.
use Rattle.std.proofs.Common.{◌≡◌, ℕ, zero, suc, ◌+◌, ◌≤◌, ◌<◌, List, [], ◌∷◌, ◌++◌, length, map, take, slice_index_or, refl, sym, ◌∙◌, ap, subst, arith, append_assoc}
use Rattle.std.proofs.Math.Seq.{take-suc}
use Rattle.fut_types.specs.declared.Kind.{Kind}
use Rattle.fut_types.specs.Types.{Ty, Var, Tys, none, more, Sub, Kinds, row}
use Rattle.fut_flat.specs.Erased.{FlatType, types}
use Rattle.fut_typing.specs.Names.{Names}
use Rattle.fut_typing.specs.Scopes.{Scope, Denotes, All_denote}
use Rattle.fut_typing.specs.Homes.{scope_of}
use Rattle.type_graph.specs.Graph.{Each, numbers}
use Rattle.type_graph.specs.Claims.{types_of}
use Rattle.type_scopes.specs.declared.Inference.{Inference}
use Rattle.type_scopes.specs.Scopes.{Safe}
use Rattle.type_patterns.specs.Asking.{Asked, Unasked, Type_claim, Types_claim}
use Rattle.type_patterns.proofs.Asking.{asked_none, asked_then, unasked_then}

-- the types of nodes in a row
pub types_row : (a : Sub) (first n : ℕ) → types_of a (numbers first n) ≡ row a first n
unfolding types_of numbers
types_row a first zero = refl
types_row a first (suc n) = ap (more (a first)) (types_row a (suc first) n)

unfoldable pub pick : Tys → ℕ → Ty
pick none k = Var 0
pick (more t ts) zero = t
pick (more t ts) (suc k) = pick ts k

module _ (N : Names) (places : Kind) (K : Kinds) (a : Sub) (scope : Scope) where
  pub row_picked : (es : List FlatType) (ts : Tys) (full : Sub) (first : ℕ) → All_denote N places K a (types es) scope ts → ((k : ℕ) → k < length es → full (first + k) ≡ pick ts k) → row full first (length es) ≡ ts
  unfolding types pick
  row_picked [] none full first d h = refl
  row_picked [] (more t ts) full first d h = absurd d
  row_picked (e ∷ es) none full first d h = absurd d
  row_picked (e ∷ es) (more t ts) full first d h =
      let here : full first ≡ t = subst (λ m. full m ≡ t) (let z : first + 0 ≡ first = omega arith in z) (h 0 (omega arith)) in
      let rest : row full (suc first) (length es) ≡ ts = row_picked es ts full (suc first) d.1 (λ k lt. subst (λ m. full m ≡ pick ts k) (let z : first + suc k ≡ suc first + k = omega arith in z) (h (suc k) (omega arith))) in
      λ j. more (here j) (rest j)

  -- a row, split at one
  denote_split : (es : List FlatType) (e : FlatType) (rs : List FlatType) (first : ℕ) → All_denote N places K a (types (es ++ e ∷ rs)) scope (row a first (length (es ++ e ∷ rs))) → All_denote N places K a (types es) scope (row a first (length es)) × Denotes N places K a e scope (a (first + length es))
  unfolding types
  denote_split [] e rs first d = (tt, subst (λ m. Denotes N places K a e scope (a m)) (let z : first ≡ first + 0 = omega arith in z) d.0)
  denote_split (f ∷ es) e rs first d = let w = denote_split es e rs (suc first) d.1 in
      ((d.0, w.0), subst (λ m. Denotes N places K a e scope (a m)) (let z : suc first + length es ≡ first + suc (length es) = omega arith in z) w.1)

  denote_join : (es : List FlatType) (e : FlatType) (first : ℕ) → All_denote N places K a (types es) scope (row a first (length es)) → Denotes N places K a e scope (a (first + length es)) → All_denote N places K a (types (es ++ e ∷ [])) scope (row a first (length (es ++ e ∷ [])))
  unfolding types
  denote_join [] e first d h = (subst (λ m. Denotes N places K a e scope (a m)) (let z : first + 0 ≡ first = omega arith in z) h, tt)
  denote_join (f ∷ es) e first d h = (d.0, denote_join es e (suc first) d.1 (subst (λ m. Denotes N places K a e scope (a m)) (let z : first + suc (length es) ≡ suc first + length es = omega arith in z) h))

numbers_more : (es : List FlatType) (e : FlatType) (first : ℕ) → numbers first (length (es ++ e ∷ [])) ≡ numbers first (length es) ++ (first + length es) ∷ []
unfolding numbers
numbers_more [] e first = λ k. (let z : first ≡ first + 0 = omega arith in z k) ∷ []
numbers_more (f ∷ es) e first = ap (λ l. first ∷ l) (numbers_more es e (suc first) ∙ (λ k. numbers (suc first) (length es) ++ (let z : suc first + length es ≡ first + suc (length es) = omega arith in z k) ∷ []))

append_none : (xs : List ℕ) → xs ++ [] ≡ xs
append_none [] = refl
append_none (x ∷ xs) = ap (λ l. x ∷ l) (append_none xs)

long_more : (es : List FlatType) (e : FlatType) → length (es ++ e ∷ []) ≡ length es + 1
long_more [] e = refl
long_more (f ∷ es) e = let z = long_more es e in omega (arith, z)

-- how far a row is gone over
pub record Row_asked (places : Kind) (base first at : ℕ) (es : List FlatType) (row row' : List ℕ) (i i' : Inference) : Type 0 where
  pub next : at ≡ first + length es
  pub noted : row' ≡ row ++ numbers first (length es)
  pub safe : Safe base i'
  pub asked : Asked places base (Types_claim places es first) i i'

pub row_none : (places : Kind) (base first : ℕ) (row : List ℕ) (i : Inference) → Safe base i → Row_asked places base first first [] row row i i
unfolding types numbers
row_none places base first row i s = record { next = omega arith; noted = sym (append_none row); safe = s; asked = asked_none places base (Types_claim places [] first) i s (λ N E K a. tt) }

module _ (places : Kind) (base first at : ℕ) (es : List FlatType) (e : FlatType) (row0 row1 : List ℕ) (i0 i1 i2 : Inference) (s : Safe base i0) (g : Row_asked places base first at es row0 row1 i0 i1) where
  pub row_more : (next : ℕ) (row2 : List ℕ) → row2 ≡ row1 ++ at ∷ [] → next ≡ at + 1 → Asked places base (Type_claim places e at) i1 i2 → Row_asked places base first next (es ++ e ∷ []) row0 row2 i0 i2
  row_more next row2 er en c = let z : length (es ++ e ∷ []) ≡ length es + 1 = long_more es e in let ga : at ≡ first + length es = g.next in record {
    next = omega (arith, z, en, ga);
    noted = er ∙ ap (λ l. l ++ at ∷ []) g.noted ∙ append_assoc row0 (numbers first (length es)) (at ∷ []) ∙ ap (λ l. row0 ++ l) ((λ k. numbers first (length es) ++ g.next k ∷ []) ∙ sym (numbers_more es e first));
    safe = c.later.safe;
    asked = asked_then places base (Types_claim places es first) (Type_claim places e (first + length es)) (Types_claim places (es ++ e ∷ []) first) i0 i1 i2 s (λ N E K a h. denote_split N places K a (scope_of N places E) es e [] first h) g.asked (λ N E K a p q. denote_join N places K a (scope_of N places E) es e first p q)
        (subst (λ m. Asked places base (Type_claim places e m) i1 i2) g.next c);
  }

  pub row_refused : (all rest : List FlatType) → all ≡ es ++ e ∷ rest → Unasked places base (Type_claim places e at) i1 i2 → Unasked places base (Types_claim places all first) i0 i2
  row_refused all rest ea c = subst (λ l. Unasked places base (Types_claim places l first) i0 i2) (sym ea)
      (unasked_then places base (Types_claim places es first) (Type_claim places e (first + length es)) (Types_claim places (es ++ e ∷ rest) first) i0 i1 i2 s (λ N E K a h. denote_split N places K a (scope_of N places E) es e rest first h) g.asked
      (subst (λ m. Unasked places base (Type_claim places e m) i1 i2) g.next c))

-- of the items of a row
module _ {X Y : Type 0} (f : X → Y) where
  pub long_taken : (xs : List X) (n : ℕ) → n ≤ length xs → length (map f (take n xs)) ≡ n
  long_taken xs zero h = refl
  long_taken [] (suc n) h = absurd (omega arith)
  long_taken (x ∷ xs) (suc n) h = ap suc (long_taken xs n (omega arith))

  pub long_map : (xs : List X) → length (map f xs) ≡ length xs
  long_map [] = refl
  long_map (x ∷ xs) = ap suc (long_map xs)

  pub map_next : (xs : List X) (n : ℕ) (d : X) → n < length xs → map f (take n xs) ++ f (slice_index_or xs n d) ∷ [] ≡ map f (take (n + 1) xs)
  map_next xs n d lt = let z : suc n ≡ n + 1 = omega arith in sym (map_both (take n xs) (slice_index_or xs n d ∷ [])) ∙ ap (map f) (sym (take-suc xs n d lt) ∙ ap (λ m. take m xs) z)
    where
      map_both : (us vs : List X) → map f (us ++ vs) ≡ map f us ++ map f vs
      map_both [] vs = refl
      map_both (u ∷ us) vs = ap (λ l. f u ∷ l) (map_both us vs)

  pub split_at : (xs : List X) (n : ℕ) (d : X) → n < length xs → (rest : List Y) × (map f xs ≡ map f (take n xs) ++ f (slice_index_or xs n d) ∷ rest)
  split_at [] n d lt = absurd (omega arith)
  split_at (x ∷ xs) zero d lt = (map f xs, refl)
  split_at (x ∷ xs) (suc n) d lt = let w = split_at xs n d (omega arith) in (w.0, ap (λ l. f x ∷ l) w.1)

pub each_number : (n first base : ℕ) → first + n ≤ base → Each (λ p. p < base) (numbers first n)
unfolding numbers
each_number zero first base h = tt
each_number (suc n) first base h = (omega arith, each_number n (suc first) base (omega arith))

pub take_all : {X : Type 0} (xs : List X) (n : ℕ) → length xs ≤ n → take n xs ≡ xs
take_all [] zero h = refl
take_all [] (suc n) h = refl
take_all (x ∷ xs) zero h = absurd (omega arith)
take_all (x ∷ xs) (suc n) h = ap (λ l. x ∷ l) (take_all xs n (omega arith))

pub room_at : {X : Type 0} (f : X → FlatType) (xs : List X) (n at first base : ℕ) → n < length xs → at ≡ first + length (map f (take n xs)) → first + length xs ≤ base → at < base
room_at f xs n at first base lt is h = let z : length (map f (take n xs)) ≡ n = long_taken f xs n (omega arith) in omega (arith, z)
