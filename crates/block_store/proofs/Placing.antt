-- Places of cells: exact integers, and the words that stand for them.
use Rattle.std.proofs.Common.{◌≡◌, ℕ, zero, suc, ◌+◌, ◌-◌, ◌*◌, ◌%◌, ◌^◌, ◌<◌, ◌≤◌, List, [], ◌∷◌, drop, length, get_or, arith, refl, sym, ap, ◌∙◌, subst}
use Rattle.std.specs.Prelude.{ℤ, pos, negsuc, ◌+ℤ◌, ◌*ℤ◌, unsigned_abs}
use Rattle.std.specs.Int.{cast_unsigned}
use Rattle.std.proofs.lemmas.Int.{ints}
use Rattle.std.proofs.lemmas.List.{drop_all, drop_more}
use Rattle.std.proofs.Math.Nat.{mod-eq_of_lt, mul-add, suc-mul}
use mir.Syntax.{w64}
use mir.Val.{SFits}
use Rattle.block_store.specs.Indices.{IsIndex, Below, EachBelow, place_from}
use Rattle.block_store.specs.Walks.{moved, wrapped}

-- ---- one stride

-- the bits of a signed word
pub wraps : (s : ℤ) → SFits w64 s → cast_unsigned w64 s ≡ wrapped s
wraps (pos n) f = let l : n < 2 ^ 63 = f.sfits in sym (mod-eq_of_lt (omega (arith, l)))
wraps (negsuc n) f = let l : suc n < 2 ^ 64 = omega (arith, f.sfits) in let e : n % 2 ^ 64 ≡ n = mod-eq_of_lt (omega (arith, l)) in omega (arith, e, l)

pub plus_zero : (o s : ℤ) → o +ℤ (pos 0 *ℤ s) ≡ o
plus_zero o (pos n) = omega (arith, ints)
plus_zero o (negsuc n) = omega (arith, ints)

over : (o x p : ℕ) → p < 2 ^ 64 → o + x ≡ p → (o + x % 2 ^ 64) % 2 ^ 64 ≡ p
over o x p l e = omega arith

around : (o x y i p : ℕ) → p < 2 ^ 64 → x + y ≡ i * 2 ^ 64 → o ≡ p + y → (o + x % 2 ^ 64) % 2 ^ 64 ≡ p
around o x y i p l e q = omega arith

up_is : (o i s p : ℕ) → p < 2 ^ 64 → o + i * s ≡ p → (o + i * (s % 2 ^ 64) % 2 ^ 64) % 2 ^ 64 ≡ p
up_is o zero s p l e = let z : 0 * s ≡ 0 = omega arith in over o (0 * (s % 2 ^ 64)) p l (omega (arith, e, z))
up_is o (suc i) s p l e =
    let m = suc-mul i s in
    let small : s % 2 ^ 64 ≡ s = mod-eq_of_lt (omega (arith, m, e, l)) in
    ap (λ z. (o + suc i * z % 2 ^ 64) % 2 ^ 64) small ∙ over o (suc i * s) p l e

down_is : (o i s p : ℕ) → o < 2 ^ 64 → o ≡ p + i * suc s → (o + i * (2 ^ 64 - 1 - s % 2 ^ 64) % 2 ^ 64) % 2 ^ 64 ≡ p
down_is o zero s p l e = let z : 0 * suc s ≡ 0 = omega arith in over o (0 * (2 ^ 64 - 1 - s % 2 ^ 64)) p (omega (arith, e, z, l)) (omega (arith, e, z))
down_is o (suc i) s p l e =
    let m = suc-mul i (suc s) in
    let small : s % 2 ^ 64 ≡ s = mod-eq_of_lt (omega (arith, m, e, l)) in
    let whole : (2 ^ 64 - 1 - s) + suc s ≡ 2 ^ 64 = omega (arith, m, e, l) in
    let d = mul-add (suc i) (2 ^ 64 - 1 - s) (suc s) in
    ap (λ z. (o + suc i * (2 ^ 64 - 1 - z) % 2 ^ 64) % 2 ^ 64) small
    ∙ around o (suc i * (2 ^ 64 - 1 - s)) (suc i * suc s) (suc i) p (omega (arith, e, l)) (sym d ∙ ap (λ z. suc i * z) whole) e

-- where the exact place is a word, it is the word
pub moved_is : (o i : ℕ) (s : ℤ) (p : ℕ) → o < 2 ^ 64 → p < 2 ^ 64 → pos o +ℤ (pos i *ℤ s) ≡ pos p → moved o i (wrapped s) ≡ p
moved_is o i (pos s) p l m e = let q : o + i * s ≡ p = omega (arith, ints) in up_is o i s p m q
moved_is o i (negsuc s) p l m e = let q : o ≡ p + i * suc s = omega (arith, ints) in down_is o i s p l q

-- ---- all levels

pub no_level : (o : ℤ) (ss : List ℤ) → place_from o ss [] ≡ o
no_level o [] = refl
no_level o (s ∷ ss) = refl

-- where there is an index, the array stands at the place of one
pub stands : (n : ℕ) (o : ℤ) (ss : List ℤ) (at ns : List ℕ) → EachBelow n o ss ns → IsIndex at ns → Below o n
stands n o ss [] [] all h = subst (λ z. Below z n) (no_level o ss) (all [] tt)
stands n o ss [] (m ∷ ns) all h = absurd h
stands n o ss (i ∷ at) [] all h = absurd h
stands n o [] (i ∷ at) (m ∷ ns) all h = all (i ∷ at) h
stands n o (s ∷ ss) (i ∷ at) (m ∷ ns) all h =
    let first : 0 < m = omega (arith, h.0) in
    subst (λ z. Below z n) (plus_zero o s) (stands n (o +ℤ (pos 0 *ℤ s)) ss at ns (λ at' h'. all (0 ∷ at') (first, h')) h.1)

-- what is left of an index on the way to its place
pub record Left (n p : ℕ) (ss : List ℤ) (at : List ℕ) (whole : ℤ) : Type 0 where
  pub rest : List ℕ
  pub each : EachBelow n (pos p) ss rest
  pub index : IsIndex at rest
  pub same : place_from (pos p) ss at ≡ whole

left_step : (n p q i : ℕ) (s : ℤ) (ss : List ℤ) (at : List ℕ) (whole : ℤ) → n < 2 ^ 64 → q ≡ moved p i (wrapped s) → Left n p (s ∷ ss) (i ∷ at) whole → Left n q ss at whole
left_step n p q i s ss at whole l e h = go h.rest h.each h.index h.same
  where
    go : (ns : List ℕ) → EachBelow n (pos p) (s ∷ ss) ns → IsIndex (i ∷ at) ns → place_from (pos p +ℤ (pos i *ℤ s)) ss at ≡ whole → Left n q ss at whole
    go [] each index same = absurd index
    go (m ∷ ns) each index same =
        let here = stands n (pos p) (s ∷ ss) (i ∷ at) (m ∷ ns) each index in
        let from : p < 2 ^ 64 = let k : p ≡ here.number = (let z = here.is in cc) in omega (arith, here.below, k, l) in
        let next : EachBelow n (pos p +ℤ (pos i *ℤ s)) ss ns = λ at' h'. each (i ∷ at') (index.0, h') in
        let b = stands n (pos p +ℤ (pos i *ℤ s)) ss at ns next index.1 in
        let is : q ≡ b.number = e ∙ moved_is p i s b.number from (omega (arith, b.below, l)) b.is in
        let z : pos p +ℤ (pos i *ℤ s) ≡ pos q = b.is ∙ ap pos (sym is) in
        record {
          rest = ns;
          each = subst (λ w. EachBelow n w ss ns) z next;
          index = index.1;
          same = subst (λ w. place_from w ss at ≡ whole) z same;
        }

pub left_more : (n p q k step : ℕ) (ss : List ℤ) (at : List ℕ) (whole : ℤ) → n < 2 ^ 64 → k < length at → k < length ss → step ≡ wrapped (get_or ss k (pos 0)) → q ≡ moved p (get_or at k 0) step → Left n p (drop k ss) (drop k at) whole → Left n q (drop (k + 1) ss) (drop (k + 1) at) whole
left_more n p q k step ss at whole l la ls es e h =
    left_step n p q (get_or at k 0) (get_or ss k (pos 0)) (drop (k + 1) ss) (drop (k + 1) at) whole l (e ∙ ap (moved p (get_or at k 0)) es)
    (subst (λ (z : List ℤ). Left n p z (get_or at k 0 ∷ drop (k + 1) at) whole) (drop_more ss k (pos 0) ls)
    (subst (λ (z : List ℕ). Left n p (drop k ss) z whole) (drop_more at k 0 la) h))

pub left_end : (n p k : ℕ) (ss : List ℤ) (at : List ℕ) (whole : ℤ) → length at ≤ k → Left n p (drop k ss) (drop k at) whole → pos p ≡ whole
left_end n p k ss at whole l h = sym (no_level (pos p) (drop k ss)) ∙ ap (place_from (pos p) (drop k ss)) (sym (drop_all k at l)) ∙ h.same

-- a place below n
pub bounded : (n p : ℕ) (z : ℤ) → pos p ≡ z → Below z n → p < n
bounded n p z e b = let i = b.is in let k : p ≡ b.number = cc in omega (arith, b.below, k)

pub index_long : (at ns : List ℕ) → IsIndex at ns → length at ≡ length ns
index_long [] [] h = refl
index_long [] (n ∷ ns) h = absurd h
index_long (i ∷ at) [] h = absurd h
index_long (i ∷ at) (n ∷ ns) h = ap suc (index_long at ns h.1)

-- the place of an index is one of the block's
pub place_in : (n o p : ℕ) (ss seen : List ℤ) (at ns : List ℕ) → n < 2 ^ 63 → seen ≡ ss → EachBelow n (pos o) ss ns → IsIndex at ns → ((n : ℕ) (ns : List ℕ) → n < 2 ^ 64 → EachBelow n (pos o) seen ns → IsIndex at ns → pos p ≡ place_from (pos o) seen at) → (p < n) × (p ≡ unsigned_abs (place_from (pos o) ss at))
place_in n o p ss seen at ns l e each index f =
    let each' : EachBelow n (pos o) seen ns = subst (λ z. EachBelow n (pos o) z ns) (sym e) each in
    let r : pos p ≡ place_from (pos o) ss at = f n ns (omega (arith, l)) each' index ∙ ap (λ z. place_from (pos o) z at) e in
    (bounded n p (place_from (pos o) ss at) r (each at index), ap unsigned_abs r)
