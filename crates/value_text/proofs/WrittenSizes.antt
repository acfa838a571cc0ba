-- The dimensions that an empty array is written with, one after the other.
use Rattle.std.proofs.Common.{◌≡◌, ◌+◌, ◌-◌, ◌*◌, ◌^◌, ◌<◌, ◌≤◌, ℕ, zero, suc, List, [], ◌∷◌, ◌++◌, length, length-drop, take, drop, arith, refl, sym, ap, ◌∙◌, subst, append_assoc, append-nil, lt-ltb, ltb-true, ltb-false}
use Rattle.std.specs.Prelude.{Bool, true, false, cond, min, nat_lt, ◌==◌, Option, Some, None, Ok, Err}
use Rattle.std.proofs.lemmas.List.{map-append}
use Rattle.std.proofs.Math.Nat.{min-eq_left, min-eq_right}
use Rattle.value_text.specs.Empties.{and_behind, digit_len, dimension, mark, size}
use Rattle.value_text.specs.Gaps.{begins_with, gap_at}
use Rattle.value_text.specs.Numbers.{digit_of, number_on, radix, value_on}
use Rattle.value_text.specs.Written.{Dimension, beyond_at, digits_from, dimension_from, dimensions_in, first_beyond, if_dimension, size_at, size_limit, sizes_of, with_dimension, written}
use Rattle.value_text.specs.declared.numbers.Base.{Base}
use Rattle.value_text.specs.declared.numbers.Base.TheVariants.{Decimal}
use Rattle.value_text.proofs.Texts.{grows}

-- ---- a size

-- digits that reach 2^64 stand for no less
module _ (base : Base) where
  pub number_found : (n at : ℕ) (cs : List ℕ) (v : ℕ) → number_on base n at cs ≡ Ok v → v ≡ value_on base n cs
  number_found n at [] v h = cc
  number_found n at (c ∷ cs) v h = by_test (c == 95) (radix base * n + digit_of c) (number_found n (at + 1) cs v) (number_found (radix base * n + digit_of c) (at + 1) cs v) h
    where
      by_limit : (t : Bool) (next : ℕ) → (number_on base next (at + 1) cs ≡ Ok v → v ≡ value_on base next cs) → cond t (number_on base next (at + 1) cs) (Err at) ≡ Ok v → v ≡ value_on base next cs
      by_limit true next f k = f k
      by_limit false next f k = absurd cc

      by_test : (t : Bool) (next : ℕ) → (number_on base n (at + 1) cs ≡ Ok v → v ≡ value_on base n cs) → (number_on base next (at + 1) cs ≡ Ok v → v ≡ value_on base next cs)
          → cond t (number_on base n (at + 1) cs) (cond (nat_lt next (2 ^ 64)) (number_on base next (at + 1) cs) (Err at)) ≡ Ok v → v ≡ cond t (value_on base n cs) (value_on base next cs)
      by_test true next f g k = f k
      by_test false next f g k = by_limit (nat_lt next (2 ^ 64)) next g k

  pub number_great : (n at : ℕ) (cs : List ℕ) (place : ℕ) → number_on base n at cs ≡ Err place → 2 ^ 64 ≤ value_on base n cs
  number_great n at [] place h = absurd cc
  number_great n at (c ∷ cs) place h = by_test (c == 95) (radix base * n + digit_of c) (number_great n (at + 1) cs place) (number_great (radix base * n + digit_of c) (at + 1) cs place) (grows base (radix base * n + digit_of c) cs) h
    where
      by_limit : (t : Bool) (next : ℕ) → nat_lt next (2 ^ 64) ≡ t → (number_on base next (at + 1) cs ≡ Err place → 2 ^ 64 ≤ value_on base next cs) → next ≤ value_on base next cs → cond t (number_on base next (at + 1) cs) (Err at) ≡ Err place → 2 ^ 64 ≤ value_on base next cs
      by_limit true next e f g k = f k
      by_limit false next e f g k = let l = ltb-false next (2 ^ 64) e in omega (arith, l, g)

      by_test : (t : Bool) (next : ℕ) → (number_on base n (at + 1) cs ≡ Err place → 2 ^ 64 ≤ value_on base n cs) → (number_on base next (at + 1) cs ≡ Err place → 2 ^ 64 ≤ value_on base next cs) → next ≤ value_on base next cs
          → cond t (number_on base n (at + 1) cs) (cond (nat_lt next (2 ^ 64)) (number_on base next (at + 1) cs) (Err at)) ≡ Err place → 2 ^ 64 ≤ cond t (value_on base n cs) (value_on base next cs)
      by_test true next f g l k = f k
      by_test false next f g l k = by_limit (nat_lt next (2 ^ 64)) next refl g l k

pub size_found : (bytes digits : List ℕ) (v size : ℕ) → digits ≡ take (digit_len bytes) bytes → Ok v ≡ number_on Decimal 0 0 digits → size ≡ min v (2 ^ 63) → size ≡ size_at bytes
unfolding size_at
size_found bytes digits v size d h e = e ∙ ap (λ n. min n size_limit) (number_found Decimal 0 0 digits v (sym h) ∙ ap (value_on Decimal 0) d)

pub size_great : (bytes digits : List ℕ) (place : ℕ) → digits ≡ take (digit_len bytes) bytes → Err place ≡ number_on Decimal 0 0 digits → 2 ^ 63 ≡ size_at bytes
unfolding size_at
size_great bytes digits place d h =
    let great = subst (λ ds. 2 ^ 64 ≤ value_on Decimal 0 ds) d (number_great Decimal 0 0 digits place (sym h)) in
    omega (arith, great)

pub ruleset sizes = (size_found, size_great)

-- ---- dimensions

first_more : (ds : List Dimension) (d : Dimension) → first_beyond (ds ++ d ∷ []) ≡ beyond_at (first_beyond ds) d.size d.from
first_more [] d = refl
first_more (e ∷ ds) d = by_test (nat_lt e.size size_limit) (first_more ds d)
  where
    by_test : (t : Bool) → first_beyond (ds ++ d ∷ []) ≡ beyond_at (first_beyond ds) d.size d.from → cond t (first_beyond (ds ++ d ∷ [])) (Some e.from) ≡ beyond_at (cond t (first_beyond ds) (Some e.from)) d.size d.from
    by_test true h = h
    by_test false h = refl

-- dimensions that are read, and what is left
pub record Going (bytes : List ℕ) (old sizes : List ℕ) (beyond : Option ℕ) (left offset : ℕ) (rest : List ℕ) : Type 0 where
  pub so_far : List Dimension
  pub sizes_are : sizes ≡ old ++ sizes_of so_far
  pub beyond_is : beyond ≡ first_beyond so_far
  pub all : so_far ++ (dimensions_in left offset rest).all ≡ (written bytes).all
  pub end : (dimensions_in left offset rest).end ≡ (written bytes).end

pub begins : (bytes old : List ℕ) (left : ℕ) → left ≡ length bytes → Going bytes old old None left 0 bytes
unfolding written
begins bytes old left e = record {
  so_far = [];
  sizes_are = sym (append-nil old);
  beyond_is = refl;
  all = ap (λ n. (dimensions_in n 0 bytes).all) e;
  end = ap (λ n. (dimensions_in n 0 bytes).end) e;
}

pub record Found (bytes : List ℕ) (old sizes : List ℕ) (beyond : Option ℕ) (end : ℕ) : Type 0 where
  pub sizes_are : sizes ≡ old ++ sizes_of (written bytes).all
  pub beyond_is : beyond ≡ first_beyond (written bytes).all
  pub end_is : end ≡ (written bytes).end

module _ (bytes old sizes : List ℕ) (beyond : Option ℕ) (left offset : ℕ) (rest : List ℕ) (g : Going bytes old sizes beyond left offset rest) where
  found_by : (dimensions_in left offset rest) ≡ record { all = []; end = offset } → Found bytes old sizes beyond offset
  found_by e =
      let all : g.so_far ≡ (written bytes).all = sym (append-nil g.so_far) ∙ ap (λ d. g.so_far ++ d.all) (sym e) ∙ g.all in
      record {
        sizes_are = g.sizes_are ∙ ap (λ ds. old ++ sizes_of ds) all;
        beyond_is = g.beyond_is ∙ ap first_beyond all;
        end_is = ap (λ d. d.end) (sym e) ∙ g.end;
      }

  pub no_fuel : left ≡ 0 → Found bytes old sizes beyond offset
  no_fuel z = found_by (ap (λ n. dimensions_in n offset rest) z)

  none_here : (n : ℕ) (at : ℕ) → left ≡ n → Err at ≡ dimension rest → dimensions_in n offset rest ≡ record { all = []; end = offset }
  none_here zero at e h = refl
  none_here (suc n) at e h = ap (λ r. if_dimension offset r (λ k. with_dimension (dimension_from offset rest) (dimensions_in n (offset + k) (drop k rest)))) (sym h)

  pub no_dimension : (at : ℕ) → Err at ≡ dimension rest → Found bytes old sizes beyond offset
  no_dimension at h = found_by (none_here left at refl h)

  pub one_dimension : (n more from size offset2 : ℕ) (rest2 sizes2 : List ℕ) (beyond2 : Option ℕ) → left ≡ suc n → Ok more ≡ dimension rest → from ≡ digits_from rest → size ≡ size_at (drop from rest)
      → sizes2 ≡ sizes ++ size ∷ [] → beyond2 ≡ beyond_at beyond size (offset + from) → offset2 ≡ offset + more → rest2 ≡ drop more rest → Going bytes old sizes2 beyond2 n offset2 rest2
  one_dimension n more from size offset2 rest2 sizes2 beyond2 e h f z ss b o r =
      let here : Dimension = dimension_from offset rest in
      let size_is : size ≡ here.size = z ∙ ap (λ k. size_at (drop k rest)) f in
      let opened : dimensions_in left offset rest ≡ with_dimension here (dimensions_in n offset2 rest2) =
      ap (λ k. dimensions_in k offset rest) e
      ∙ ap (λ r. if_dimension offset r (λ k. with_dimension here (dimensions_in n (offset + k) (drop k rest)))) (sym h)
      ∙ ap (λ k. with_dimension here (dimensions_in n k (drop more rest))) (sym o)
      ∙ ap (λ b. with_dimension here (dimensions_in n offset2 b)) (sym r) in
      record {
        so_far = g.so_far ++ here ∷ [];
        sizes_are = ss ∙ ap (λ s. s ++ size ∷ []) g.sizes_are ∙ ap (λ k. (old ++ sizes_of g.so_far) ++ k ∷ []) size_is ∙ append_assoc old (sizes_of g.so_far) (here.size ∷ []) ∙ ap (λ s. old ++ s) (sym (map-append (λ d. d.size) g.so_far (here ∷ [])));
        beyond_is = b ∙ ap (λ x. beyond_at x size (offset + from)) g.beyond_is ∙ ap (λ k. beyond_at (first_beyond g.so_far) k (offset + from)) size_is ∙ ap (λ k. beyond_at (first_beyond g.so_far) here.size (offset + k)) f ∙ sym (first_more g.so_far here);
        all = append_assoc g.so_far (here ∷ []) (dimensions_in n offset2 rest2).all ∙ ap (λ d. g.so_far ++ d.all) (sym opened) ∙ g.all;
        end = ap (λ d. d.end) (sym opened) ∙ g.end;
      }

-- ---- what a dimension begins with

pub opens : (bytes : List ℕ) (n : ℕ) → Ok n ≡ dimension bytes → gap_at bytes + 1 ≤ length bytes
unfolding dimension mark
opens bytes n h = by_mark (begins_with 91 (drop (gap_at bytes) bytes)) refl h
  where
    opened : (rest : List ℕ) → begins_with 91 rest ≡ true → 0 < length rest
    opened [] h = absurd cc
    opened (b ∷ bs) h = omega arith

    by_mark : (t : Bool) → begins_with 91 (drop (gap_at bytes) bytes) ≡ t → Ok n ≡ and_behind (cond t (Ok (gap_at bytes + 1)) (Err (gap_at bytes))) (λ k. size (drop k bytes)) → gap_at bytes + 1 ≤ length bytes
    by_mark true e k = let some = opened (drop (gap_at bytes) bytes) e in let long = length-drop (gap_at bytes) bytes in omega (arith, some, long)
    by_mark false e k = absurd cc

pub under : (x m : ℕ) → m ≡ min x (2 ^ 64 - 1) → nat_lt 33554432 m ≡ nat_lt 33554432 x
under x m e = by_test (nat_lt x (2 ^ 64 - 1)) refl
  where
    by_test : (t : Bool) → nat_lt x (2 ^ 64 - 1) ≡ t → nat_lt 33554432 m ≡ nat_lt 33554432 x
    by_test true h = let l = ltb-true x (2 ^ 64 - 1) h in ap (nat_lt 33554432) (e ∙ min-eq_left (omega arith))
    by_test false h = let l = ltb-false x (2 ^ 64 - 1) h in ap (nat_lt 33554432) (e ∙ min-eq_right (omega arith)) ∙ sym (lt-ltb 33554432 x (omega arith))

pub ruleset dimensions_found = (begins, opens)
