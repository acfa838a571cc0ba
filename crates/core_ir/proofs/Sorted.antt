-- Rows of components of sorts, taken out of bundles and put into them.
use Rattle.std.proofs.Common.{◌≡◌, ℕ, zero, suc, ◌*◌, nat_eq, nat_le, true, false, List, [], ◌∷◌, ◌++◌, map, flat_map, take, drop, length, refl, sym, ap, ◌∙◌, subst, arith, suc-mul, zero-mul, mul-zero, eqb-true}
use Rattle.std.proofs.lemmas.Bool.{and_parts}
use Rattle.std.proofs.lemmas.List.{length-append, length-map, length-take-le, length-drop}
use Rattle.fut_scalar.specs.declared.place.Place.{Place}
use Rattle.fut_scalar.specs.declared.report.FailKind.TheVariants as kind
use Rattle.fut_scalar.specs.declared.scalar.Scalar.{Scalar}
use Rattle.fut_scalar.specs.declared.scalar.ScalarType.{ScalarType}
use Rattle.fut_value.specs.Leaves.{in_rows, extent}
use Rattle.fut_meaning.specs.Arrays.{most_words}
use Rattle.fut_meaning.specs.Claims.{HasOut}
use Rattle.fut_meaning.specs.Outcomes.{Val}
use Rattle.fut_meaning.specs.Sames.{All_same, all_none, all_more}
use Rattle.fut_meaning.proofs.Safe.{Every}
use Rattle.core_ir.specs.Lists.{parts, beside}
use Rattle.core_ir.specs.Bundles.{Component, Row, sizes, cells, all_sizes, formed, column, as_long, size_of, across, of_width, rows_of, row_sizes, first_cells, others, columns, bundle, same_sizes, all_same_sizes, all_have, stacked, weight_of, within_weight, sizes_or, glued}
use Rattle.core_ir.specs.Typed.{Sort, lifted, Bundled, bare, full}
use Rattle.core_ir.specs.Programs.{All_of_type, no_cell, cell_and, Is_of, one_is, many_is, AreOf}
use Rattle.core_ir.proofs.Having.{every_copy, every_map, has_then, has_fitting, has_checked}

abbrev pub Rows : List Sort → List Row → Type 0
Rows ss rows = Every (λ r. AreOf r ss) rows

-- ---- cells

cells_taken : (t : ScalarType) (k : ℕ) (ws : List Scalar) → All_of_type t ws → All_of_type t (take k ws)
cells_taken t zero ws a = no_cell
cells_taken t (suc k) _ no_cell = no_cell
cells_taken t (suc k) _ (cell_and {ws = ws} e a) = cell_and e (cells_taken t k ws a)

cells_dropped : (t : ScalarType) (k : ℕ) (ws : List Scalar) → All_of_type t ws → All_of_type t (drop k ws)
cells_dropped t zero ws a = a
cells_dropped t (suc k) _ no_cell = no_cell
cells_dropped t (suc k) _ (cell_and {ws = ws} e a) = cells_dropped t k ws a

cells_more : (t : ScalarType) (vs ws : List Scalar) → All_of_type t vs → All_of_type t ws → All_of_type t (vs ++ ws)
cells_more t _ ws no_cell b = b
cells_more t _ ws (cell_and {ws = vs} e a) b = cell_and e (cells_more t vs ws a b)

pub cells_long : (c : Component) (s : Sort) → Is_of c s → length (cells c) ≡ extent (sizes c)
cells_long _ _ (one_is e) = refl
cells_long _ _ (many_is e l a) = l

cells_are : (c : Component) (s : Sort) → Is_of c s → All_of_type s.0 (cells c)
cells_are _ _ (one_is e) = cell_and e no_cell
cells_are _ _ (many_is e l a) = a

sizes_many : (c : Component) (s : Sort) → Is_of c s → length (sizes c) ≡ s.1
sizes_many _ _ (one_is e) = refl
sizes_many _ _ (many_is e l a) = ap suc e

-- ---- rows of an array

record Is_part (t : ScalarType) (k : ℕ) (p : List Scalar) : Type 0 where
  long : length p ≡ k
  are : All_of_type t p

parts_are : (t : ScalarType) (n k : ℕ) (ws : List Scalar) → length ws ≡ n * k → All_of_type t ws → Every (Is_part t k) (parts n k ws)
parts_are t zero k ws e a = tt
parts_are t (suc n) k ws e a =
    let m = suc-mul n k in
    let d = length-drop k ws in
    (record { long = length-take-le k ws (omega (arith, e, m)); are = cells_taken t k ws a }, parts_are t n k (drop k ws) (omega (arith, e, m, d)) (cells_dropped t k ws a))

formed_is : (t : ScalarType) (ds : List ℕ) (p : List Scalar) → length p ≡ extent ds → All_of_type t p → Is_of (formed ds p) (t, length ds)
formed_is t [] _ e no_cell = absurd (omega (arith, e))
formed_is t [] _ e (cell_and h a) = one_is h
formed_is t (d ∷ ds) p e a = many_is refl e a

column_are : (s : Sort) (c : Component) → Is_of c (s.0, suc s.1) → Every (λ d. Is_of d s) (column c)
column_are s _ (many_is {n} {ds = ds} {ws = ws} e l a) =
    every_map (Is_part s.0 (extent ds)) (λ d. Is_of d s) (formed ds)
    (λ p h. subst (λ z. Is_of (formed ds p) (s.0, z)) e (formed_is s.0 ds p h.long h.are))
    (parts n (extent ds) ws) (parts_are s.0 n (extent ds) ws l a)

beside_are : (s : Sort) (ss : List Sort) (xs : List Component) (rs : List Row) → Every (λ d. Is_of d s) xs → Rows ss rs → Rows (s ∷ ss) (beside xs rs)
beside_are s ss [] rs e f = tt
beside_are s ss (x ∷ xs) [] e f = tt
beside_are s ss (x ∷ xs) (r ∷ rs) e f = (all_more e.0 f.0, beside_are s ss xs rs e.1 f.1)

across_are : (n : ℕ) (ss : List Sort) (cs : Row) → AreOf cs (lifted ss) → Rows ss (across n cs)
across_are n [] _ all_none = every_copy (λ r. AreOf r []) n [] all_none
across_are n (s ∷ ss) _ (all_more {x = c} {xs = cs} h a) = beside_are s ss (column c) (across n cs) (column_are s c h) (across_are n ss cs a)

long_has : (at : Place) (n : ℕ) (ss : List Sort) (cs : Row) → AreOf cs (lifted ss) → HasOut (λ k. Unit {0}) (as_long false at n cs)
long_has at n [] _ all_none = tt
long_has at n (s ∷ ss) _ (all_more {xs = cs} (many_is {n = m} e l a) b) = has_fitting (λ k. Unit {0}) (nat_eq m n) at _ (λ q. long_has at n ss cs b)

size_has : (at : Place) (s : Sort) (ss : List Sort) (cs : Row) → AreOf cs (lifted (s ∷ ss)) → HasOut (λ k. Unit {0}) (size_of false at cs)
size_has at s ss _ (all_more {xs = cs} (many_is {n} e l a) b) = long_has at n ss cs b

-- where a row has a component, with any width but 0
pub rows_full : (at : Place) (w : ℕ) (s : Sort) (ss : List Sort) (cs : Row) → AreOf cs (lifted (s ∷ ss)) → HasOut (Rows (s ∷ ss)) (rows_of false at (suc w) cs)
unfolding rows_of
rows_full at w s ss cs a = has_then (λ k. Unit {0}) (Rows (s ∷ ss)) (size_of false at cs) _ (size_has at s ss cs a) (λ n u. across_are n (s ∷ ss) cs a)

rows_bare : (at : Place) (t : ScalarType) (cs : Row) → AreOf cs ((t, 2) ∷ []) → HasOut (Rows []) (rows_of false at 0 cs)
unfolding rows_of
rows_bare at t cs a = has_then (λ k. Unit {0}) (Rows []) (size_of false at cs) _ (size_has at (t, 1) [] cs a) (λ n u. every_copy (λ r. AreOf r []) n [] all_none)

pub rows_bundled : (at : Place) (w : ℕ) {ss bs : List Sort} (cs : Row) → Bundled ss bs → w ≡ length ss → AreOf cs bs → HasOut (Rows ss) (rows_of false at w cs)
rows_bundled at w cs (bare {t}) e a = subst (λ z. HasOut (Rows []) (rows_of false at z cs)) (sym e) (rows_bare at t cs a)
rows_bundled at w cs (full {s} {ss}) e a = subst (λ z. HasOut (Rows (s ∷ ss)) (rows_of false at z cs)) (sym e) (rows_full at (length ss) s ss cs a)

-- ---- sizes of sorts

abbrev pub Sizes_fit : List (List ℕ) → List Sort → Type 0
Sizes_fit = All_same (λ d s. length d ≡ s.1)

pub sizes_of : (ss : List Sort) (r : Row) → AreOf r ss → Sizes_fit (all_sizes r) ss
sizes_of _ _ all_none = all_none
sizes_of _ _ (all_more {x = c} {x' = s} {xs = r} {xs' = ss} h a) = all_more (sizes_many c s h) (sizes_of ss r a)

drop_one : (d : List ℕ) (r : ℕ) → length d ≡ suc r → length (drop 1 d) ≡ r
drop_one [] r e = absurd (omega (arith, e))
drop_one (n ∷ d) r e = omega (arith, e)

pub dropped_fit : (ss : List Sort) (ds : List (List ℕ)) → Sizes_fit ds (lifted ss) → Sizes_fit (map (drop 1) ds) ss
dropped_fit [] _ all_none = all_none
dropped_fit (s ∷ ss) _ (all_more {x = d} {xs = ds} q f) = all_more (drop_one d s.1 q) (dropped_fit ss ds f)

-- behind a row, of the bundle's own sizes
pub row_sizes_fit : (w : ℕ) {ss bs : List Sort} (ds : List (List ℕ)) → Bundled ss bs → w ≡ length ss → Sizes_fit ds bs → Sizes_fit (map (drop 1) (of_width w ds)) ss
row_sizes_fit w ds bare e f = subst (λ z. Sizes_fit (map (drop 1) (of_width z ds)) []) (sym e) all_none
row_sizes_fit w ds (full {s} {ss}) e f = subst (λ z. Sizes_fit (map (drop 1) (of_width z ds)) (s ∷ ss)) (sym e) (dropped_fit (s ∷ ss) ds f)

pub row_sizes_full : (w : ℕ) (s : Sort) (ss : List Sort) (cs : Row) → AreOf cs (lifted (s ∷ ss)) → Sizes_fit (row_sizes (suc w) cs) (s ∷ ss)
row_sizes_full w s ss cs a = dropped_fit (s ∷ ss) (all_sizes cs) (sizes_of (lifted (s ∷ ss)) cs a)

pub row_sizes_bundled : (w : ℕ) {ss bs : List Sort} (cs : Row) → Bundled ss bs → w ≡ length ss → AreOf cs bs → Sizes_fit (row_sizes w cs) ss
row_sizes_bundled w {bs = bs} cs b e a = row_sizes_fit w (all_sizes cs) b e (sizes_of bs cs a)

each_longer : (n : ℕ) (ss : List Sort) (ds : List (List ℕ)) → Sizes_fit ds ss → Sizes_fit (map (λ sizes. n ∷ sizes) ds) (lifted ss)
each_longer n _ _ all_none = all_none
each_longer n _ _ (all_more {x = d} {x' = s} {xs = ds} {xs' = ss} q f) = all_more (ap suc q) (each_longer n ss ds f)

pub in_rows_fit : (n : ℕ) (ds : List (List ℕ)) {ss out : List Sort} → Bundled ss out → Sizes_fit ds ss → Sizes_fit (in_rows n ds) out
in_rows_fit n _ bare all_none = all_more refl all_none
in_rows_fit n _ full (all_more {x = d} {x' = s} {xs = ds} {xs' = ss} q f) = each_longer n (s ∷ ss) (d ∷ ds) (all_more q f)

-- ---- rows that are put into a bundle

record Row_is (ds : List (List ℕ)) (ss : List Sort) (r : Row) : Type 0 where
  are : AreOf r ss
  sized : all_sizes r ≡ ds

head_is : {A : Type 0} {x y : A} {xs ys : List A} → x ∷ xs ≡ y ∷ ys → x ≡ y
head_is e = cc

tail_is : {A : Type 0} {x y : A} {xs ys : List A} → x ∷ xs ≡ y ∷ ys → xs ≡ ys
tail_is e = cc

module _ (d : List ℕ) (ds : List (List ℕ)) (s : Sort) (ss : List Sort) where
  first_part : (r : Row) → AreOf r (s ∷ ss) → all_sizes r ≡ d ∷ ds → Is_part s.0 (extent d) (first_cells r)
  first_part _ (all_more {x = c} h a) e = record { long = cells_long c s h ∙ ap extent (head_is e); are = cells_are c s h }

  rest_is : (r : Row) → AreOf r (s ∷ ss) → all_sizes r ≡ d ∷ ds → Row_is ds ss (others r)
  rest_is _ (all_more h a) e = record { are = a; sized = tail_is e }

  firsts_are : (rows : List Row) → Every (Row_is (d ∷ ds) (s ∷ ss)) rows → Is_part s.0 (length rows * extent d) (flat_map first_cells rows)
  firsts_are [] e = record { long = sym (zero-mul (extent d)); are = no_cell }
  firsts_are (r ∷ rows) e =
      let p = first_part r e.0.are e.0.sized in
      let q = firsts_are rows e.1 in
      let m = suc-mul (length rows) (extent d) in
      let l = length-append (first_cells r) (flat_map first_cells rows) in
      let pl = p.long in
      let ql = q.long in
      record { long = omega (arith, m, l, pl, ql); are = cells_more s.0 (first_cells r) (flat_map first_cells rows) p.are q.are }

columns_are : (n : ℕ) (ds : List (List ℕ)) (ss : List Sort) (rows : List Row) → Sizes_fit ds ss → Every (Row_is ds ss) rows → length rows ≡ n → AreOf (columns n ds rows) (lifted ss)
columns_are n _ _ rows all_none e l = all_none
columns_are n _ _ rows (all_more {x = d} {x' = s} {xs = ds} {xs' = ss} q f) e l =
    let p = firsts_are d ds s ss rows e in
    all_more (many_is q (p.long ∙ ap (λ z. z * extent d) l) p.are)
    (columns_are n ds ss (map others rows) f (every_map (Row_is (d ∷ ds) (s ∷ ss)) (Row_is ds ss) others (λ r h. rest_is d ds s ss r h.are h.sized) rows e) (length-map rows others ∙ l))

no_cells : (n : ℕ) → 0 ≡ extent (n ∷ 0 ∷ [])
no_cells n = sym (mul-zero n)

bundle_are : (n : ℕ) (ds : List (List ℕ)) {ss out : List Sort} (rows : List Row) → Bundled ss out → Sizes_fit ds ss → Every (Row_is ds ss) rows → length rows ≡ n → AreOf (bundle n ds rows) out
bundle_are n _ rows bare all_none e l = all_more (many_is refl (no_cells n) no_cell) all_none
bundle_are n _ rows full (all_more {x = d} {x' = s} {xs = ds} {xs' = ss} q f) e l = columns_are n (d ∷ ds) (s ∷ ss) rows (all_more q f) e l

same_sizes_are : (ds es : List ℕ) → same_sizes ds es ≡ true → ds ≡ es
same_sizes_are [] [] e = refl
same_sizes_are [] (x ∷ es) e = absurd (let z : false ≡ true = e in cc)
same_sizes_are (d ∷ ds) [] e = absurd (let z : false ≡ true = e in cc)
same_sizes_are (d ∷ ds) (x ∷ es) e =
    let p = and_parts (nat_eq d x) (same_sizes ds es) e in
    ap (λ z. z ∷ ds) (eqb-true d x p.0) ∙ ap (λ z. x ∷ z) (same_sizes_are ds es p.1)

pub all_same_are : (ds es : List (List ℕ)) → all_same_sizes ds es ≡ true → ds ≡ es
all_same_are [] [] e = refl
all_same_are [] (x ∷ es) e = absurd (let z : false ≡ true = e in cc)
all_same_are (d ∷ ds) [] e = absurd (let z : false ≡ true = e in cc)
all_same_are (d ∷ ds) (x ∷ es) e =
    let p = and_parts (same_sizes d x) (all_same_sizes ds es) e in
    ap (λ z. z ∷ ds) (same_sizes_are d x p.0) ∙ ap (λ z. x ∷ z) (all_same_are ds es p.1)

rows_sized : (ds : List (List ℕ)) (ss : List Sort) (rows : List Row) → all_have ds rows ≡ true → Rows ss rows → Every (Row_is ds ss) rows
rows_sized ds ss [] e a = tt
rows_sized ds ss (r ∷ rows) e a =
    let p = and_parts (all_same_sizes (all_sizes r) ds) (all_have ds rows) e in
    (record { are = a.0; sized = all_same_are (all_sizes r) ds p.0 }, rows_sized ds ss rows p.1 a.1)

pub stacked_has : (at : Place) (ds : List (List ℕ)) {ss out : List Sort} (rows : List Row) → Bundled ss out → Sizes_fit ds ss → Rows ss rows → HasOut (λ bs. AreOf bs out) (stacked false at ds rows)
unfolding stacked
stacked_has at ds {ss} {out} rows b f a = has_fitting (λ bs. AreOf bs out) (all_have ds rows) at _ (λ e. bundle_are (length rows) ds rows b f (rows_sized ds ss rows e a) refl)

pub within_has : (P : Row → Type 0) (at : Place) (bs : Row) → P bs → HasOut P (within_weight at bs)
unfolding within_weight
within_has P at bs p = has_checked P (nat_le (weight_of (all_sizes bs)) most_words) kind.TooLarge at (Val bs) p

sizes_or_fit : (told : List (List ℕ)) (ss : List Sort) (rows : List Row) → Sizes_fit told ss → Rows ss rows → Sizes_fit (sizes_or told rows) ss
sizes_or_fit told ss [] f a = f
sizes_or_fit told ss (r ∷ rows) f a = sizes_of ss r a.0

pub glued_has : (at : Place) (told : List (List ℕ)) {ss out : List Sort} (rows : List Row) → Bundled ss out → Sizes_fit told ss → Rows ss rows → HasOut (λ bs. AreOf bs out) (glued false at told rows)
unfolding glued
glued_has at told {ss} {out} rows b f a =
    has_then (λ bs. AreOf bs out) (λ bs. AreOf bs out) (stacked false at (sizes_or told rows) rows) (within_weight at)
    (stacked_has at (sizes_or told rows) rows b (sizes_or_fit told ss rows f a) a) (λ bs h. within_has (λ bs. AreOf bs out) at bs h)

-- where there is a row, no size need be told
pub glued_some : (at : Place) (told : List (List ℕ)) {ss out : List Sort} (r : Row) (rows : List Row) → Bundled ss out → Rows ss (r ∷ rows) → HasOut (λ bs. AreOf bs out) (glued false at told (r ∷ rows))
unfolding glued
glued_some at told {ss} {out} r rows b a =
    has_then (λ bs. AreOf bs out) (λ bs. AreOf bs out) (stacked false at (all_sizes r) (r ∷ rows)) (within_weight at)
    (stacked_has at (all_sizes r) (r ∷ rows) b (sizes_of ss r a.0) a) (λ bs h. within_has (λ bs. AreOf bs out) at bs h)
