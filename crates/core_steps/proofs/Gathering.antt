-- Columns of rows, as new arrays.
use Rattle.std.proofs.Common.{◌≡◌, ℕ, zero, suc, ◌+◌, ◌-◌, ◌*◌, ◌<◌, ◌≤◌, ◌^◌, min, List, [], ◌∷◌, ◌++◌, map, flat_map, length, get_or, take, drop, slice_get, Some, Ok, Err, Bool, true, false, refl, sym, ap, ◌∙◌, subst, arith, add-one}
use Rattle.std.specs.Prelude.{◌&&◌, nat_eq}
use Rattle.std.proofs.lemmas.Bool.{eqb-true}
use Rattle.std.proofs.lemmas.Grind.{flat_map-append}
use Rattle.std.proofs.lemmas.List.{append-nil, length-append, length-map, map-append, take_all, get_or_default, get_or_append_left}
use Rattle.std.proofs.Math.Nat.{suc-mul}
use Rattle.fut_scalar.specs.declared.scalar.Scalar.{Scalar}
use Rattle.fut_arithmetic.specs.Words.{scalar_of_word}
use Rattle.fut_value.specs.Leaves.{extent}
use Rattle.core_arrays.specs.Arenas.{Array, Arena, array, with_array}
use Rattle.core_ir.specs.declared.block.Atom.{Atom}
use Rattle.core_ir.specs.Bundles.{Component, One, Many, Row, sizes, cells, all_sizes, same_sizes, all_same_sizes, all_have, first_cells, others, columns, array_words}
use Rattle.core_ir.specs.Typed.{Sort, lifted}
use Rattle.core_code.specs.Registers.{elem_of, rank_of, ShowsArray, Shows, Shows_at, AllShow, none_shown, shown_and}
use Rattle.core_code.specs.declared.stop.Stop.{Stop}
use Rattle.core_code.specs.declared.stop.Stop.TheVariants.{Memory}
use Rattle.core_code.proofs.Frames.{all_show_on}
use Rattle.core_code.proofs.Reading.{show_append}
use Rattle.core_code.proofs.ScalarWords.{given_back}
use Rattle.core_steps.specs.Gluing.{sort_at, sorts_at, RowsShow, no_rows_shown, row_shown_and, Sized_at, column_cells, CellsPut, cells_put, no_cells_put, Cells_put, WordsTold, words_told, no_words, Column_read, Sizes_read, Made, Alike_rows, ColumnMade, column_made, no_column, Column_made, ColumnsMade, columns_made, no_columns, Columns_made}
use Rattle.core_steps.proofs.Operands.{get_behind, get_front}
use Rattle.core_steps.proofs.Sizing.{Shown_at, shown_at, shown_many, rows_get}

-- ---- the cells of one component

module _ (rs : List Array) (u : Atom) (w : ℕ) (ws ws' : List ℕ) where
  pub put_scalar : rank_of u ≡ 0 → ws' ≡ ws ++ w ∷ [] → Cells_put rs u w ws ws' (Ok tt)
  unfolding Cells_put
  put_scalar e p c sh = by_rank (rank_of u) e sh
    where
      by_rank : (r : ℕ) → r ≡ 0 → Shows_at rs (elem_of u) r c w → CellsPut u c ws ws' (Ok tt)
      by_rank zero e x = cells_put (w ∷ []) p (ap (λ z. scalar_of_word (elem_of u) z ∷ []) x.word ∙ ap (λ z. z ∷ []) (given_back (elem_of u) x.scalar x.typed) ∙ sym (ap cells x.is))
      by_rank (suc r) e x = absurd (omega (arith, e))

  pub put_array : (xs : List ℕ) → (rank_of u ≡ 0 → ⊥) → ((a : Array) → slice_get rs w ≡ Some a → xs ≡ a.words) → ws' ≡ ws ++ xs → Cells_put rs u w ws ws' (Ok tt)
  unfolding Cells_put
  put_array xs ne h p c sh = by_rank (rank_of u) ne sh
    where
      by_rank : (r : ℕ) → (r ≡ 0 → ⊥) → Shows_at rs (elem_of u) r c w → CellsPut u c ws ws' (Ok tt)
      by_rank zero ne x = absurd (ne refl)
      by_rank (suc r) ne x = cells_put xs p (ap (map (scalar_of_word (elem_of u))) (h x.array x.there) ∙ sym (ap cells x.is))

  pub put_stop : (e : Stop) → e ≡ Memory → Cells_put rs u w ws ws' (Err e)
  unfolding Cells_put
  put_stop e q c sh = subst (λ z. CellsPut u c ws ws' (Err z)) (sym q) no_cells_put

pub ruleset puts = (put_scalar, put_array, put_stop)

-- ---- in all rows

record Row_there (rows : List Row) (j : ℕ) : Type 0 where
  row : Row
  there : slice_get rows j ≡ Some row
  next : take (suc j) rows ≡ take j rows ++ row ∷ []

row_there : (rows : List Row) (j : ℕ) → j < length rows → Row_there rows j
row_there [] j l = absurd (omega arith)
row_there (x ∷ rows) zero l = record { row = x; there = refl; next = refl }
row_there (x ∷ rows) (suc j) l = let k = row_there rows j (omega (arith, l)) in record { row = k.row; there = k.there; next = ap (λ z. x ∷ z) k.next }

unfoldable pub Column_goes : List Array → List Atom → ℕ → ℕ → List ℕ → ℕ → List ℕ → Type 0
Column_goes rs us c count ws i vs = (d : Atom) (rows : List Row) → RowsShow rs (sorts_at us) rows ws → length rows ≡ count → map (scalar_of_word (elem_of (get_or us c d))) vs ≡ column_cells c (take i rows)

module _ (rs : List Array) (us : List Atom) (c count : ℕ) (ws : List ℕ) where
  pub column_start : Column_goes rs us c count ws 0 []
  unfolding Column_goes
  column_start d rows sh m = refl

  pub column_more : (i width : ℕ) (vs vs' here : List ℕ) (d' : Atom) (e : ℕ) → i < count → width ≡ length us → c < length us → Column_goes rs us c count ws i vs → here ≡ take width (drop (i * width) ws) → Cells_put rs (get_or us c d') (get_or here c e) vs vs' (Ok tt) → Column_goes rs us c count ws (i + 1) vs'
  unfolding Column_goes Cells_put
  column_more i width vs vs' here d' e l w b h p k d rows sh m =
      ap (λ z. map (scalar_of_word (elem_of z)) vs') (get_or_default us c d d' b) ∙ by_row (row_there rows i (omega (arith, l, m))) ∙ ap (λ z. column_cells c (take z rows)) (sym (add-one i))
    where
      f : ℕ → Scalar
      f = scalar_of_word (elem_of (get_or us c d'))

      many : width ≡ length (sorts_at us)
      many = w ∙ sym (length-map us sort_at)

      by_put : (row : Row) (x : Component) → drop c row ≡ x ∷ drop (suc c) row → take (suc i) rows ≡ take i rows ++ row ∷ [] → CellsPut (get_or us c d') x vs vs' (Ok tt) → map f vs' ≡ column_cells c (take (suc i) rows)
      by_put row x q n (cells_put ys z y) =
          ap (map f) z ∙ map-append f vs ys ∙ ap (λ z. z ++ map f ys) (h d' rows sh m) ∙ ap (λ z. column_cells c (take i rows) ++ z) (y ∙ sym (ap first_cells q) ∙ sym (append-nil (first_cells (drop c row))))
          ∙ sym (flat_map-append (λ row. first_cells (drop c row)) (take i rows) (row ∷ [])) ∙ ap (column_cells c) (sym n)

      by_row : Row_there rows i → map f vs' ≡ column_cells c (take (suc i) rows)
      by_row r =
          let x = subst (AllShow rs (sorts_at us) r.row) (ap (λ z. take z (drop (i * z) ws)) (sym many) ∙ sym p) (rows_get rs (sorts_at us) rows ws i r.row sh r.there) in
          let y = shown_at rs us (sorts_at us) r.row here c d' e b refl x in
          by_put r.row y.component y.left r.next (k y.component y.shown)

  pub column_end : (i : ℕ) (vs : List ℕ) → count ≤ i → c < length us → Column_goes rs us c count ws i vs → Column_read rs us c count ws (Ok vs)
  unfolding Column_goes Column_read
  column_end i vs l b h d rows sh m = words_told (b, h d rows sh m ∙ ap (column_cells c) (take_all i rows (omega (arith, l, m))))

  pub column_stop : (e : Stop) → e ≡ Memory → Column_read rs us c count ws (Err e)
  unfolding Column_read
  column_stop e q d rows sh m = subst (λ z. WordsTold (λ vs. (c < length us) × (map (scalar_of_word (elem_of (get_or us c d))) vs ≡ column_cells c rows)) (Err z)) (sym q) no_words

pub ruleset reads = (column_start, column_more, column_end, column_stop)

-- ---- sizes

pub sizes_ok : (rs : List Array) (u : Atom) (w count : ℕ) (ds ks ss : List ℕ) → Sized_at rs u w ds → ks ≡ count ∷ [] → ss ≡ ks ++ ds → Sizes_read rs u w count (Ok ss)
unfolding Sized_at Sizes_read
sizes_ok rs u w count ds ks ss h e f c sh = words_told (f ∙ ap (λ z. z ++ ds) e ∙ ap (λ z. count ∷ z) (h c sh))

pub sizes_stop : (rs : List Array) (u : Atom) (w count : ℕ) (e : Stop) → e ≡ Memory → Sizes_read rs u w count (Err e)
unfolding Sizes_read
sizes_stop rs u w count e q c sh = subst (λ z. WordsTold (λ ds. ds ≡ count ∷ sizes c) (Err z)) (sym q) no_words

pub ruleset sizes_rules = (sizes_ok, sizes_stop)

-- ---- what the definition has in a column

drop_none : {A : Type 0} (m : ℕ) → drop {A = A} m [] ≡ []
drop_none zero = refl
drop_none (suc m) = refl

others_cells : (c : ℕ) (rows : List Row) → column_cells c (map others rows) ≡ column_cells (suc c) rows
others_cells c [] = refl
others_cells c (row ∷ rows) = ap (λ z. z ++ column_cells c (map others rows)) (by_row row) ∙ ap (λ z. first_cells (drop (suc c) row) ++ z) (others_cells c rows)
  where
    by_row : (row : Row) → first_cells (drop c (others row)) ≡ first_cells (drop (suc c) row)
    by_row [] = ap first_cells (drop_none c)
    by_row (x ∷ xs) = refl

pub columns_get : (n : ℕ) (ds : List (List ℕ)) (rows : List Row) (c : ℕ) (d : List ℕ) (rest : List (List ℕ)) → drop c ds ≡ d ∷ rest → slice_get (columns n ds rows) c ≡ Some (Many (n ∷ d) (column_cells c rows))
columns_get n [] rows zero d rest e = cc
columns_get n [] rows (suc c) d rest e = cc
columns_get n (x ∷ ds) rows zero d rest e = let q : x ≡ d = cc in ap (λ z. Some (Many (n ∷ z) (flat_map first_cells rows))) q
columns_get n (x ∷ ds) rows (suc c) d rest e = columns_get n ds (map others rows) c d rest e ∙ ap (λ z. Some (Many (n ∷ d) z)) (others_cells c rows)

pub columns_many : (n : ℕ) (ds : List (List ℕ)) (rows : List Row) → length (columns n ds rows) ≡ length ds
columns_many n [] rows = refl
columns_many n (d ∷ ds) rows = ap suc (columns_many n ds (map others rows))

-- ---- lists of one shape

pub same_all : (xs ys : List (List ℕ)) → all_same_sizes xs ys ≡ true → xs ≡ ys
same_all [] [] e = refl
same_all [] (y ∷ ys) e = cc
same_all (x ∷ xs) [] e = cc
same_all (x ∷ xs) (y ∷ ys) e = by_test (same_sizes x y) refl (all_same_sizes xs ys) refl e (λ q. same_all xs ys q)
  where
    same_one : (xs ys : List ℕ) → same_sizes xs ys ≡ true → xs ≡ ys
    same_one [] [] e = refl
    same_one [] (y ∷ ys) e = cc
    same_one (x ∷ xs) [] e = cc
    same_one (x ∷ xs) (y ∷ ys) e = by_first (nat_eq x y) refl (same_sizes xs ys) refl e (λ q. same_one xs ys q)
      where
        by_first : (b : Bool) → nat_eq x y ≡ b → (c : Bool) → same_sizes xs ys ≡ c → (b && c) ≡ true → (same_sizes xs ys ≡ true → xs ≡ ys) → x ∷ xs ≡ y ∷ ys
        by_first true p true q e h = ap (λ z. z ∷ xs) (eqb-true x y p) ∙ ap (λ z. y ∷ z) (h q)
        by_first true p false q e h = cc
        by_first false p c q e h = cc

    by_test : (b : Bool) → same_sizes x y ≡ b → (c : Bool) → all_same_sizes xs ys ≡ c → (b && c) ≡ true → (all_same_sizes xs ys ≡ true → xs ≡ ys) → x ∷ xs ≡ y ∷ ys
    by_test true p true q e h = ap (λ z. z ∷ xs) (same_one x y p) ∙ ap (λ z. y ∷ z) (h q)
    by_test true p false q e h = cc
    by_test false p c q e h = cc

-- a component has as many cells as its sizes say
pub cells_many : (rs : List Array) (s : Sort) (c : Component) (w : ℕ) → Shows rs s c w → length (cells c) ≡ extent (sizes c)
cells_many rs s c w = by_rank s.1
  where
    by_rank : (r : ℕ) → Shows_at rs s.0 r c w → length (cells c) ≡ extent (sizes c)
    by_rank zero x = subst (λ z. length (cells z) ≡ extent (sizes z)) (sym x.is) refl
    by_rank (suc r) x = subst (λ z. length (cells z) ≡ extent (sizes z)) (sym x.is) (length-map x.array.words (scalar_of_word s.0) ∙ x.full)

pub sizes_many : (rs : List Array) (s : Sort) (c : Component) (w : ℕ) → Shows rs s c w → length (sizes c) ≡ s.1
sizes_many rs s c w = by_rank s.1
  where
    by_rank : (r : ℕ) → Shows_at rs s.0 r c w → length (sizes c) ≡ r
    by_rank zero x = ap (λ z. length (sizes z)) x.is
    by_rank (suc r) x = ap (λ z. length (sizes z)) x.is ∙ x.deep

pub drop_map : {A B : Type 0} (g : A → B) (n : ℕ) (xs : List A) → drop n (map g xs) ≡ map g (drop n xs)
drop_map g zero xs = refl
drop_map g (suc n) [] = refl
drop_map g (suc n) (x ∷ xs) = drop_map g n xs

both_true : (a b : Bool) → (a && b) ≡ true → (a ≡ true) × (b ≡ true)
both_true true true e = (refl, refl)
both_true true false e = cc
both_true false b e = cc

column_many : (rs : List Array) (us : List Atom) (rows : List Row) (ws : List ℕ) (c : ℕ) (ds : List (List ℕ)) (d : List ℕ) (rest : List (List ℕ)) → c < length us → RowsShow rs (sorts_at us) rows ws → all_have ds rows ≡ true → drop c ds ≡ d ∷ rest → length (column_cells c rows) ≡ length rows * extent d
column_many rs us _ _ c ds d rest l no_rows_shown e q = omega arith
column_many rs [] _ _ c ds d rest l (row_shown_and x sh) e q = absurd (omega (arith, l))
column_many rs (u ∷ us) _ _ c ds d rest l (row_shown_and {row = row} {rows = rows} {ws = ws} {vs = vs} x sh) e q =
    let t = both_true (all_same_sizes (all_sizes row) ds) (all_have ds rows) e in
    let y = shown_at rs (u ∷ us) (sorts_at (u ∷ us)) row ws c u 0 l refl x in
    let z : map sizes (drop c row) ≡ d ∷ rest = sym (drop_map sizes c row) ∙ ap (drop c) (same_all (all_sizes row) ds t.0) ∙ q in
    let g : sizes y.component ≡ d = let k : sizes y.component ∷ map sizes (drop (suc c) row) ≡ d ∷ rest = sym (ap (map sizes) y.left) ∙ z in cc in
    let n : length (first_cells (drop c row)) ≡ extent d = ap (λ z. length (first_cells z)) y.left ∙ cells_many rs (sort_at (get_or (u ∷ us) c u)) y.component (get_or ws c 0) y.shown ∙ ap extent g in
    let m = column_many rs (u ∷ us) rows vs c ds d rest l sh t.1 q in
    omega (arith, length-append (first_cells (drop c row)) (column_cells c rows), n, m, suc-mul (length rows) (extent d))

-- ---- one column

sort_there : (us : List Atom) (c : ℕ) (s : Sort) (d : Atom) → c < length us → slice_get (sorts_at us) c ≡ Some s → s ≡ sort_at (get_or us c d)
sort_there [] c s d l e = absurd (omega (arith, l))
sort_there (u ∷ us) zero s d l e = let z : Some (sort_at u) ≡ Some s = e in cc
sort_there (u ∷ us) (suc c) s d l e = sort_there us c s d (omega (arith, l)) e

some_same : {A : Type 0} (o : _) (a b : A) → o ≡ Some a → o ≡ Some b → a ≡ b
some_same o a b e f = let h : Some a ≡ Some b = sym e ∙ f in cc

module _ (us : List Atom) (c count : ℕ) (ws : List ℕ) (A A' : Arena) where
  pub make_ok : (d : Atom) (e number : ℕ) (vs ds : List ℕ) → Column_read A.arrays us c count ws (Ok vs) → c < length us → Sizes_read A.arrays (get_or us c d) (get_or ws c e) count (Ok ds) → number ≡ length A.arrays → A' ≡ with_array A ds vs → Column_made us c count ws A A' (Ok number)
  unfolding Column_read Sizes_read Column_made
  make_ok d e number vs ds h l k n p s row rows m al es em =
      by_words (h d (row ∷ rows) al.shown al.many) first (k first.component first.shown)
    where
      by_front : (ws : List ℕ) → RowsShow A.arrays (sorts_at us) (row ∷ rows) ws → Shown_at A.arrays us row ws c (get_or us c d) (get_or ws c e)
      by_front _ (row_shown_and {ws = front} {vs = back} x sh) =
          let y = shown_at A.arrays us (sorts_at us) row front c d e l refl x in
          let z : get_or (front ++ back) c e ≡ get_or front c e = get_or_append_left front back e c (omega (arith, l, (shown_many A.arrays (sorts_at us) row front x).1, length-map us sort_at)) in
          record { component = y.component; left = y.left; shown = subst (Shows A.arrays (sort_at (get_or us c d)) y.component) (sym z) y.shown }

      first : Shown_at A.arrays us row ws c (get_or us c d) (get_or ws c e)
      first = by_front ws al.shown

      by_words : WordsTold (λ vs. (c < length us) × (map (scalar_of_word (elem_of (get_or us c d))) vs ≡ column_cells c (row ∷ rows))) (Ok vs) → (f : Shown_at A.arrays us row ws c (get_or us c d) (get_or ws c e)) → WordsTold (λ ds. ds ≡ count ∷ sizes f.component) (Ok ds) → ColumnMade (s.0, suc s.1) m A A' (Ok number)
      by_words (words_told x) f (words_told y) =
          let q : s ≡ sort_at (get_or us c d) = sort_there us c s d l es in
          let left : drop c (all_sizes row) ≡ sizes f.component ∷ map sizes (drop (suc c) row) = drop_map sizes c row ∙ ap (map sizes) f.left in
          let is : m ≡ Many (count ∷ sizes f.component) (column_cells c (row ∷ rows)) = some_same (slice_get (columns count (all_sizes row) (row ∷ rows)) c) m (Many (count ∷ sizes f.component) (column_cells c (row ∷ rows))) em (columns_get count (all_sizes row) (row ∷ rows) c (sizes f.component) (map sizes (drop (suc c) row)) left) in
          let many : length vs ≡ count * extent (sizes f.component) =
          sym (length-map vs (scalar_of_word (elem_of (get_or us c d)))) ∙ ap length x.1 ∙ column_many A.arrays us (row ∷ rows) ws c (all_sizes row) (sizes f.component) (map sizes (drop (suc c) row)) l al.shown al.alike left ∙ ap (λ z. z * extent (sizes f.component)) al.many in
          let shown : ShowsArray A'.arrays (elem_of (get_or us c d)) (suc (rank_of (get_or us c d))) m number = record {
            array = array ds vs;
            there = ap (λ (z : Arena). slice_get z.arrays number) p ∙ ap (slice_get (A.arrays ++ array ds vs ∷ [])) n ∙ get_behind A.arrays (array ds vs);
            is = is ∙ ap (λ z. Many z (column_cells c (row ∷ rows))) (sym y) ∙ ap (Many ds) (sym x.1);
            deep = ap length y ∙ ap suc (sizes_many A.arrays (sort_at (get_or us c d)) f.component (get_or ws c e) f.shown);
            full = many ∙ sym (ap extent y);
          } in
          column_made (subst (λ (z : Sort). Shows A'.arrays (z.0, suc z.1) m number) (sym q) shown)
          (record {
            arrays = λ i a z. ap (λ (z : Arena). slice_get z.arrays i) p ∙ get_front A.arrays (array ds vs ∷ []) i a z;
            handed = let t : A'.handed ≡ min (A.handed + length vs) (2 ^ 64 - 1) = ap (λ (z : Arena). z.handed) p in let u : extent (sizes m) ≡ count * extent (sizes f.component) = ap (λ z. extent (sizes z)) is in omega (arith, t, u, many);
          })

  pub make_stop : (e : Stop) → e ≡ Memory → Column_made us c count ws A A' (Err e)
  unfolding Column_made
  make_stop e q s row rows m al es em = subst (λ z. ColumnMade (s.0, suc s.1) m A A' (Err z)) (sym q) no_column

pub ruleset makes = (make_stop)

-- ---- all columns

pub rows_show_on : (rs rs' : List Array) (ss : List Sort) (rows : List Row) (ws : List ℕ) → ((i : ℕ) (a : Array) → slice_get rs i ≡ Some a → slice_get rs' i ≡ Some a) → RowsShow rs ss rows ws → RowsShow rs' ss rows ws
rows_show_on rs rs' ss _ _ g no_rows_shown = no_rows_shown
rows_show_on rs rs' ss _ _ g (row_shown_and {row = row} {rows = rows} {ws = ws} {vs = vs} x sh) = row_shown_and (all_show_on rs rs' ss row ws g x) (rows_show_on rs rs' ss rows vs g sh)

pub take_get : {A : Type 0} (xs : List A) (i : ℕ) (x : A) → slice_get xs i ≡ Some x → take (suc i) xs ≡ take i xs ++ x ∷ []
take_get [] i x e = cc
take_get (y ∷ xs) zero x e = let q : y ≡ x = cc in ap (λ z. z ∷ []) q
take_get (y ∷ xs) (suc i) x e = ap (λ z. y ∷ z) (take_get xs i x e)

pub lifted_append : (ss : List Sort) (s : Sort) → lifted (ss ++ s ∷ []) ≡ lifted ss ++ (s.0, suc s.1) ∷ []
lifted_append [] s = refl
lifted_append (t ∷ ss) s = ap (λ z. (t.0, suc t.1) ∷ z) (lifted_append ss s)

pub words_append : (cs : Row) (c : Component) (ds : List ℕ) (ws : List Scalar) → c ≡ Many ds ws → array_words (cs ++ c ∷ []) ≡ array_words cs + extent ds
words_append [] c ds ws e = ap (λ z. array_words (z ∷ [])) e ∙ (let q : extent ds + 0 ≡ 0 + extent ds = omega arith in q)
words_append (One s ∷ cs) c ds ws e = words_append cs c ds ws e
words_append (Many es vs ∷ cs) c ds ws e = let q = words_append cs c ds ws e in omega (arith, q)

pub get_some : {A B : Type 0} (g : A → B) (xs : List A) (i : ℕ) (d : A) → i < length xs → slice_get (map g xs) i ≡ Some (g (get_or xs i d))
get_some g [] i d l = absurd (omega (arith, l))
get_some g (x ∷ xs) zero d l = refl
get_some g (x ∷ xs) (suc i) d l = get_some g xs i d (omega (arith, l))

pub record Columns_so (us : List Atom) (cs : Row) (c : ℕ) (A0 A : Arena) (made : List ℕ) : Type 0 where
  pub shown : AllShow A.arrays (lifted (take c (sorts_at us))) (take c cs) made
  pub grown : Made A0 A (array_words (take c cs))

-- a further array behind those that are made
pub columns_next : (us : List Atom) (cs : Row) (c : ℕ) (s : Sort) (ds : List ℕ) (vs : List Scalar) (A0 A A' : Arena) (made made' : List ℕ) (w : ℕ) → slice_get (sorts_at us) c ≡ Some s → slice_get cs c ≡ Some (Many ds vs) → made' ≡ made ++ w ∷ [] → Columns_so us cs c A0 A made → ColumnMade (s.0, suc s.1) (Many ds vs) A A' (Ok w) → Columns_so us cs (suc c) A0 A' made'
columns_next us cs c s ds vs A0 A A' made made' w there em p so (column_made z g) =
    let ts : take (suc c) (sorts_at us) ≡ take c (sorts_at us) ++ s ∷ [] = take_get (sorts_at us) c s there in
    let tc : take (suc c) cs ≡ take c cs ++ Many ds vs ∷ [] = take_get cs c (Many ds vs) em in
    let shown : AllShow A'.arrays (lifted (take c (sorts_at us)) ++ (s.0, suc s.1) ∷ []) (take c cs ++ Many ds vs ∷ []) (made ++ w ∷ []) =
    show_append A'.arrays (lifted (take c (sorts_at us))) (take c cs) made ((s.0, suc s.1) ∷ []) (Many ds vs ∷ []) (w ∷ []) (all_show_on A.arrays A'.arrays (lifted (take c (sorts_at us))) (take c cs) made g.arrays so.shown) (shown_and z none_shown) in
    record {
      shown = subst (λ y. AllShow A'.arrays (lifted (take (suc c) (sorts_at us))) (take (suc c) cs) y) (sym p)
          (subst (λ y. AllShow A'.arrays (lifted (take (suc c) (sorts_at us))) y (made ++ w ∷ [])) (sym tc)
          (subst (λ y. AllShow A'.arrays y (take c cs ++ Many ds vs ∷ []) (made ++ w ∷ [])) (sym (ap lifted ts ∙ lifted_append (take c (sorts_at us)) s)) shown));
      grown = record {
        arrays = λ i a e. g.arrays i a (so.grown.arrays i a e);
        handed = let n : array_words (take (suc c) cs) ≡ array_words (take c cs) + extent ds = ap array_words tc ∙ words_append (take c cs) (Many ds vs) ds vs refl in omega (arith, n, so.grown.handed, g.handed);
      };
    }

-- all of them
pub columns_whole : (us : List Atom) (cs : Row) (c : ℕ) (A0 A : Arena) (made : List ℕ) → length us ≤ c → length cs ≡ length us → Columns_so us cs c A0 A made → ColumnsMade (sorts_at us) cs A0 A (Ok made)
columns_whole us cs c A0 A made l m so =
    let ts : take c (sorts_at us) ≡ sorts_at us = take_all c (sorts_at us) (omega (arith, l, length-map us sort_at)) in
    let tc : take c cs ≡ cs = take_all c cs (omega (arith, l, m)) in
    columns_made (subst (λ y. AllShow A.arrays (lifted (sorts_at us)) y made) tc (subst (λ y. AllShow A.arrays (lifted y) (take c cs) made) ts so.shown))
    (record { arrays = so.grown.arrays; handed = subst (λ y. A.handed ≤ A0.handed + array_words y) tc so.grown.handed })

unfoldable pub Columns_go : List Atom → ℕ → List ℕ → ℕ → Arena → Arena → List ℕ → Type 0
Columns_go us count ws c A0 A made = (row : Row) (rows : List Row) → Alike_rows A0.arrays us count ws row rows → Columns_so us (columns count (all_sizes row) (row ∷ rows)) c A0 A made

module _ (us : List Atom) (count : ℕ) (ws : List ℕ) (A0 : Arena) where
  pub columns_start : Columns_go us count ws 0 A0 A0 []
  unfolding Columns_go
  columns_start row rows al = record { shown = none_shown; grown = record { arrays = λ i a e. e; handed = omega arith } }

  pub columns_more : (c : ℕ) (A A' : Arena) (w : ℕ) (made made' : List ℕ) → c < length us → Columns_go us count ws c A0 A made → Column_made us c count ws A A' (Ok w) → made' ≡ made ++ w ∷ [] → Columns_go us count ws (c + 1) A0 A' made'
  unfolding Columns_go Column_made
  columns_more c A A' w made made' l h k p row rows al =
      subst (λ z. Columns_so us cs z A0 A' made') (sym (add-one c)) (columns_next us cs c s (count ∷ sizes x) (column_cells c (row ∷ rows)) A0 A A' made made' w there em p (h row rows al) (k s row rows m (alike (h row rows al).grown) there em))
    where
      cs : Row
      cs = columns count (all_sizes row) (row ∷ rows)

      by_rows : (ws : List ℕ) → RowsShow A0.arrays (sorts_at us) (row ∷ rows) ws → (x : Component) × (drop c row ≡ x ∷ drop (suc c) row)
      by_rows _ (row_shown_and {ws = front} x sh) = by_atoms us l x
        where
          by_atoms : (us : List Atom) → c < length us → AllShow A0.arrays (sorts_at us) row front → (x : Component) × (drop c row ≡ x ∷ drop (suc c) row)
          by_atoms [] l x = absurd (omega (arith, l))
          by_atoms (u ∷ us) l x = let y = shown_at A0.arrays (u ∷ us) (sorts_at (u ∷ us)) row front c u 0 l refl x in (y.component, y.left)

      x : Component
      x = (by_rows ws al.shown).0

      m : Component
      m = Many (count ∷ sizes x) (column_cells c (row ∷ rows))

      em : slice_get cs c ≡ Some m
      em = columns_get count (all_sizes row) (row ∷ rows) c (sizes x) (map sizes (drop (suc c) row)) (drop_map sizes c row ∙ ap (map sizes) (by_rows ws al.shown).1)

      sort_of_column : (us : List Atom) → c < length us → (s : Sort) × (slice_get (sorts_at us) c ≡ Some s)
      sort_of_column [] l = absurd (omega (arith, l))
      sort_of_column (u ∷ us) l = (sort_at (get_or (u ∷ us) c u), get_some sort_at (u ∷ us) c u l)

      s : Sort
      s = (sort_of_column us l).0

      there : slice_get (sorts_at us) c ≡ Some s
      there = (sort_of_column us l).1

      alike : Made A0 A (array_words (take c cs)) → Alike_rows A.arrays us count ws row rows
      alike g = record { shown = rows_show_on A0.arrays A.arrays (sorts_at us) (row ∷ rows) ws g.arrays al.shown; many = al.many; alike = al.alike }

  pub columns_end : (c : ℕ) (A : Arena) (made : List ℕ) → length us ≤ c → Columns_go us count ws c A0 A made → Columns_made us count ws A0 A (Ok made)
  unfolding Columns_go Columns_made
  columns_end c A made l h row rows al =
      columns_whole us (columns count (all_sizes row) (row ∷ rows)) c A0 A made l (omega (arith, columns_many count (all_sizes row) (row ∷ rows), length-map row sizes, by_rows ws al.shown, length-map us sort_at)) (h row rows al)
    where
      by_rows : (ws : List ℕ) → RowsShow A0.arrays (sorts_at us) (row ∷ rows) ws → length row ≡ length (sorts_at us)
      by_rows _ (row_shown_and {ws = front} x sh) = (shown_many A0.arrays (sorts_at us) row front x).0

  pub columns_stop : (A : Arena) (e : Stop) → e ≡ Memory → Columns_made us count ws A0 A (Err e)
  unfolding Columns_made
  columns_stop A e q row rows al = subst (λ z. ColumnsMade (sorts_at us) (columns count (all_sizes row) (row ∷ rows)) A0 A (Err z)) (sym q) no_columns

pub ruleset all_made = (columns_start, columns_more, columns_end, columns_stop)
