-- Sizes of rows, and whether they are the same.
use Rattle.std.proofs.Common.{◌≡◌, ℕ, zero, suc, ◌+◌, ◌*◌, ◌<◌, ◌≤◌, List, [], ◌∷◌, ◌++◌, length, get_or, take, drop, slice_get, Some, None, Ok, Err, Bool, true, false, refl, sym, ap, ◌∙◌, subst, arith, add-one}
use Rattle.std.specs.Prelude.{◌&&◌}
use Rattle.std.proofs.Math.Seq.{drop-append_seam, take-append_seam}
use Rattle.std.proofs.Math.Nat.{suc-mul}
use Rattle.std.proofs.lemmas.List.{length-map}
use Rattle.core_arrays.specs.Arenas.{Array}
use Rattle.core_ir.specs.declared.block.Atom.{Atom}
use Rattle.core_ir.specs.Bundles.{Component, Row, sizes, all_sizes, same_sizes, all_same_sizes, all_have}
use Rattle.core_ir.specs.Typed.{Sort}
use Rattle.core_code.specs.Registers.{elem_of, rank_of, Shows, Shows_at, AllShow, none_shown, shown_and}
use Rattle.core_code.specs.declared.stop.Stop.{Stop}
use Rattle.core_code.specs.declared.stop.Stop.TheVariants.{Memory}
use Rattle.core_steps.specs.Gluing.{sort_at, sorts_at, RowsShow, no_rows_shown, row_shown_and, Sized_at, TestTold, test_told, no_test, Row_fits, Rows_fit}
use Rattle.core_steps.proofs.Operands.{drop_past}
use Rattle.core_steps.proofs.Taking.{drop_add}

-- ---- of one component

pub sizes_none : (rs : List Array) (u : Atom) (w : ℕ) → rank_of u ≡ 0 → Sized_at rs u w []
unfolding Sized_at
sizes_none rs u w e c sh = by_rank (rank_of u) e sh
  where
    by_rank : (r : ℕ) → r ≡ 0 → Shows_at rs (elem_of u) r c w → [] ≡ sizes c
    by_rank zero e sh = sym (ap sizes sh.is)
    by_rank (suc r) e sh = absurd (omega (arith, e))

pub sizes_some : (rs : List Array) (u : Atom) (w : ℕ) (ds : List ℕ) → (rank_of u ≡ 0 → ⊥) → ((a : Array) → slice_get rs w ≡ Some a → ds ≡ a.sizes) → Sized_at rs u w ds
unfolding Sized_at
sizes_some rs u w ds ne h c sh = by_rank (rank_of u) ne sh
  where
    by_rank : (r : ℕ) → (r ≡ 0 → ⊥) → Shows_at rs (elem_of u) r c w → ds ≡ sizes c
    by_rank zero ne sh = absurd (ne refl)
    by_rank (suc r) ne sh = h sh.array sh.there ∙ sym (ap sizes sh.is)

pub ruleset sizes_read = (sizes_none, sizes_some)

-- ---- of a row

-- component j of a row that words stand for
pub record Shown_at (rs : List Array) (us : List Atom) (cs : Row) (ws : List ℕ) (j : ℕ) (u : Atom) (w : ℕ) : Type 0 where
  pub component : Component
  pub left : drop j cs ≡ component ∷ drop (suc j) cs
  pub shown : Shows rs (sort_at u) component w

pub shown_at : (rs : List Array) (us : List Atom) (ss : List Sort) (cs : Row) (ws : List ℕ) (j : ℕ) (d : Atom) (e : ℕ) → j < length us → ss ≡ sorts_at us → AllShow rs ss cs ws → Shown_at rs us cs ws j (get_or us j d) (get_or ws j e)
shown_at rs [] ss cs ws j d e l q sh = absurd (omega (arith, l))
shown_at rs (u ∷ us) _ _ _ j d e l q none_shown = absurd (let z : [] ≡ sort_at u ∷ sorts_at us = q in cc)
shown_at rs (u ∷ us) _ _ _ zero d e l q (shown_and {s} {ss} {c} {cs} {w} {ws} x sh) =
    let z : s ≡ sort_at u = let y : s ∷ ss ≡ sort_at u ∷ sorts_at us = q in cc in
    record { component = c; left = refl; shown = subst (λ z. Shows rs z c w) z x }
shown_at rs (u ∷ us) _ _ _ (suc j) d e l q (shown_and {s} {ss} {c} {cs} {w} {ws} x sh) =
    let z : ss ≡ sorts_at us = let y : s ∷ ss ≡ sort_at u ∷ sorts_at us = q in cc in
    let k = shown_at rs us ss cs ws j d e (omega (arith, l)) z sh in
    record { component = k.component; left = k.left; shown = k.shown }

pub shown_many : (rs : List Array) (ss : List Sort) (cs : Row) (ws : List ℕ) → AllShow rs ss cs ws → (length cs ≡ length ss) × (length ws ≡ length ss)
shown_many rs _ _ _ none_shown = (refl, refl)
shown_many rs _ _ _ (shown_and {ss = ss} {cs = cs} {ws = ws} x sh) = let k = shown_many rs ss cs ws sh in (ap suc k.0, ap suc k.1)

-- the components in front have the same sizes
unfoldable pub Fits_to : List Array → List Atom → List ℕ → List ℕ → ℕ → Type 0
Fits_to rs us ws vs j = (cs ds : Row) → AllShow rs (sorts_at us) cs ws → AllShow rs (sorts_at us) ds vs → all_same_sizes (all_sizes cs) (all_sizes ds) ≡ all_same_sizes (all_sizes (drop j cs)) (all_sizes (drop j ds))

module _ (rs : List Array) (us : List Atom) (ws vs : List ℕ) where
  pub fits_start : Fits_to rs us ws vs 0
  unfolding Fits_to
  fits_start cs ds sh th = refl

  module _ (j : ℕ) (d : Atom) (e f : ℕ) (l : j < length us) (h : Fits_to rs us ws vs j) (a b : List ℕ) (p : Sized_at rs (get_or us j d) (get_or ws j e) a) (q : Sized_at rs (get_or us j d) (get_or vs j f) b) where
    here : (cs ds : Row) → AllShow rs (sorts_at us) cs ws → AllShow rs (sorts_at us) ds vs → all_same_sizes (all_sizes cs) (all_sizes ds) ≡ (same_sizes a b && all_same_sizes (all_sizes (drop (suc j) cs)) (all_sizes (drop (suc j) ds)))
    unfolding Fits_to Sized_at
    here cs ds sh th =
        let x = shown_at rs us (sorts_at us) cs ws j d e l refl sh in
        let y = shown_at rs us (sorts_at us) ds vs j d f l refl th in
        h cs ds sh th ∙ ap (λ z. all_same_sizes (all_sizes z) (all_sizes (drop j ds))) x.left ∙ ap (λ z. all_same_sizes (all_sizes (x.component ∷ drop (suc j) cs)) (all_sizes z)) y.left
        ∙ ap (λ z. same_sizes z (sizes y.component) && all_same_sizes (all_sizes (drop (suc j) cs)) (all_sizes (drop (suc j) ds))) (sym (p x.component x.shown))
        ∙ ap (λ z. same_sizes a z && all_same_sizes (all_sizes (drop (suc j) cs)) (all_sizes (drop (suc j) ds))) (sym (q y.component y.shown))

    pub fits_more : (t : Bool) → t ≡ same_sizes a b → t ≡ true → Fits_to rs us ws vs (j + 1)
    unfolding Fits_to
    fits_more t r s cs ds sh th =
        here cs ds sh th ∙ ap (λ z. z && all_same_sizes (all_sizes (drop (suc j) cs)) (all_sizes (drop (suc j) ds))) (sym r ∙ s)
        ∙ ap (λ z. all_same_sizes (all_sizes (drop z cs)) (all_sizes (drop z ds))) (sym (add-one j))

    pub fits_not : (t : Bool) → t ≡ same_sizes a b → t ≡ false → Row_fits rs us ws vs (Ok false)
    unfolding Row_fits
    fits_not t r s cs ds sh th =
        subst (λ z. TestTold z (Ok false)) (sym (here cs ds sh th ∙ ap (λ z. z && all_same_sizes (all_sizes (drop (suc j) cs)) (all_sizes (drop (suc j) ds))) (sym r ∙ s))) test_told

  pub fits_end : (j : ℕ) → length us ≤ j → Fits_to rs us ws vs j → Row_fits rs us ws vs (Ok true)
  unfolding Fits_to Row_fits
  fits_end j l h cs ds sh th =
      let many : length (sorts_at us) ≡ length us = length-map us sort_at in
      let x : drop j cs ≡ [] = drop_past cs j (omega (arith, l, many, (shown_many rs (sorts_at us) cs ws sh).0)) in
      let y : drop j ds ≡ [] = drop_past ds j (omega (arith, l, many, (shown_many rs (sorts_at us) ds vs th).0)) in
      subst (λ z. TestTold z (Ok true)) (sym (h cs ds sh th ∙ ap (λ z. all_same_sizes (all_sizes z) (all_sizes (drop j ds))) x ∙ ap (λ z. all_same_sizes [] (all_sizes z)) y)) test_told

  pub fits_stop : (e : Stop) → e ≡ Memory → Row_fits rs us ws vs (Err e)
  unfolding Row_fits
  fits_stop e q cs ds sh th = subst (λ z. TestTold (all_same_sizes (all_sizes cs) (all_sizes ds)) (Err z)) (sym q) no_test

pub ruleset fits = (fits_start, fits_more, fits_not, fits_end, fits_stop)

-- ---- of rows

pub rows_get : (rs : List Array) (ss : List Sort) (rows : List Row) (ws : List ℕ) (i : ℕ) (row : Row) → RowsShow rs ss rows ws → slice_get rows i ≡ Some row → AllShow rs ss row (take (length ss) (drop (i * length ss) ws))
rows_get rs ss _ _ i row no_rows_shown e = absurd (let z : None ≡ Some row = e in cc)
rows_get rs ss _ _ zero row (row_shown_and {row = r} {rows = rows} {ws = ws} {vs = vs} x sh) e =
    let q : r ≡ row = cc in
    let m = shown_many rs ss r ws x in
    let none : 0 * length ss ≡ 0 = omega arith in
    let f : take (length ss) (drop (0 * length ss) (ws ++ vs)) ≡ ws = ap (λ z. take (length ss) (drop z (ws ++ vs))) none ∙ ap (λ z. take z (ws ++ vs)) (sym m.1) ∙ take-append_seam ws vs in
    subst (λ z. AllShow rs ss z (take (length ss) (drop (0 * length ss) (ws ++ vs)))) q (subst (AllShow rs ss r) (sym f) x)
rows_get rs ss _ _ (suc i) row (row_shown_and {row = r} {rows = rows} {ws = ws} {vs = vs} x sh) e =
    let m = shown_many rs ss r ws x in
    let k : suc i * length ss ≡ length ws + i * length ss = omega (arith, suc-mul i (length ss), m.1) in
    let f : drop (suc i * length ss) (ws ++ vs) ≡ drop (i * length ss) vs =
    ap (λ z. drop z (ws ++ vs)) k ∙ sym (drop_add (length ws) (i * length ss) (ws ++ vs)) ∙ ap (drop (i * length ss)) (drop-append_seam ws vs) in
    subst (λ z. AllShow rs ss row (take (length ss) z)) (sym f) (rows_get rs ss rows vs i row sh e)

unfoldable pub All_fit_to : List Array → List Atom → ℕ → List ℕ → ℕ → Type 0
All_fit_to rs us count ws i = (row : Row) (rows : List Row) → RowsShow rs (sorts_at us) (row ∷ rows) ws → length (row ∷ rows) ≡ count → all_have (all_sizes row) (row ∷ rows) ≡ all_have (all_sizes row) (drop i (row ∷ rows))

record Row_there (rows : List Row) (j : ℕ) : Type 0 where
  row : Row
  there : slice_get rows j ≡ Some row
  left : drop j rows ≡ row ∷ drop (suc j) rows

row_there : (rows : List Row) (j : ℕ) → j < length rows → Row_there rows j
row_there [] j l = absurd (omega arith)
row_there (x ∷ rows) zero l = record { row = x; there = refl; left = refl }
row_there (x ∷ rows) (suc j) l = let k = row_there rows j (omega (arith, l)) in record { row = k.row; there = k.there; left = k.left }

module _ (rs : List Array) (us : List Atom) (count : ℕ) (ws : List ℕ) where
  pub all_fit_start : All_fit_to rs us count ws 0
  unfolding All_fit_to
  all_fit_start row rows sh m = refl

  module _ (i width : ℕ) (l : i < count) (w : width ≡ length us) (h : All_fit_to rs us count ws i) (vs us' : List ℕ) (p : vs ≡ take width (drop (i * width) ws)) (q : us' ≡ take width (drop (0 * width) ws)) (t : Bool) (k : Row_fits rs us vs us' (Ok t)) where
    one : (row : Row) (rows : List Row) → RowsShow rs (sorts_at us) (row ∷ rows) ws → length (row ∷ rows) ≡ count → all_have (all_sizes row) (row ∷ rows) ≡ (t && all_have (all_sizes row) (drop (suc i) (row ∷ rows)))
    unfolding All_fit_to Row_fits
    one row rows sh m = by_row (row_there (row ∷ rows) i (omega (arith, l, m)))
      where
        many : width ≡ length (sorts_at us)
        many = w ∙ sym (length-map us sort_at)

        by_test : (b : Bool) → TestTold b (Ok t) → b ≡ t
        by_test _ test_told = refl

        by_row : Row_there (row ∷ rows) i → all_have (all_sizes row) (row ∷ rows) ≡ (t && all_have (all_sizes row) (drop (suc i) (row ∷ rows)))
        by_row r =
            let x = subst (AllShow rs (sorts_at us) r.row) (ap (λ z. take z (drop (i * z) ws)) (sym many) ∙ sym p) (rows_get rs (sorts_at us) (row ∷ rows) ws i r.row sh r.there) in
            let y = subst (AllShow rs (sorts_at us) row) (ap (λ z. take z (drop (0 * z) ws)) (sym many) ∙ sym q) (rows_get rs (sorts_at us) (row ∷ rows) ws 0 row sh refl) in
            h row rows sh m ∙ ap (all_have (all_sizes row)) r.left ∙ ap (λ z. z && all_have (all_sizes row) (drop (suc i) (row ∷ rows))) (by_test (all_same_sizes (all_sizes r.row) (all_sizes row)) (k r.row row x y))

    pub all_fit_more : t ≡ true → All_fit_to rs us count ws (i + 1)
    unfolding All_fit_to
    all_fit_more e row rows sh m =
        one row rows sh m ∙ ap (λ z. z && all_have (all_sizes row) (drop (suc i) (row ∷ rows))) e ∙ ap (λ z. all_have (all_sizes row) (drop z (row ∷ rows))) (sym (add-one i))

    pub all_fit_not : t ≡ false → Rows_fit rs us count ws (Ok false)
    unfolding Rows_fit
    all_fit_not e row rows sh m = subst (λ z. TestTold z (Ok false)) (sym (one row rows sh m ∙ ap (λ z. z && all_have (all_sizes row) (drop (suc i) (row ∷ rows))) e)) test_told

  pub all_fit_end : (i : ℕ) → count ≤ i → All_fit_to rs us count ws i → Rows_fit rs us count ws (Ok true)
  unfolding All_fit_to Rows_fit
  all_fit_end i l h row rows sh m =
      subst (λ z. TestTold z (Ok true)) (sym (h row rows sh m ∙ ap (all_have (all_sizes row)) (drop_past (row ∷ rows) i (omega (arith, l, m))))) test_told

  pub all_fit_stop : (e : Stop) → e ≡ Memory → Rows_fit rs us count ws (Err e)
  unfolding Rows_fit
  all_fit_stop e q row rows sh m = subst (λ z. TestTold (all_have (all_sizes row) (row ∷ rows)) (Err z)) (sym q) no_test

pub ruleset all_fits = (all_fit_start, all_fit_more, all_fit_not, all_fit_end, all_fit_stop)
