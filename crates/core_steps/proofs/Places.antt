-- The rows that pass a test, and those that do not.
use Rattle.std.proofs.Common.{◌≡◌, ℕ, zero, suc, ◌+◌, ◌-◌, ◌*◌, ◌<◌, ◌≤◌, List, [], ◌∷◌, ◌++◌, map, flat_map, length, get_or, take, drop, slice_get, nat_le, Some, Err, Bool, true, false, not, cond, refl, sym, ap, ◌∙◌, subst, arith, add-one, append_assoc}
use Rattle.std.specs.Prelude.{◌==◌, ◌&&◌}
use Rattle.std.proofs.Math.Nat.{suc-mul, mul-le-mul_right}
use Rattle.std.proofs.Math.Seq.{drop-append_seam, drop-cons, take-append_seam}
use Rattle.std.proofs.lemmas.List.{append-nil, length-append, length-drop, length-map, length-take-le, take_all}
use Rattle.fut_scalar.specs.declared.place.Place.{Place}
use Rattle.fut_scalar.specs.declared.report.FailKind.TheVariants as kind
use Rattle.fut_scalar.specs.declared.scalar.Scalar.{Scalar}
use Rattle.fut_scalar.specs.declared.scalar.ScalarType.{ScalarType}
use Rattle.fut_arithmetic.specs.Words.{scalar_of_word}
use Rattle.fut_value.specs.Leaves.{extent}
use Rattle.fut_meaning.specs.Arrays.{checked, fitting, most_words}
use Rattle.fut_meaning.specs.Outcomes.{Val, and_then}
use Rattle.core_arrays.specs.Arenas.{Array}
use Rattle.core_ir.specs.declared.block.Atom.{Atom}
use Rattle.core_ir.specs.Arrays.{array_sizes}
use Rattle.core_ir.specs.Bundles.{Component, Many, Row, sizes, cells, all_sizes, formed, rows_in, column, size_of, across, rows_of, first_cells, others, columns, bundle, all_same_sizes, all_have, stacked, row_sizes, within_weight, glued, array_words}
use Rattle.core_ir.specs.Lists.{parts, sifted}
use Rattle.core_ir.specs.Meaning.{kept}
use Rattle.core_ir.specs.Plain.{Bundle}
use Rattle.core_ir.specs.Typed.{Sort, lifted, Bundled, bare, full, Atom_is, Atoms_are}
use Rattle.core_code.specs.Registers.{State, state, ShowsArray, AllShow, none_shown, shown_and}
use Rattle.core_code.specs.Answers.{Answer}
use Rattle.core_code.specs.declared.stop.Stop.{Stop}
use Rattle.core_code.specs.declared.stop.Stop.TheVariants.{Memory}
use Rattle.core_steps.specs.Choosing.{piece, chosen, all_chosen, picked, places_of, truths, Below, none_below, below_and, Long, array_and, RowsChosen, rows_chosen, no_rows_chosen, Rows_chosen, PassingTold, passing_told, no_passing, Passing_told, No_rows_told}
use Rattle.core_steps.specs.Gluing.{GluedTold, glued_told, no_glue, Bare_told}
use Rattle.core_steps.specs.Rows.{Row_at, none_at, at_and}
use Rattle.core_steps.proofs.Bundling.{across_get, deep}
use Rattle.core_steps.proofs.Emptying.{glued_none}
use Rattle.core_steps.proofs.Gathering.{drop_map}
use Rattle.core_steps.proofs.Glueing.{test_yes, bare_weight}
use Rattle.core_steps.proofs.Operands.{drop_past, get_map, same_many, values_many}
use Rattle.core_steps.proofs.Repeating.{all_same_as_themselves}
use Rattle.core_steps.proofs.Taking.{parts_get}

-- ---- their numbers

next_truth : (ws : List ℕ) (i d : ℕ) → i < length ws → drop i (truths ws) ≡ not (get_or ws i d == 0) ∷ drop (suc i) (truths ws)
next_truth ws i d l =
    drop_map (λ w. not (w == 0)) i ws ∙ ap truths (drop-cons ws i d l) ∙ ap (λ z. not (get_or ws i d == 0) ∷ z) (sym (drop_map (λ w. not (w == 0)) (suc i) ws))

unfoldable pub Places_go : Bool → List ℕ → ℕ → List ℕ → Type 0
Places_go b ws i is = is ++ places_of b i (drop i (truths ws)) ≡ places_of b 0 (truths ws)

module _ (b : Bool) (ws : List ℕ) where
  pub places_start : Places_go b ws 0 []
  unfolding Places_go
  places_start = refl

  at_next : (i d : ℕ) (is is' : List ℕ) (t : Bool) → i < length ws → Places_go b ws i is → t ≡ picked b (not (get_or ws i d == 0)) → is' ++ places_of b (suc i) (drop (suc i) (truths ws)) ≡ is ++ cond t (i ∷ places_of b (suc i) (drop (suc i) (truths ws))) (places_of b (suc i) (drop (suc i) (truths ws))) → Places_go b ws (i + 1) is'
  unfolding Places_go
  at_next i d is is' t l h e f =
      ap (λ z. is' ++ places_of b z (drop z (truths ws))) (add-one i) ∙ f
      ∙ ap (λ z. is ++ cond z (i ∷ places_of b (suc i) (drop (suc i) (truths ws))) (places_of b (suc i) (drop (suc i) (truths ws)))) e
      ∙ ap (λ z. is ++ places_of b i z) (sym (next_truth ws i d l)) ∙ h

  pub places_taken : (i d k : ℕ) (is is' : List ℕ) (t : Bool) → i < length ws → Places_go b ws i is → t ≡ picked b (not (get_or ws i d == 0)) → t ≡ true → is' ≡ is ++ k ∷ [] → k ≡ i → Places_go b ws (i + 1) is'
  places_taken i d k is is' t l h e q p r =
      at_next i d is is' t l h e
      (ap (λ z. z ++ places_of b (suc i) (drop (suc i) (truths ws))) (p ∙ ap (λ z. is ++ z ∷ []) r) ∙ append_assoc is (i ∷ []) (places_of b (suc i) (drop (suc i) (truths ws)))
      ∙ ap (λ z. is ++ cond z (i ∷ places_of b (suc i) (drop (suc i) (truths ws))) (places_of b (suc i) (drop (suc i) (truths ws)))) (sym q))

  pub places_passed : (i d : ℕ) (is : List ℕ) (t : Bool) → i < length ws → Places_go b ws i is → t ≡ picked b (not (get_or ws i d == 0)) → t ≡ false → Places_go b ws (i + 1) is
  places_passed i d is t l h e q =
      at_next i d is is t l h e (ap (λ z. is ++ cond z (i ∷ places_of b (suc i) (drop (suc i) (truths ws))) (places_of b (suc i) (drop (suc i) (truths ws)))) (sym q))

  pub places_end : (i : ℕ) (is : List ℕ) → length ws ≤ i → Places_go b ws i is → is ≡ places_of b 0 (truths ws)
  unfolding Places_go
  places_end i is l h = sym (append-nil is) ∙ ap (λ z. is ++ places_of b i z) (sym (drop_past (truths ws) i (omega (arith, l, length-map ws (λ w. not (w == 0)))))) ∙ h

pub ruleset passing = (places_start, places_taken, places_passed, places_end)

places_below : (b : Bool) (k : ℕ) (ts : List Bool) → Below (k + length ts) (places_of b k ts)
places_below b k [] = none_below
places_below b k (t ∷ ts) = let e : suc k + length ts ≡ k + length (t ∷ ts) = omega arith in by_picked (picked b t) (subst (λ z. Below z (places_of b (suc k) ts)) e (places_below b (suc k) ts))
  where
    by_picked : (p : Bool) → Below (k + length (t ∷ ts)) (places_of b (suc k) ts) → Below (k + length (t ∷ ts)) (cond p (k ∷ places_of b (suc k) ts) (places_of b (suc k) ts))
    by_picked true rest = below_and (omega arith) rest
    by_picked false rest = rest

pub places_within : (b : Bool) (n : ℕ) (ts : List Bool) → length ts ≡ n → Below n (places_of b 0 ts)
places_within b n ts e = let q : 0 + length ts ≡ n = omega (arith, e) in subst (λ z. Below z (places_of b 0 ts)) q (places_below b 0 ts)

pub places_few : (b : Bool) (k : ℕ) (ts : List Bool) → length (places_of b k ts) ≤ length ts
places_few b k [] = omega arith
places_few b k (t ∷ ts) = let h = places_few b (suc k) ts in by_picked (picked b t) h
  where
    by_picked : (p : Bool) → length (places_of b (suc k) ts) ≤ length ts → length (cond p (k ∷ places_of b (suc k) ts) (places_of b (suc k) ts)) ≤ length (t ∷ ts)
    by_picked true h = omega (arith, h)
    by_picked false h = omega (arith, h)

-- ---- the call

module _ (us : List Atom) (mark : ℕ) (S S' : State) where
  pub keep_stop : (e : Stop) → e ≡ Memory → Passing_told us mark S S' (Err e)
  unfolding Passing_told
  keep_stop e q G env m n ss cs below ws st a v lo p l k = subst (λ z. PassingTold (places_of true 0 (truths ws)) cs ss below S S' (Err z)) (sym q) no_passing

  pub keep_done : (words is s1 : List ℕ) (r : Answer) → words ≡ take (length S.stack - mark) (drop mark S.stack) → is ≡ places_of true 0 (truths words) → s1 ≡ take mark S.stack → Rows_chosen us is (state S.arena S.words s1) S' r → Passing_told us mark S S' r
  unfolding Rows_chosen Passing_told
  keep_done words is s1 r w e f h G env m n ss cs below ws st a v lo p l k =
      subst (λ z. PassingTold z cs ss below S S' r) same (by_chosen (h G env m n ss cs st a v lo (subst (Below n) (sym same) (places_within true n (truths ws) (length-map ws (λ w. not (w == 0)) ∙ k)))))
    where
      above : words ≡ ws
      above =
          let d : drop mark S.stack ≡ ws = ap (λ z. drop z S.stack) (sym l) ∙ ap (drop (length below)) p ∙ drop-append_seam below ws in
          w ∙ ap (take (length S.stack - mark)) d ∙ take_all (length S.stack - mark) ws (let n : length S.stack ≡ length below + length ws = ap length p ∙ length-append below ws in omega (arith, n, l))

      same : is ≡ places_of true 0 (truths ws)
      same = e ∙ ap (λ z. places_of true 0 (truths z)) above

      left : s1 ≡ below
      left = f ∙ ap (take mark) p ∙ ap (λ z. take z (below ++ ws)) (sym l) ∙ take-append_seam below ws

      by_chosen : {r : Answer} → RowsChosen is cs ss (state S.arena S.words s1) S' r → PassingTold is cs ss below S S' r
      by_chosen (rows_chosen vs sh q g) = passing_told vs sh (q ∙ ap (λ z. z ++ vs) left) (record { arrays = g.arrays; handed = g.handed })
      by_chosen no_rows_chosen = no_passing

pub ruleset filters = (keep_stop)

-- ---- what the meaning has

-- an array by its rows
record Whole (n : ℕ) (c : Component) : Type 0 where
  each : List ℕ
  words : List Scalar
  is : c ≡ Many (n ∷ each) words
  full : length words ≡ n * extent each

whole_of : (rs : List Array) (s : Sort) (c : Component) (w n : ℕ) → ShowsArray rs s.0 (suc s.1) c w → rows_in c ≡ Val n → Whole n c
whole_of rs s c w n x e = by_sizes x.array.sizes refl
  where
    f : ℕ → Scalar
    f = scalar_of_word s.0

    by_sizes : (ds : List ℕ) → x.array.sizes ≡ ds → Whole n c
    by_sizes [] q = let z : length x.array.sizes ≡ 0 = ap length q in absurd (omega (arith, z, x.deep))
    by_sizes (m ∷ ds) q =
        let whole : c ≡ Many (m ∷ ds) (map f x.array.words) = x.is ∙ ap (λ z. Many z (map f x.array.words)) q in
        let same : m ≡ n = let z : Val m ≡ Val n = sym (ap rows_in whole) ∙ e in cc in
        record { each = ds; words = map f x.array.words; is = whole ∙ ap (λ z. Many (z ∷ ds) (map f x.array.words)) same; full = length-map x.array.words f ∙ x.full ∙ ap extent q ∙ ap (λ z. z * extent ds) same }

data Wholes (n : ℕ) : Row → Type 0 where
  no_whole : Wholes n []
  whole_and : {c : Component} {cs : Row} → Whole n c → Wholes n cs → Wholes n (c ∷ cs)

wholes_of : (rs : List Array) (ss : List Sort) (n : ℕ) (cs : Row) (ws : List ℕ) → AllShow rs (lifted ss) cs ws → Long n cs → Wholes n cs
wholes_of rs [] n _ _ none_shown l = no_whole
wholes_of rs (s ∷ ss) n _ _ (shown_and {c = c} {cs = cs} {w = w} {ws = ws} x sh) (array_and e l) = whole_and (whole_of rs s c w n x e) (wholes_of rs ss n cs ws sh l)

formed_sizes : (ds : List ℕ) (xs : List Scalar) → length xs ≡ extent ds → sizes (formed ds xs) ≡ ds
formed_sizes [] [] e = absurd (omega (arith, e))
formed_sizes [] (x ∷ xs) e = refl
formed_sizes (d ∷ ds) xs e = refl

piece_sizes : (n i : ℕ) (c : Component) → i < n → Whole n c → sizes (piece i c) ≡ drop 1 (sizes c)
piece_sizes n i c l w =
    let k : ℕ = extent w.each in
    let within : suc i * k ≤ n * k = mul-le-mul_right k l in
    let full : length (take k (drop (i * k) w.words)) ≡ k = length-take-le k (drop (i * k) w.words) (omega (arith, length-drop (i * k) w.words, w.full, within, suc-mul i k)) in
    ap (λ z. sizes (piece i z)) w.is ∙ formed_sizes w.each (take k (drop (i * k) w.words)) full ∙ sym (ap (λ z. drop 1 (sizes z)) w.is)

column_piece : (n i : ℕ) (c : Component) → i < n → Whole n c → slice_get (column c) i ≡ Some (piece i c)
column_piece n i c l w =
    let k : ℕ = extent w.each in
    ap (λ z. slice_get (column z) i) w.is ∙ get_map (formed w.each) (parts n k w.words) i (take k (drop (i * k) w.words)) (parts_get n k w.words i l) ∙ sym (ap (λ z. Some (piece i z)) w.is)

abbrev pieces : Row → ℕ → Row
pieces cs i = map (piece i) cs

row_at_pieces : (n i : ℕ) (cs : Row) → i < n → Wholes n cs → Row_at i cs (pieces cs i)
row_at_pieces n i _ l no_whole = none_at
row_at_pieces n i _ l (whole_and {c = c} {cs = cs} x w) = at_and (column_piece n i c l x) (row_at_pieces n i cs l w)

pieces_sizes : (n i : ℕ) (cs : Row) → i < n → Wholes n cs → all_sizes (pieces cs i) ≡ map (drop 1) (all_sizes cs)
pieces_sizes n i _ l no_whole = refl
pieces_sizes n i _ l (whole_and {c = c} {cs = cs} x w) = ap (λ z. z ∷ all_sizes (pieces cs i)) (piece_sizes n i c l x) ∙ ap (λ z. drop 1 (sizes c) ∷ z) (pieces_sizes n i cs l w)

have_pieces : (n : ℕ) (cs : Row) (is : List ℕ) → Wholes n cs → Below n is → all_have (map (drop 1) (all_sizes cs)) (map (pieces cs) is) ≡ true
have_pieces n cs _ w none_below = refl
have_pieces n cs _ w (below_and {i = i} {is = is} l b) =
    ap (λ z. all_same_sizes z (map (drop 1) (all_sizes cs)) && all_have (map (drop 1) (all_sizes cs)) (map (pieces cs) is)) (pieces_sizes n i cs l w)
    ∙ ap (λ z. z && all_have (map (drop 1) (all_sizes cs)) (map (pieces cs) is)) (all_same_as_themselves (map (drop 1) (all_sizes cs))) ∙ have_pieces n cs is w b

firsts : (g : ℕ → Component) (h : ℕ → Row) (is : List ℕ) → flat_map first_cells (map (λ i. g i ∷ h i) is) ≡ flat_map (λ i. cells (g i)) is
firsts g h [] = refl
firsts g h (i ∷ is) = ap (λ z. cells (g i) ++ z) (firsts g h is)

rests : (g : ℕ → Component) (h : ℕ → Row) (is : List ℕ) → map others (map (λ i. g i ∷ h i) is) ≡ map h is
rests g h [] = refl
rests g h (i ∷ is) = ap (λ z. h i ∷ z) (rests g h is)

columns_chosen : (k : ℕ) (cs : Row) (is : List ℕ) → length is ≡ k → columns k (map (drop 1) (all_sizes cs)) (map (pieces cs) is) ≡ all_chosen is cs
columns_chosen k [] is e = refl
columns_chosen k (c ∷ cs) is e =
    ap (λ z. Many (k ∷ drop 1 (sizes c)) z ∷ columns k (map (drop 1) (all_sizes cs)) (map others (map (pieces (c ∷ cs)) is))) (firsts (λ i. piece i c) (pieces cs) is)
    ∙ ap (λ z. Many (z ∷ drop 1 (sizes c)) (flat_map (λ i. cells (piece i c)) is) ∷ columns k (map (drop 1) (all_sizes cs)) (map others (map (pieces (c ∷ cs)) is))) (sym e)
    ∙ ap (λ z. chosen is c ∷ columns k (map (drop 1) (all_sizes cs)) z) (rests (λ i. piece i c) (pieces cs) is) ∙ ap (λ z. chosen is c ∷ z) (columns_chosen k cs is e)

sifted_places : {A : Type 0} (b : Bool) (g : ℕ → A) (xs : List A) (ts : List Bool) (k : ℕ) → ((i : ℕ) → i < length xs → slice_get xs i ≡ Some (g (k + i))) → length ts ≡ length xs → sifted b xs ts ≡ map g (places_of b k ts)
sifted_places b g [] [] k h l = refl
sifted_places b g [] (t ∷ ts) k h l = absurd (omega (arith, l))
sifted_places b g (x ∷ xs) [] k h l = absurd (omega (arith, l))
sifted_places {A} b g (x ∷ xs) (t ∷ ts) k h l =
    by_case b t (sifted_places b g xs ts (suc k) (λ i m. let e : k + suc i ≡ suc k + i = omega arith in h (suc i) (omega (arith, m)) ∙ ap (λ z. Some (g z)) e) (omega (arith, l)))
  where
    first : x ≡ g k
    first = let e : k + 0 ≡ k = omega arith in let q : Some x ≡ Some (g k) = h 0 (omega arith) ∙ ap (λ z. Some (g z)) e in cc

    by_case : (b t : Bool) → sifted b xs ts ≡ map g (places_of b (suc k) ts) → sifted b (x ∷ xs) (t ∷ ts) ≡ map g (places_of b k (t ∷ ts))
    by_case true true r = ap (λ z. x ∷ z) r ∙ ap (λ z. z ∷ map g (places_of true (suc k) ts)) first
    by_case true false r = r
    by_case false true r = r
    by_case false false r = ap (λ z. x ∷ z) r ∙ ap (λ z. z ∷ map g (places_of false (suc k) ts)) first

bundle_some : (n : ℕ) (ds : List (List ℕ)) (rows : List Row) → (length ds ≡ 0 → ⊥) → bundle n ds rows ≡ columns n ds rows
bundle_some n [] rows ne = absurd (ne refl)
bundle_some n (d ∷ ds) rows ne = refl

-- the rows of arrays that pass are those of their places
pub kept_is : (at : Place) (b : Bool) (rs : List Array) (ss : List Sort) (n : ℕ) (cs : Row) (ws : List ℕ) (ts : List Bool) → AllShow rs (lifted ss) cs ws → (length cs ≡ 0 → ⊥) → Long n cs → size_of false at cs ≡ Val n → length (across n cs) ≡ n → length ts ≡ n → kept false at b cs ts ≡ Val (all_chosen (places_of b 0 ts) cs)
unfolding rows_of stacked
kept_is at b rs ss n cs ws ts sh ne lo e many l =
    ap (λ z. and_then (and_then z (λ n. Val (across n cs))) (λ rs. stacked false at (array_sizes cs) (sifted b rs ts))) e
    ∙ ap (stacked false at ds) (sifted_places b (pieces cs) (across n cs) ts 0 (λ i m. across_get n i cs (pieces cs i) (omega (arith, m, many)) (row_at_pieces n i cs (omega (arith, m, many)) w) ∙ (let z : i ≡ 0 + i = omega arith in ap (λ z. Some (pieces cs z)) z)) (l ∙ sym many))
    ∙ ap (λ z. fitting false z at (Val (bundle (length (map (pieces cs) is)) ds (map (pieces cs) is)))) (have_pieces n cs is w (places_within b n ts l))
    ∙ ap Val (bundle_some (length (map (pieces cs) is)) ds (map (pieces cs) is) (λ z. ne (omega (arith, z, length-map (all_sizes cs) (drop 1), length-map cs sizes))) ∙ columns_chosen (length (map (pieces cs) is)) cs is (sym (length-map is (pieces cs))))
  where
    is : List ℕ
    is = places_of b 0 ts

    ds : List (List ℕ)
    ds = map (drop 1) (all_sizes cs)

    w : Wholes n cs
    w = wholes_of rs ss n cs ws sh lo

-- and they have no more words
pub chosen_words : (rs : List Array) (ss : List Sort) (n : ℕ) (cs : Row) (ws is : List ℕ) → AllShow rs (lifted ss) cs ws → Long n cs → length is ≤ n → array_words (all_chosen is cs) ≤ array_words cs
chosen_words rs ss n cs ws is sh lo l = by_wholes cs (wholes_of rs ss n cs ws sh lo)
  where
    by_wholes : (cs : Row) → Wholes n cs → array_words (all_chosen is cs) ≤ array_words cs
    by_wholes _ no_whole = omega arith
    by_wholes _ (whole_and {c = c} {cs = cs} x w) =
        let k : ℕ = extent x.each in
        let few : length is * k ≤ n * k = mul-le-mul_right k l in
        let a : extent (length is ∷ drop 1 (sizes c)) ≡ length is * k = ap (λ z. extent (length is ∷ drop 1 (sizes z))) x.is in
        let b : array_words (c ∷ cs) ≡ n * k + array_words cs = ap (λ z. array_words (z ∷ cs)) x.is in
        let h = by_wholes cs w in
        omega (arith, few, a, b, h)

-- ---- arrays of no rows

none_within : (at : Place) → within_weight at (bundle 0 [] []) ≡ Val (bundle 0 [] [])
unfolding within_weight
none_within at =
    ap (λ z. checked (nat_le z most_words) kind.TooLarge at (Val (bundle 0 [] []))) (bare_weight 0) ∙ ap (λ z. checked z kind.TooLarge at (Val (bundle 0 [] []))) (test_yes 0 most_words (omega arith))

module _ (r : Bundle) (at : Place) (S S' : State) where
  no_rows_bare : (row bs : List Sort) → Bundled row bs → 0 ≡ length row → (t : ScalarType) × (bs ≡ (t, 2) ∷ [])
  no_rows_bare _ _ (bare {t}) e = (t, refl)
  no_rows_bare _ _ full e = absurd (omega (arith, e))

  pub none_bare : (mark : ℕ) (a : Answer) → r.width ≡ 0 → mark ≡ length S.stack → Bare_told 0 mark at S S' a → No_rows_told r at S S' a
  unfolding Bare_told No_rows_told
  none_bare mark a e p h G env m n row cs st x v lo =
      let t = no_rows_bare row x.sorts x.bundled (sym e ∙ x.wide) in
      subst (λ z. GluedTold (glued false at (row_sizes r.width cs) []) z S.stack S S' a) (sym t.1)
      (subst (λ z. GluedTold (glued false at (row_sizes z cs) []) ((t.0, 2) ∷ []) S.stack S S' a) (sym e)
      (subst (λ z. GluedTold z ((t.0, 2) ∷ []) S.stack S S' a) (none_within at ∙ sym (glued_none at [])) (h S.stack [] t.0 (sym (append-nil S.stack)) (sym p))))

  pub none_chosen : (a : Answer) → (r.width ≡ 0 → ⊥) → Rows_chosen r.arrays [] S S' a → No_rows_told r at S S' a
  unfolding Rows_chosen No_rows_told
  none_chosen a ne h G env m n row cs st x v lo = by_sorts (deep row x.sorts x.bundled)
    where
      by_width : (w : ℕ) → (w ≡ 0 → ⊥) → (length cs ≡ 0 → ⊥) → glued false at (row_sizes w cs) [] ≡ Val (all_chosen [] cs)
      by_width zero ne some = absurd (ne refl)
      by_width (suc w) ne some =
          glued_none at (map (drop 1) (all_sizes cs)) ∙ ap Val (bundle_some 0 (map (drop 1) (all_sizes cs)) [] (λ z. some (omega (arith, z, length-map (all_sizes cs) (drop 1), length-map cs sizes))) ∙ columns_chosen 0 cs [] refl)

      by_chosen : {a : Answer} (ss : List Sort) → x.sorts ≡ lifted ss → RowsChosen [] cs ss S S' a → GluedTold (glued false at (row_sizes r.width cs) []) x.sorts S.stack S S' a
      by_chosen ss so (rows_chosen ws sh q g) = glued_told (all_chosen [] cs) ws (by_width r.width ne (some_arrays x.sorts x.bundled x.are)) (subst (λ z. AllShow S'.arena.arrays z (all_chosen [] cs) ws) (sym so) sh) q g
        where
          some_arrays : (bs : List Sort) → Bundled row bs → Atoms_are G r.arrays bs → length cs ≡ 0 → ⊥
          some_arrays bs b k z = let long = values_many env r.arrays cs v in by_bundled row bs b (omega (arith, long, z, same_many (Atom_is G) r.arrays bs k))
            where
              by_bundled : (row bs : List Sort) → Bundled row bs → length bs ≡ 0 → ⊥
              by_bundled _ _ bare e = absurd (omega (arith, e))
              by_bundled _ _ full e = absurd (omega (arith, e))
      by_chosen ss so no_rows_chosen = no_glue

      by_sorts : (ss : List Sort) × (x.sorts ≡ lifted ss) → GluedTold (glued false at (row_sizes r.width cs) []) x.sorts S.stack S S' a
      by_sorts ss = by_chosen ss.0 ss.1 (h G env m n ss.0 cs st (subst (Atoms_are G r.arrays) ss.1 x.are) v lo none_below)

pub ruleset nones = (none_bare, none_chosen)
