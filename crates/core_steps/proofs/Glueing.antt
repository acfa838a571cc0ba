-- Rows that are put into arrays.
use Rattle.std.proofs.Common.{◌≡◌, ℕ, suc, ◌+◌, ◌-◌, ◌*◌, ◌<◌, ◌≤◌, ◌^◌, min, List, [], ◌∷◌, ◌++◌, map, length, take, drop, slice_get, Ok, Err, Bool, true, false, nat_le, get_or, OnOk, refl, sym, ap, ◌∙◌, subst, arith, add-one, append_assoc}
use Rattle.std.proofs.Math.Seq.{drop-append_seam, take-append_seam, drop-cons}
use Rattle.std.proofs.lemmas.Bool.{leb-true, leb-false}
use Rattle.std.proofs.lemmas.List.{length-append, length-drop, length-map, take_all, get_or-drop, get_or_append_left}
use Rattle.fut_scalar.specs.declared.place.Place.{Place}
use Rattle.fut_scalar.specs.declared.report.FailKind.TheVariants as kind
use Rattle.fut_scalar.specs.declared.scalar.ScalarType.{ScalarType}
use Rattle.fut_value.specs.Leaves.{extent}
use Rattle.fut_meaning.specs.Arrays.{checked, fitting, most_words}
use Rattle.fut_meaning.specs.Operations.{report}
use Rattle.fut_meaning.specs.Outcomes.{Val, and_then}
use Rattle.core_arrays.specs.Arenas.{Array, Arena, array, with_array}
use Rattle.core_ir.specs.declared.block.Atom.{Atom}
use Rattle.core_ir.specs.Bundles.{Many, Row, sizes, all_sizes, all_have, weight_of, within_weight, columns, bundle, others, stacked, glued, array_words}
use Rattle.core_ir.specs.Typed.{Sort, lifted, Bundled, bare, full}
use Rattle.core_code.specs.Registers.{State, ShowsArray, AllShow, none_shown, shown_and}
use Rattle.core_code.specs.Answers.{Answer, OnlyMemory, Pushed, pushed}
use Rattle.core_code.specs.Answers as answer
use Rattle.core_code.specs.declared.stop.Stop.{Stop}
use Rattle.core_code.specs.declared.stop.Stop.TheVariants.{Failed, Memory}
use Rattle.core_steps.specs.Gluing.{sort_at, sorts_at, RowsShow, no_rows_shown, row_shown_and, TestTold, test_told, Rows_fit, Within_told, Made, ColumnsMade, columns_made, Columns_made, GluedTold, glued_told, glue_failed, no_glue, Bare_told, Glued_told}
use Rattle.core_steps.proofs.Operands.{get_behind, get_front, next_of}
use Rattle.core_steps.proofs.Sizing.{shown_many, rows_get}

pub told_is : (b c : Bool) → TestTold b (Ok c) → b ≡ c
told_is _ _ test_told = refl

pub test_yes : (n m : ℕ) → n ≤ m → nat_le n m ≡ true
test_yes n m l = by_test (nat_le n m) refl
  where
    by_test : (b : Bool) → nat_le n m ≡ b → nat_le n m ≡ true
    by_test true q = q
    by_test false q = let k = leb-false n m q in absurd (omega (arith, k, l))

pub test_no : (n m : ℕ) → m < n → nat_le n m ≡ false
test_no n m l = by_test (nat_le n m) refl
  where
    by_test : (b : Bool) → nat_le n m ≡ b → nat_le n m ≡ false
    by_test true q = let k = leb-true n m q in absurd (omega (arith, k, l))
    by_test false q = q

-- ---- rows without components

pub bare_weight : (n : ℕ) → weight_of ((n ∷ 0 ∷ []) ∷ []) ≡ n
bare_weight n = let a : 1 * n * 0 ≡ 0 = omega arith in let b : n * (0 * 1) ≡ 0 = (let c : 0 * 1 ≡ 0 = omega arith in ap (λ z. n * z) c ∙ (let d : n * 0 ≡ 0 = omega arith in d)) in omega (arith, a, b)

module _ (count mark : ℕ) (at : Place) (S S' : State) where
  pub bare_large : (e : Stop) → 33554432 < count → e ≡ Failed (report kind.TooLarge at) → Bare_told count mark at S S' (Err e)
  unfolding Bare_told within_weight
  bare_large e l q below ws t p m =
      subst (λ z. GluedTold (within_weight at (bundle count [] [])) ((t, 2) ∷ []) below S S' (Err z)) (sym q)
      (glue_failed (ap (λ z. checked z kind.TooLarge at (Val (bundle count [] []))) (ap (λ z. nat_le z most_words) (bare_weight count) ∙ test_no count most_words l)))

  pub bare_ok : (sizes s1 : List ℕ) (number : ℕ) (r : Answer) → count ≤ 33554432 → sizes ≡ count ∷ 0 ∷ [] → number ≡ length S.arena.arrays → S'.arena ≡ with_array S.arena sizes [] → s1 ≡ take mark S.stack → Pushed number s1 S'.stack r → Bare_told count mark at S S' r
  unfolding Bare_told within_weight
  bare_ok sizes s1 number r l e n p q w below ws t d m = by_push w
    where
      made : Array
      made = array sizes []

      shown : ShowsArray S'.arena.arrays t 2 (Many (count ∷ 0 ∷ []) []) number
      shown = record {
        array = made;
        there = ap (λ (z : Arena). slice_get z.arrays number) p ∙ ap (slice_get (S.arena.arrays ++ made ∷ [])) n ∙ get_behind S.arena.arrays made;
        is = ap (λ z. Many z []) (sym e);
        deep = ap length e;
        full = sym (ap extent e ∙ (let c : 0 * 1 ≡ 0 = omega arith in ap (λ z. count * z) c) ∙ (let d : count * 0 ≡ 0 = omega arith in d));
      }

      grown : Made S.arena S'.arena (array_words (bundle count [] []))
      grown = record { arrays = λ i a z. ap (λ (y : Arena). slice_get y.arrays i) p ∙ get_front S.arena.arrays (made ∷ []) i a z; handed = let c : S'.arena.handed ≡ min (S.arena.handed + 0) (2 ^ 64 - 1) = ap (λ (z : Arena). z.handed) p in omega (arith, c) }

      by_push : {r : Answer} → Pushed number s1 S'.stack r → GluedTold (within_weight at (bundle count [] [])) ((t, 2) ∷ []) below S S' r
      by_push (pushed y) =
          glued_told (bundle count [] []) (number ∷ []) (ap (λ z. checked z kind.TooLarge at (Val (bundle count [] []))) (ap (λ z. nat_le z most_words) (bare_weight count) ∙ test_yes count most_words l)) (shown_and shown none_shown)
          (y ∙ ap (λ z. z ++ number ∷ []) (q ∙ ap (take mark) d ∙ ap (λ z. take z (below ++ ws)) (sym m) ∙ take-append_seam below ws)) grown
      by_push answer.not_pushed = no_glue

  pub bare_stop : (e : Stop) → e ≡ Memory → Bare_told count mark at S S' (Err e)
  unfolding Bare_told
  bare_stop e q below ws t p m = subst (λ z. GluedTold (within_weight at (bundle count [] [])) ((t, 2) ∷ []) below S S' (Err z)) (sym q) no_glue

pub ruleset bares = (bare_large, bare_stop)

-- ---- rows with components

pub columns_sizes : (n : ℕ) (ds : List (List ℕ)) (rows : List Row) → all_sizes (columns n ds rows) ≡ map (λ d. n ∷ d) ds
columns_sizes n [] rows = refl
columns_sizes n (d ∷ ds) rows = ap (λ z. (n ∷ d) ∷ z) (columns_sizes n ds (map others rows))

pub bundle_columns : (n : ℕ) (ds : List (List ℕ)) (rows : List Row) → (length ds ≡ 0 → ⊥) → bundle n ds rows ≡ columns n ds rows
bundle_columns n [] rows ne = absurd (ne refl)
bundle_columns n (d ∷ ds) rows ne = refl

pub bundled_lifted : (ss out : List Sort) → Bundled ss out → (length ss ≡ 0 → ⊥) → out ≡ lifted ss
bundled_lifted _ _ bare ne = absurd (ne refl)
bundled_lifted _ _ full ne = refl

no_sizes : (rs : List Array) (us : List Atom) (rows : List Row) (ws : List ℕ) → length us ≡ 0 → RowsShow rs (sorts_at us) rows ws → all_have [] rows ≡ true
no_sizes rs us _ _ e no_rows_shown = refl
no_sizes rs us _ _ e (row_shown_and {row = row} {rows = rows} {ws = ws} {vs = vs} x sh) =
    by_row row (omega (arith, (shown_many rs (sorts_at us) row ws x).0, length-map us sort_at, e)) (no_sizes rs us rows vs e sh)
  where
    by_row : (row : Row) → length row ≡ 0 → all_have [] rows ≡ true → all_have [] (row ∷ rows) ≡ true
    by_row [] q h = h
    by_row (c ∷ cs) q h = absurd (omega (arith, q))

pub glue_stop : (us : List Atom) (count mark : ℕ) (at : Place) (S S' : State) (e : Stop) → e ≡ Memory → Glued_told us count mark at S S' (Err e)
unfolding Glued_told
glue_stop us count mark at S S' e q row rows below ws told out p m sh n b = subst (λ z. GluedTold (glued false at told (row ∷ rows)) out below S S' (Err z)) (sym q) no_glue

pub pushed_more : (s0 s s' ws : List ℕ) (i d : ℕ) → i < length ws → s ≡ s0 ++ take i ws → Pushed (get_or ws i d) s s' (Ok tt) → s' ≡ s0 ++ take (i + 1) ws
pushed_more s0 s s' ws i d l e (pushed p) =
    p ∙ ap (λ z. z ++ get_or ws i d ∷ []) e ∙ append_assoc s0 (take i ws) (get_or ws i d ∷ [])
    ∙ ap (λ z. s0 ++ z) (sym (next_of i ws (get_or ws i d) (drop (suc i) ws) (drop-cons ws i d l)).taken) ∙ ap (λ z. s0 ++ take z ws) (sym (add-one i))

pub ruleset word_pushes = (pushed_more)

-- ---- the last words once more

module _ (s0 : List ℕ) (from : ℕ) where
  pub last_more : (s s' : List ℕ) (i d : ℕ) → from + i < length s0 → s ≡ s0 ++ take i (drop from s0) → Pushed (get_or s (from + i) d) s s' (Ok tt) → s' ≡ s0 ++ take (i + 1) (drop from s0)
  last_more s s' i d l e (pushed p) =
      let w : get_or s (from + i) d ≡ get_or (drop from s0) i d = ap (λ z. get_or z (from + i) d) e ∙ get_or_append_left s0 (take i (drop from s0)) d (from + i) l ∙ sym (get_or-drop from s0 i d) in
      let m : i < length (drop from s0) = omega (arith, l, length-drop from s0) in
      p ∙ ap (λ z. z ++ get_or s (from + i) d ∷ []) e ∙ append_assoc s0 (take i (drop from s0)) (get_or s (from + i) d ∷ []) ∙ ap (λ z. s0 ++ (take i (drop from s0) ++ z ∷ [])) w
      ∙ ap (λ z. s0 ++ z) (sym (next_of i (drop from s0) (get_or (drop from s0) i d) (drop (suc i) (drop from s0)) (drop-cons (drop from s0) i d m)).taken) ∙ ap (λ z. s0 ++ take z (drop from s0)) (sym (add-one i))

  pub last_end : (s : List ℕ) (i width : ℕ) → width ≤ i → width ≤ length s0 → from ≡ length s0 - width → s ≡ s0 ++ take i (drop from s0) → s ≡ s0 ++ drop (length s0 - width) s0
  last_end s i width l m e f = f ∙ ap (λ z. s0 ++ z) (take_all i (drop from s0) (omega (arith, l, m, e, length-drop from s0))) ∙ ap (λ z. s0 ++ drop z s0) e

pub ruleset last_pushes = (last_more, last_end)

module _ (us : List Atom) (count mark : ℕ) (at : Place) (S S' : State) where
  pub glue_none : (r : Answer) → length us ≡ 0 → Bare_told count mark at S S' r → Glued_told us count mark at S S' r
  unfolding Bare_told Glued_told glued stacked
  glue_none r e h row rows below ws told out p m sh n b = by_bundle out (sorts_at us) (by_atoms us e) b (no_sizes S.arena.arrays us (row ∷ rows) ws e sh) (no_length ws sh)
    where
      by_atoms : (us : List Atom) → length us ≡ 0 → sorts_at us ≡ []
      by_atoms [] q = refl
      by_atoms (u ∷ us) q = absurd (omega (arith, q))

      by_row : (row : Row) → length row ≡ 0 → (t : ScalarType) → all_have [] (row ∷ rows) ≡ true → length (row ∷ rows) ≡ count → GluedTold (glued false at told (row ∷ rows)) ((t, 2) ∷ []) below S S' r
      by_row [] q t k n =
          subst (λ z. GluedTold z ((t, 2) ∷ []) below S S' r)
          (ap (λ z. within_weight at (bundle z [] [])) (sym n) ∙ sym (ap (λ z. and_then (fitting false z at (Val (bundle (length ([] ∷ rows)) [] ([] ∷ rows)))) (within_weight at)) k)) (h below ws t p m)
      by_row (c ∷ cs) q t k n = absurd (omega (arith, q))

      by_bundle : (out ss : List Sort) → ss ≡ [] → Bundled ss out → all_have [] (row ∷ rows) ≡ true → length row ≡ 0 → GluedTold (glued false at told (row ∷ rows)) out below S S' r
      by_bundle _ _ q (bare {t}) k z = by_row row z t k n
      by_bundle _ _ q full k z = cc

      no_length : (ws : List ℕ) → RowsShow S.arena.arrays (sorts_at us) (row ∷ rows) ws → length row ≡ 0
      no_length _ (row_shown_and {ws = front} x sh) = omega (arith, (shown_many S.arena.arrays (sorts_at us) row front x).0, length-map us sort_at, e)

  module _ (words : List ℕ) (w : words ≡ take (length S.stack - mark) (drop mark S.stack)) where
    pub are_words : (below ws : List ℕ) → S.stack ≡ below ++ ws → length below ≡ mark → words ≡ ws
    are_words below ws p m =
        let d : drop mark S.stack ≡ ws = ap (λ z. drop z S.stack) (sym m) ∙ ap (drop (length below)) p ∙ drop-append_seam below ws in
        let n : length S.stack ≡ length below + length ws = ap length p ∙ length-append below ws in
        w ∙ ap (take (length S.stack - mark)) d ∙ take_all (length S.stack - mark) ws (omega (arith, n, m))

    pub glue_misfit : (e : Stop) → Rows_fit S.arena.arrays us count words (Ok false) → e ≡ Failed (report kind.Size at) → Glued_told us count mark at S S' (Err e)
    unfolding Rows_fit Glued_told glued stacked
    glue_misfit e h q row rows below ws told out p m sh n b =
        let k = told_is (all_have (all_sizes row) (row ∷ rows)) false (h row rows (subst (RowsShow S.arena.arrays (sorts_at us) (row ∷ rows)) (sym (are_words below ws p m)) sh) n) in
        subst (λ z. GluedTold (glued false at told (row ∷ rows)) out below S S' (Err z)) (sym q)
        (glue_failed (ap (λ z. and_then (fitting false z at (Val (bundle (length (row ∷ rows)) (all_sizes row) (row ∷ rows)))) (within_weight at)) k))

    module _ (some : length us ≡ 0 → ⊥) (first : List ℕ) (width : ℕ) (g : width ≡ length us) (f : first ≡ take width (drop (0 * width) words)) (h : Rows_fit S.arena.arrays us count words (Ok true)) where
      -- the whole, where the weight is known
      by_weight : (b : Bool) (row : Row) (rows : List Row) (below ws : List ℕ) (told : List (List ℕ)) → Within_told S.arena.arrays us count first (Ok b) → S.stack ≡ below ++ ws → length below ≡ mark → RowsShow S.arena.arrays (sorts_at us) (row ∷ rows) ws → length (row ∷ rows) ≡ count
          → (glued false at told (row ∷ rows) ≡ checked b kind.TooLarge at (Val (columns count (all_sizes row) (row ∷ rows)))) × (all_have (all_sizes row) (row ∷ rows) ≡ true)
      unfolding Rows_fit Within_told glued stacked within_weight
      by_weight b row rows below ws told k p m sh n =
          let sh' : RowsShow S.arena.arrays (sorts_at us) (row ∷ rows) words = subst (RowsShow S.arena.arrays (sorts_at us) (row ∷ rows)) (sym (are_words below ws p m)) sh in
          let t = told_is (all_have (all_sizes row) (row ∷ rows)) true (h row rows sh' n) in
          let many : width ≡ length (sorts_at us) = g ∙ sym (length-map us sort_at) in
          let x : AllShow S.arena.arrays (sorts_at us) row first = subst (AllShow S.arena.arrays (sorts_at us) row) (ap (λ z. take z (drop (0 * z) words)) (sym many) ∙ sym f) (rows_get S.arena.arrays (sorts_at us) (row ∷ rows) words 0 row sh' refl) in
          let y = told_is (nat_le (weight_of (map (λ d. count ∷ d) (all_sizes row))) most_words) b (k row x) in
          let z : length (all_sizes row) ≡ 0 → ⊥ = λ e. some (omega (arith, e, length-map row sizes, (shown_many S.arena.arrays (sorts_at us) row first x).0, length-map us sort_at)) in (
            ap (λ z. and_then (fitting false z at (Val (bundle (length (row ∷ rows)) (all_sizes row) (row ∷ rows)))) (within_weight at)) t
                ∙ ap (within_weight at) (ap (λ z. bundle z (all_sizes row) (row ∷ rows)) n ∙ bundle_columns count (all_sizes row) (row ∷ rows) z)
                ∙ ap (λ z. checked (nat_le (weight_of z) most_words) kind.TooLarge at (Val (columns count (all_sizes row) (row ∷ rows)))) (columns_sizes count (all_sizes row) (row ∷ rows))
                ∙ ap (λ z. checked z kind.TooLarge at (Val (columns count (all_sizes row) (row ∷ rows)))) y,
            t,
          )

      pub glue_large : (e : Stop) → Within_told S.arena.arrays us count first (Ok false) → e ≡ Failed (report kind.TooLarge at) → Glued_told us count mark at S S' (Err e)
      unfolding Glued_told
      glue_large e k q row rows below ws told out p m sh n b =
          subst (λ z. GluedTold (glued false at told (row ∷ rows)) out below S S' (Err z)) (sym q) (glue_failed (by_weight false row rows below ws told k p m sh n).0)

      pub glue_ok : (made s1 : List ℕ) → Within_told S.arena.arrays us count first (Ok true) → Columns_made us count words S.arena S'.arena (Ok made) → s1 ≡ take mark S.stack → S'.stack ≡ s1 ++ made → Glued_told us count mark at S S' (Ok tt)
      unfolding Columns_made Glued_told
      glue_ok made s1 k c q v row rows below ws told out p m sh n b =
          let sh' : RowsShow S.arena.arrays (sorts_at us) (row ∷ rows) words = subst (RowsShow S.arena.arrays (sorts_at us) (row ∷ rows)) (sym (are_words below ws p m)) sh in
          let x = by_weight true row rows below ws told k p m sh n in
          by_columns x.0 (c row rows (record { shown = sh'; many = n; alike = x.1 }))
        where
          by_columns : glued false at told (row ∷ rows) ≡ Val (columns count (all_sizes row) (row ∷ rows)) → ColumnsMade (sorts_at us) (columns count (all_sizes row) (row ∷ rows)) S.arena S'.arena (Ok made) → GluedTold (glued false at told (row ∷ rows)) out below S S' (Ok tt)
          by_columns e (columns_made y z) =
              glued_told (columns count (all_sizes row) (row ∷ rows)) made e (subst (λ s. AllShow S'.arena.arrays s (columns count (all_sizes row) (row ∷ rows)) made) (sym (bundled_lifted (sorts_at us) out b (λ e. some (omega (arith, e, length-map us sort_at))))) y)
              (v ∙ ap (λ z. z ++ made) (q ∙ ap (take mark) p ∙ ap (λ z. take z (below ++ ws)) (sym m) ∙ take-append_seam below ws)) z

      pub glue_pushed : (made s1 : List ℕ) (r : Answer) → Within_told S.arena.arrays us count first (Ok true) → Columns_made us count words S.arena S'.arena (Ok made) → s1 ≡ take mark S.stack → OnOk r (S'.stack ≡ s1 ++ made) → OnlyMemory r → Glued_told us count mark at S S' r
      glue_pushed made s1 (Ok tt) k c q v m = glue_ok made s1 k c q v
      glue_pushed made s1 (Err e) k c q v m = glue_stop us count mark at S S' e m

pub ruleset glues = (glue_none, glue_stop)
