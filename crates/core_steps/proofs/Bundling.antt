-- Bundles of arrays, and their rows.
use Rattle.std.proofs.Common.{◌≡◌, ℕ, zero, suc, ◌<◌, List, [], ◌∷◌, length, replicate, slice_get, Some, Ok, Err, Result, Bool, true, false, nat_eq, refl, sym, ap, ◌∙◌, subst, arith}
use Rattle.std.proofs.lemmas.Bool.{eqb-true}
use Rattle.std.proofs.lemmas.List.{append-nil, length-map}
use Rattle.fut_scalar.specs.declared.place.Place.{Place}
use Rattle.fut_value.specs.Leaves.{extent}
use Rattle.fut_meaning.specs.Arrays.{fitting}
use Rattle.fut_meaning.specs.Outcomes.{Out, Val, Fail, Wrong, and_then}
use Rattle.core_arrays.specs.Arenas.{Array}
use Rattle.core_ir.specs.Lists.{parts, beside}
use Rattle.core_ir.specs.Bundles.{Component, One, Many, Row, formed, rows_in, column, as_long, size_of, across, of_width, rows_of}
use Rattle.core_ir.specs.Meaning.{values_of}
use Rattle.core_ir.specs.Plain.{Bundle}
use Rattle.core_ir.specs.Typed.{Sort, lifted, Bundled, bare, full, Atoms_are}
use Rattle.core_code.specs.Registers.{State, none_shown}
use Rattle.core_code.specs.Answers.{Answer}
use Rattle.core_code.specs.declared.stop.Stop.{Stop}
use Rattle.core_code.specs.declared.stop.Stop.TheVariants.{Memory}
use Rattle.core_steps.specs.Choosing.{Long, no_array, array_and}
use Rattle.core_steps.specs.Rows.{CountTold, count_told, count_failed, no_count, Count_read, BundleTold, bundle_told, bundle_failed, no_bundle, Bundle_counted, Row_at, none_at, at_and, Grown, RowPushed, row_pushed, no_row, Row_pushed, Bundle_pushed}
use Rattle.core_steps.proofs.Operands.{values_there}
use Rattle.core_steps.proofs.Taking.{grown_same}

-- ---- as many rows in each array

long_of : (at : Place) (n m : ℕ) (cs : Row) → as_long false at n cs ≡ Val m → Long n cs × (m ≡ n)
long_of at n m [] e = (no_array, let z : Val n ≡ Val m = e in cc)
long_of at n m (c ∷ cs) e = by_rows (long_of at n m cs) (rows_in c) refl
  where
    by_test : (as_long false at n cs ≡ Val m → Long n cs × (m ≡ n)) → (k : ℕ) → rows_in c ≡ Val k → (b : Bool) → nat_eq k n ≡ b → fitting false b at (as_long false at n cs) ≡ Val m → Long n (c ∷ cs) × (m ≡ n)
    by_test h k q true r f = let z = h f in (array_and (q ∙ ap Val (eqb-true k n r)) z.0, z.1)
    by_test h k q false r f = cc

    by_rows : (as_long false at n cs ≡ Val m → Long n cs × (m ≡ n)) → (o : Out ℕ) → rows_in c ≡ o → Long n (c ∷ cs) × (m ≡ n)
    by_rows h (Val k) q = by_test h k q (nat_eq k n) refl (sym (ap (λ z. and_then z (λ m. fitting false (nat_eq m n) at (as_long false at n cs))) q) ∙ e)
    by_rows h (Fail r) q = let z : Fail r ≡ Val m = sym (ap (λ z. and_then z (λ m. fitting false (nat_eq m n) at (as_long false at n cs))) q) ∙ e in cc
    by_rows h Wrong q = let z : Wrong ≡ Val m = sym (ap (λ z. and_then z (λ m. fitting false (nat_eq m n) at (as_long false at n cs))) q) ∙ e in cc

pub long_all : (at : Place) (n : ℕ) (cs : Row) → size_of false at cs ≡ Val n → Long n cs
long_all at n [] e = cc
long_all at n (c ∷ cs) e = by_rows (rows_in c) refl
  where
    by_rows : (o : Out ℕ) → rows_in c ≡ o → Long n (c ∷ cs)
    by_rows (Val k) q = let z = long_of at k n cs (sym (ap (λ z. and_then z (λ n. as_long false at n cs)) q) ∙ e) in subst (λ m. Long m (c ∷ cs)) (sym z.1) (array_and q z.0)
    by_rows (Fail r) q = let z : Fail r ≡ Val n = sym (ap (λ z. and_then z (λ n. as_long false at n cs)) q) ∙ e in cc
    by_rows Wrong q = let z : Wrong ≡ Val n = sym (ap (λ z. and_then z (λ n. as_long false at n cs)) q) ∙ e in cc

parts_many : {A : Type 0} (n k : ℕ) (xs : List A) → length (parts n k xs) ≡ n
parts_many zero k xs = refl
parts_many (suc n) k xs = ap suc (parts_many n k _)

column_long : (n : ℕ) (c : Component) → rows_in c ≡ Val n → length (column c) ≡ n
column_long n (One s) e = cc
column_long n (Many [] ws) e = cc
column_long n (Many (m ∷ ds) ws) e = let q : m ≡ n = let z : Val m ≡ Val n = e in cc in length-map (parts m (extent ds) ws) (formed ds) ∙ parts_many m (extent ds) ws ∙ q

beside_many : {A : Type 0} (n : ℕ) (xs : List A) (rs : List (List A)) → length xs ≡ n → length rs ≡ n → length (beside xs rs) ≡ n
beside_many n [] rs e f = e
beside_many n (x ∷ xs) [] e f = f
beside_many zero (x ∷ xs) (r ∷ rs) e f = absurd (omega arith)
beside_many (suc n) (x ∷ xs) (r ∷ rs) e f = ap suc (beside_many n xs rs (omega (arith, e)) (omega (arith, f)))

replicate_many : {A : Type 0} (n : ℕ) (x : A) → length (replicate n x) ≡ n
replicate_many zero x = refl
replicate_many (suc n) x = ap suc (replicate_many n x)

pub across_many : (n : ℕ) (cs : Row) → Long n cs → length (across n cs) ≡ n
across_many n _ no_array = replicate_many n []
across_many n _ (array_and {c} {cs} e h) = beside_many n (column c) (across n cs) (column_long n c e) (across_many n cs h)

-- ---- the row of each

beside_get : {A : Type 0} (xs : List A) (rs : List (List A)) (i : ℕ) (x : A) (r : List A) → slice_get xs i ≡ Some x → slice_get rs i ≡ Some r → slice_get (beside xs rs) i ≡ Some (x ∷ r)
beside_get [] rs i x r e f = cc
beside_get (y ∷ xs) [] i x r e f = cc
beside_get (y ∷ xs) (s ∷ rs) zero x r e f = let p : y ≡ x = cc in let q : s ≡ r = cc in ap (λ z. Some (z ∷ s)) p ∙ ap (λ z. Some (x ∷ z)) q
beside_get (y ∷ xs) (s ∷ rs) (suc i) x r e f = beside_get xs rs i x r e f

replicate_get : {A : Type 0} (n i : ℕ) (x : A) → i < n → slice_get (replicate n x) i ≡ Some x
replicate_get zero i x l = absurd (omega arith)
replicate_get (suc n) zero x l = refl
replicate_get (suc n) (suc i) x l = replicate_get n i x (omega arith)

pub across_get : (n i : ℕ) (cs ds : Row) → i < n → Row_at i cs ds → slice_get (across n cs) i ≡ Some ds
across_get n i _ _ l none_at = replicate_get n i [] l
across_get n i _ _ l (at_and {c} {d} {cs} {ds} e h) = beside_get (column c) (across n cs) i d ds e (across_get n i cs ds l h)

-- ---- bundles

pub record Rows_read (at : Place) (w : ℕ) (cs : Row) (rows : List Row) : Type 0 where
  pub many : ℕ
  pub size : size_of false at cs ≡ Val many
  pub are : rows ≡ across many (of_width w cs)

pub rows_read : (at : Place) (w : ℕ) (cs : Row) (rows : List Row) → rows_of false at w cs ≡ Val rows → Rows_read at w cs rows
unfolding rows_of
rows_read at w cs rows e = by_size (size_of false at cs) refl
  where
    by_size : (o : Out ℕ) → size_of false at cs ≡ o → Rows_read at w cs rows
    by_size (Val n) q = record { many = n; size = q; are = let z : Val rows ≡ Val (across n (of_width w cs)) = sym e ∙ ap (λ z. and_then z (λ n. Val (across n (of_width w cs)))) q in cc }
    by_size (Fail r) q = let z : Fail r ≡ Val rows = sym (ap (λ z. and_then z (λ n. Val (across n (of_width w cs)))) q) ∙ e in cc
    by_size Wrong q = let z : Wrong ≡ Val rows = sym (ap (λ z. and_then z (λ n. Val (across n (of_width w cs)))) q) ∙ e in cc

pub long_width : (n w : ℕ) (cs : Row) → Long n cs → Long n (of_width w cs)
long_width n zero cs h = no_array
long_width n (suc w) cs h = h

-- a bundle's arrays are arrays
pub deep : (row bs : List Sort) → Bundled row bs → (ss : List Sort) × (bs ≡ lifted ss)
deep _ _ (bare {t}) = ((t, 1) ∷ [], refl)
deep _ _ (full {s} {ss}) = (s ∷ ss, refl)

pub count_bundle : (t : List ℕ) (rs : List Array) (r : Bundle) (at : Place) (a : Result ℕ Stop) → Count_read t rs r.arrays at a → Bundle_counted t rs r at a
unfolding Count_read Bundle_counted rows_of
count_bundle t rs r at a h G env n row st x =
    let d = deep row x.sorts x.bundled in
    let v = values_there G env n rs t r.arrays x.sorts st x.are in
    by_count v.0 v.1 (h G env n d.0 v.0 st (subst (Atoms_are G r.arrays) d.1 x.are) v.1)
  where
    by_count : {a : Result ℕ Stop} (cs : Row) → values_of env r.arrays ≡ Val cs → CountTold (size_of false at cs) a → BundleTold env r at a
    by_count cs v (count_told {n = m} e) =
        subst (λ z. BundleTold env r at (Ok z)) (across_many m (of_width r.width cs) (long_width m r.width cs (long_all at m cs e)))
        (bundle_told cs (across m (of_width r.width cs)) v (ap (λ z. and_then z (λ n. Val (across n (of_width r.width cs)))) e))
    by_count cs v (count_failed e) = bundle_failed cs v (ap (λ z. and_then z (λ n. Val (across n (of_width r.width cs)))) e)
    by_count cs v no_count = no_bundle

pub ruleset counts = (count_bundle)

module _ (r : Bundle) (i : ℕ) (S S' : State) where
  no_sorts : (row bs : List Sort) → Bundled row bs → 0 ≡ length row → row ≡ []
  no_sorts _ _ bare e = refl
  no_sorts _ _ full e = absurd (omega (arith, e))

  pub push_none : r.width ≡ 0 → S' ≡ S → Bundle_pushed r i S S' (Ok tt)
  unfolding Bundle_pushed
  push_none e q G env n row cs rows at st x v p l =
      let none : row ≡ [] = no_sorts row x.sorts x.bundled (sym e ∙ x.wide) in
      let z = rows_read at r.width cs rows p in
      let many : rows ≡ replicate z.many [] = z.are ∙ ap (λ w. across z.many (of_width w cs)) e in
      subst (λ k. RowPushed (λ ds. slice_get rows i ≡ Some ds) k S S' (Ok tt)) (sym none)
      (row_pushed [] [] (ap (λ z. slice_get z i) many ∙ replicate_get z.many i [] (omega (arith, l, ap length many, replicate_many {A = Row} z.many []))) none_shown
      (ap (λ (s : State). s.stack) q ∙ sym (append-nil S.stack)) (subst (λ s. Grown S s) (sym q) (grown_same S)))

  pub push_some : (a : Answer) → (r.width ≡ 0 → ⊥) → Row_pushed r.arrays i S S' a → Bundle_pushed r i S S' a
  unfolding Bundle_pushed Row_pushed
  push_some a ne h G env n row cs rows at st x v p l = by_bundle r.width refl row x.sorts x.bundled x.wide x.are
    where
      by_row : {a : Answer} (w : ℕ) (row : List Sort) → r.width ≡ suc w → RowPushed (Row_at i cs) row S S' a → RowPushed (λ ds. slice_get rows i ≡ Some ds) row S S' a
      by_row w row e (row_pushed ds ws y sh q g) =
          let z = rows_read at r.width cs rows p in
          let f : rows ≡ across z.many cs = z.are ∙ ap (λ w. across z.many (of_width w cs)) e in
          let k : length rows ≡ z.many = ap length f ∙ across_many z.many cs (long_all at z.many cs z.size) in
          row_pushed ds ws (ap (λ z. slice_get z i) f ∙ across_get z.many i cs ds (omega (arith, l, k)) y) sh q g
      by_row w row e no_row = no_row

      by_bundle : (w : ℕ) → r.width ≡ w → (row bs : List Sort) → Bundled row bs → r.width ≡ length row → Atoms_are G r.arrays bs → RowPushed (λ ds. slice_get rows i ≡ Some ds) row S S' a
      by_bundle zero e row bs b q y = absurd (ne e)
      by_bundle (suc w) e _ _ bare q y = absurd (omega (arith, e, q))
      by_bundle (suc w) e _ _ (full {s} {ss}) q y = by_row w (s ∷ ss) e (h G env n (s ∷ ss) cs st y v)

pub bundle_memory : (r : Bundle) (i : ℕ) (S S' : State) (e : Stop) → e ≡ Memory → Bundle_pushed r i S S' (Err e)
unfolding Bundle_pushed
bundle_memory r i S S' e q G env n row cs rows at st x v p l = subst (λ z. RowPushed (λ ds. slice_get rows i ≡ Some ds) row S S' (Err z)) (sym q) no_row

pub ruleset pushes = (push_none, push_some)
