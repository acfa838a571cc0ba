-- Arrays of one size, side by side.
use Rattle.std.proofs.Common.{◌≡◌, ℕ, zero, suc, ◌+◌, ◌-◌, ◌<◌, ◌≤◌, List, [], ◌∷◌, ◌++◌, map, length, get_or, take, drop, slice_get, Option, Some, None, Ok, Err, Result, Bool, true, false, nat_eq, refl, sym, ap, ◌∙◌, subst, arith, add-one, append_assoc}
use Rattle.std.proofs.Math.Seq.{drop-cons}
use Rattle.std.proofs.lemmas.Bool.{ne_eqb, eq-eqb}
use Rattle.std.proofs.lemmas.List.{append-nil, take_all, length-drop}
use Rattle.fut_scalar.specs.declared.place.Place.{Place}
use Rattle.fut_scalar.specs.declared.report.FailKind.TheVariants as kind
use Rattle.fut_value.specs.Data.{Datum}
use Rattle.fut_meaning.specs.Arrays.{Rows, rows_of, fitting}
use Rattle.fut_meaning.specs.Jobs.{columns, beside, alone}
use Rattle.fut_meaning.specs.Outcomes.{Out, Val, Fail, Wrong, and_then}
use Rattle.array_data.specs.declared.data.Data.{Data}
use Rattle.array_data.specs.declared.stop.Stop.{Stop}
use Rattle.array_data.specs.declared.stop.Stop.TheVariants.{Failed, Stuck, Memory}
use Rattle.array_data.specs.Answers.{Counts, counts, no_array, Row_is, row_is, no_memory_row, Columned, columned, first_long, Rows_are, columned_is, columned_fails, columned_memory, columned_lost, and_row, each_at, Put, put, not_put}
use Rattle.array_data.specs.Held.{held, held_all, rows_in, row_shape_in, as_held}
use Rattle.array_data.proofs.Forms.{map_push, held_length, drop_past}

-- ---- one row of each

pub get_alone : (xs : List Datum) (i : ℕ) (x : Datum) → slice_get xs i ≡ Some x → slice_get (alone xs) i ≡ Some (x ∷ [])
get_alone [] i x e = cc
get_alone (y ∷ xs) zero x e = let q : y ≡ x = cc in ap (λ z. Some (z ∷ [])) q
get_alone (y ∷ xs) (suc i) x e = get_alone xs i x e

get_beside : (xs : List Datum) (rs : List (List Datum)) (i : ℕ) (x : Datum) (r : List Datum) → slice_get xs i ≡ Some x → slice_get rs i ≡ Some r → slice_get (beside xs rs) i ≡ Some (x ∷ r)
get_beside [] rs i x r e q = cc
get_beside (y ∷ xs) [] i x r e q = cc
get_beside (y ∷ xs) (s ∷ rs) zero x r e q = let p : y ≡ x = cc in let k : s ≡ r = cc in ap (λ z. Some (z ∷ s)) p ∙ ap (λ z. Some (x ∷ z)) k
get_beside (y ∷ xs) (s ∷ rs) (suc i) x r e q = get_beside xs rs i x r e q

pub one_row : (xs : List Datum) (i : ℕ) (es : List Datum) (o : Option Datum) → slice_get xs i ≡ o → and_row o (Some []) ≡ Some es → slice_get (alone xs) i ≡ Some es
one_row xs i es None p h = cc
one_row xs i es (Some x) p h = get_alone xs i x p ∙ h

more_rows : (xs : List Datum) (rows : List (List Datum)) (i : ℕ) (es : List Datum) (o : Option Datum) (q : Option (List Datum)) → slice_get xs i ≡ o → ((fs : List Datum) → q ≡ Some fs → slice_get rows i ≡ Some fs) → and_row o q ≡ Some es → slice_get (beside xs rows) i ≡ Some es
more_rows xs rows i es None q p k h = cc
more_rows xs rows i es (Some x) None p k h = cc
more_rows xs rows i es (Some x) (Some fs) p k h = get_beside xs rows i x fs p (k fs refl) ∙ h

-- ---- the sizes

pub alone_long : (ds : List Datum) → length (alone ds) ≡ length ds
alone_long [] = refl
alone_long (d ∷ ds) = ap suc (alone_long ds)

length_beside : (ds : List Datum) (rs : List (List Datum)) → length ds ≡ length rs → length (beside ds rs) ≡ length rs
length_beside [] rs e = e
length_beside (d ∷ ds) [] e = absurd (omega arith)
length_beside (d ∷ ds) (r ∷ rs) e = ap suc (length_beside ds rs (omega arith))

first_of : (ds : List Data) (d : Data) → (length ds ≡ 0 → ⊥) → held_all ds ≡ held (get_or ds 0 d) ∷ held_all (drop 1 ds)
unfolding held_all
first_of [] d l = absurd (l refl)
first_of (c ∷ ds) d l = refl

nothing_more : (ds : List Data) → length ds ≡ 1 → held_all (drop 1 ds) ≡ []
unfolding held_all
nothing_more [] e = absurd (omega arith)
nothing_more (c ∷ []) e = refl
nothing_more (c ∷ d ∷ ds) e = absurd (omega arith)

module _ (at : Place) where
  pub none_columned : (ds : List Data) → length ds ≡ 0 → Columned at (held_all ds) (Err Stuck)
  unfolding held_all
  none_columned [] e = columned_lost refl
  none_columned (d ∷ ds) e = absurd (omega arith)

  first_lost : (d : Datum) (ds : List Datum) (e : Stop) → Counts d (Err e) → Columned at (d ∷ ds) (Err e)
  first_lost d ds _ (no_array q) = columned_lost (ap (λ z. and_then z (λ r. columns false at r ds)) q)

  one_columned : (d : Datum) (n : ℕ) → Counts d (Ok n) → Columned at (d ∷ []) (Ok n)
  one_columned d n (counts q p) = columned_is (alone (rows_in d)) (ap (λ z. and_then z (λ r. columns false at r [])) q) (p ∙ sym (alone_long (rows_in d))) p (λ i es h. one_row (rows_in d) i es (slice_get (rows_in d) i) refl h)

  -- the first of two and more
  module _ (d e : Datum) (ds : List Datum) (n : ℕ) (g : rows_of d ≡ Val (row_shape_in d, rows_in d)) (p : n ≡ length (rows_in d)) where
    after_first : columned at (d ∷ e ∷ ds) ≡ columns false at (row_shape_in d, rows_in d) (e ∷ ds)
    after_first = ap (λ z. and_then z (λ r. columns false at r (e ∷ ds))) g

    second_lost : (s : Stop) → Counts e (Err s) → Columned at (d ∷ e ∷ ds) (Err s)
    second_lost _ (no_array q) = columned_lost (after_first ∙ ap (λ z. and_then z (λ s. fitting false (nat_eq (length (rows_in d)) (length s.1)) at (and_then (columns false at s ds) (λ rs. Val (beside (rows_in d) rs))))) q)

    module _ (m : ℕ) (h : rows_of e ≡ Val (row_shape_in e, rows_in e)) (q : m ≡ length (rows_in e)) where
      after_second : columned at (d ∷ e ∷ ds) ≡ fitting false (nat_eq (length (rows_in d)) (length (rows_in e))) at (and_then (columned at (e ∷ ds)) (λ rs. Val (beside (rows_in d) rs)))
      after_second = after_first ∙ ap (λ z. and_then z (λ s. fitting false (nat_eq (length (rows_in d)) (length s.1)) at (and_then (columns false at s ds) (λ rs. Val (beside (rows_in d) rs))))) h
          ∙ ap (λ z. fitting false (nat_eq (length (rows_in d)) (length (rows_in e))) at (and_then z (λ rs. Val (beside (rows_in d) rs)))) (sym (ap (λ z. and_then z (λ r. columns false at r ds)) h))

      sizes_differ : (n ≡ m → ⊥) → Columned at (d ∷ e ∷ ds) (Err (Failed (record { kind = kind.Size; place = at })))
      sizes_differ x = columned_fails (after_second ∙ ap (λ z. fitting false z at (and_then (columned at (e ∷ ds)) (λ rs. Val (beside (rows_in d) rs)))) (ne_eqb (length (rows_in d)) (length (rows_in e)) (λ z. x (p ∙ z ∙ sym q))))

      sizes_same : n ≡ m → (r : Result ℕ Stop) → Columned at (e ∷ ds) r → Columned at (d ∷ e ∷ ds) r
      sizes_same x r k = by_rest r k
        where
          here : columned at (d ∷ e ∷ ds) ≡ and_then (columned at (e ∷ ds)) (λ rs. Val (beside (rows_in d) rs))
          here = after_second ∙ ap (λ z. fitting false z at (and_then (columned at (e ∷ ds)) (λ rs. Val (beside (rows_in d) rs)))) (eq-eqb (length (rows_in d)) (length (rows_in e)) (sym p ∙ x ∙ q))

          by_rest : (r : Result ℕ Stop) → Columned at (e ∷ ds) r → Columned at (d ∷ e ∷ ds) r
          by_rest _ (columned_is rows y z w v) = columned_is (beside (rows_in d) rows) (here ∙ ap (λ w. and_then w (λ rs. Val (beside (rows_in d) rs))) y)
              (z ∙ sym (length_beside (rows_in d) rows (sym p ∙ x ∙ q ∙ sym w ∙ z))) (w ∙ sym q ∙ sym x ∙ p) (λ i es h. more_rows (rows_in d) rows i es (slice_get (rows_in d) i) (each_at i (e ∷ ds)) refl (v i) h)
          by_rest _ (columned_fails y) = columned_fails (here ∙ ap (λ w. and_then w (λ rs. Val (beside (rows_in d) rs))) y)
          by_rest _ columned_memory = columned_memory
          by_rest _ (columned_lost y) = columned_lost (here ∙ ap (λ w. and_then w (λ rs. Val (beside (rows_in d) rs))) y)

first_two : (ds : List Data) (d e : Data) → (length ds ≡ 0 → ⊥) → (length ds ≡ 1 → ⊥) → held_all ds ≡ held (get_or ds 0 d) ∷ held (get_or ds 1 e) ∷ held_all (drop 2 ds)
unfolding held_all
first_two [] d e l k = absurd (l refl)
first_two (c ∷ []) d e l k = absurd (k refl)
first_two (c ∷ b ∷ ds) d e l k = refl

second_first : (ds : List Data) (e : Data) → (length ds ≡ 0 → ⊥) → (length ds ≡ 1 → ⊥) → held_all (drop 1 ds) ≡ held (get_or ds 1 e) ∷ held_all (drop 2 ds)
unfolding held_all
second_first [] e l k = absurd (l refl)
second_first (c ∷ []) e l k = absurd (k refl)
second_first (c ∷ b ∷ ds) e l k = refl

module _ (at : Place) (ds : List Data) (d : Data) (n : ℕ) where
  pub columns_stop : (e : Stop) → (length ds ≡ 0 → ⊥) → Counts (held (get_or ds 0 d)) (Err e) → Columned at (held_all ds) (Err e)
  columns_stop e l h = subst (λ z. Columned at z (Err e)) (sym (first_of ds d l)) (first_lost at (held (get_or ds 0 d)) (held_all (drop 1 ds)) e h)

  pub columns_one : length ds ≡ 1 → Counts (held (get_or ds 0 d)) (Ok n) → Columned at (held_all ds) (Ok n)
  columns_one l h =
      subst (λ z. Columned at z (Ok n)) (sym (first_of ds d (λ e. absurd (omega arith)) ∙ ap (λ z. held (get_or ds 0 d) ∷ z) (nothing_more ds l))) (one_columned at (held (get_or ds 0 d)) n h)

  module _ (d' : Data) (l : length ds ≡ 0 → ⊥) (k : length ds ≡ 1 → ⊥) (h : Counts (held (get_or ds 0 d)) (Ok n)) where
    both_first : held_all ds ≡ held (get_or ds 0 d) ∷ held (get_or ds 1 d') ∷ held_all (drop 2 ds)
    both_first = first_two ds d d' l k

    pub columns_second_stop : (e : Stop) → Counts (held (get_or ds 1 d')) (Err e) → Columned at (held_all ds) (Err e)
    columns_second_stop e x = subst (λ z. Columned at z (Err e)) (sym both_first) (by_counts h)
      where
        by_counts : Counts (held (get_or ds 0 d)) (Ok n) → Columned at (held (get_or ds 0 d) ∷ held (get_or ds 1 d') ∷ held_all (drop 2 ds)) (Err e)
        by_counts (counts q p) = second_lost at (held (get_or ds 0 d)) (held (get_or ds 1 d')) (held_all (drop 2 ds)) n q p e x

    module _ (m : ℕ) (h' : Counts (held (get_or ds 1 d')) (Ok m)) where
      pub columns_differ : (n ≡ m → ⊥) → Columned at (held_all ds) (Err (Failed (record { kind = kind.Size; place = at })))
      columns_differ x = subst (λ z. Columned at z (Err (Failed (record { kind = kind.Size; place = at })))) (sym both_first) (by_counts h h')
        where
          by_counts : Counts (held (get_or ds 0 d)) (Ok n) → Counts (held (get_or ds 1 d')) (Ok m) → Columned at (held (get_or ds 0 d) ∷ held (get_or ds 1 d') ∷ held_all (drop 2 ds)) (Err (Failed (record { kind = kind.Size; place = at })))
          by_counts (counts q p) (counts y z) = sizes_differ at (held (get_or ds 0 d)) (held (get_or ds 1 d')) (held_all (drop 2 ds)) n q p m y z x

      pub columns_same : (r : Result ℕ Stop) (es : List Data) → n ≡ m → es ≡ drop 1 ds → Columned at (held_all es) r → Columned at (held_all ds) r
      columns_same r es x e t = subst (λ z. Columned at z r) (sym both_first) (by_counts h h')
        where
          by_counts : Counts (held (get_or ds 0 d)) (Ok n) → Counts (held (get_or ds 1 d')) (Ok m) → Columned at (held (get_or ds 0 d) ∷ held (get_or ds 1 d') ∷ held_all (drop 2 ds)) r
          by_counts (counts q p) (counts y z) = sizes_same at (held (get_or ds 0 d)) (held (get_or ds 1 d')) (held_all (drop 2 ds)) n q p m y z x r (subst (λ w. Columned at w r) (ap held_all e ∙ second_first ds d' l k) t)

pub tail_all : (ds : List Data) → take (length ds - 1) (drop 1 ds) ≡ drop 1 ds
tail_all ds = take_all (length ds - 1) (drop 1 ds) (omega (arith, length-drop 1 ds))

pub ruleset sizes = (none_columned, columns_stop, columns_one, columns_second_stop, columns_differ, columns_same, columned_memory, tail_all)

-- ---- rows put on a stack

unfoldable pub Half_put : List Datum → ℕ → ℕ → List Datum → List Datum → Type 0
Half_put ds at i s0 s = (es : List Datum) × (each_at at (take i ds) ≡ Some es) × (s ≡ s0 ++ es)

-- a row more behind a first one
and_more : (o : Option Datum) (r r' : Option (List Datum)) (e : Datum) (es : List Datum) → ((fs : List Datum) → r ≡ Some fs → r' ≡ Some (fs ++ e ∷ [])) → and_row o r ≡ Some es → and_row o r' ≡ Some (es ++ e ∷ [])
and_more None r r' e es k h = cc
and_more (Some b) None r' e es k h = cc
and_more (Some b) (Some fs) r' e es k h = let q : b ∷ fs ≡ es = cc in ap (and_row (Some b)) (k fs refl) ∙ ap (λ w. Some (w ++ e ∷ [])) q

pub each_more : (ds : List Datum) (at i : ℕ) (d e : Datum) (es : List Datum) → slice_get ds i ≡ Some d → slice_get (rows_in d) at ≡ Some e → each_at at (take i ds) ≡ Some es → each_at at (take (suc i) ds) ≡ Some (es ++ e ∷ [])
each_more [] at i d e es p q h = cc
each_more (c ∷ ds) at zero d e es p q h = let k : c ≡ d = cc in let m : [] ≡ es = cc in ap (λ z. and_row (slice_get (rows_in z) at) (Some [])) k ∙ ap (λ z. and_row z (Some [])) q ∙ ap (λ z. Some (z ++ e ∷ [])) m
each_more (c ∷ ds) at (suc i) d e es p q h = and_more (slice_get (rows_in c) at) (each_at at (take i ds)) (each_at at (take (suc i) ds)) e es (λ fs y. each_more ds at i d e fs p q y) h

get_held : (ds : List Data) (i : ℕ) (d : Data) → i < length ds → slice_get (held_all ds) i ≡ Some (held (get_or ds i d))
unfolding held_all
get_held [] i d l = absurd (omega arith)
get_held (e ∷ ds) zero d l = refl
get_held (e ∷ ds) (suc i) d l = get_held ds i d (omega arith)

held_push : (s : List Data) (d : Data) → held_all (s ++ d ∷ []) ≡ held_all s ++ held d ∷ []
unfolding held_all
held_push s d = map_push held s d

module _ (ds : List Data) (at : ℕ) (s0 : List Datum) where
  pub half_put_start : Half_put (held_all ds) at 0 s0 s0
  unfolding Half_put
  half_put_start = ([], refl, sym (append-nil s0))

  pub half_put_more : (i : ℕ) (d v : Data) (s s' : List Data) → i < length ds → Half_put (held_all ds) at i s0 (held_all s) → Row_is (held (get_or ds i d)) at (as_held (Ok v)) → s' ≡ s ++ v ∷ [] → Half_put (held_all ds) at (i + 1) s0 (held_all s')
  unfolding Half_put
  half_put_more i d v s s' l (es, h, q) (row_is k) e = (
    es ++ held v ∷ [],
    ap (λ z. each_at at (take z (held_all ds))) (add-one i) ∙ each_more (held_all ds) at i (held (get_or ds i d)) (held v) es (get_held ds i d l) k h,
    ap held_all e ∙ held_push s v ∙ ap (λ z. z ++ held v ∷ []) q ∙ append_assoc s0 es (held v ∷ []),
  )

  pub half_put_end : (i : ℕ) (s : List Data) → length ds ≤ i → Half_put (held_all ds) at i s0 (held_all s) → Put (held_all ds) at s0 (held_all s) (Ok tt)
  unfolding Half_put
  half_put_end i s l (es, h, q) = put es (ap (each_at at) (sym (take_all i (held_all ds) (omega (arith, held_length ds)))) ∙ h) q

pub ruleset putting = (half_put_start, half_put_more, half_put_end, not_put)
