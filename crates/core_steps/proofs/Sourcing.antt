-- Rows or numbers to which a function is applied.
use Rattle.std.proofs.Common.{◌≡◌, ℕ, zero, suc, ◌+◌, ◌<◌, ◌^◌, List, [], ◌∷◌, map, length, slice_get, Some, None, Option, Bor, Ok, Err, Result, false, refl, sym, ap, ◌∙◌, subst, arith}
use Rattle.std.specs.Prelude.{ℤ, pos, negsuc}
use Rattle.std.proofs.lemmas.List.{length-map}
use Rattle.fut_scalar.specs.Integers.{integer_of}
use Rattle.fut_scalar.specs.declared.place.Place.{Place}
use Rattle.fut_scalar.specs.declared.report.FailKind.TheVariants as kind
use Rattle.fut_scalar.specs.declared.report.Report.{Report}
use Rattle.fut_scalar.specs.declared.scalar.IntType.{IntType}
use Rattle.fut_scalar.specs.declared.scalar.Scalar.{Scalar}
use Rattle.fut_scalar.specs.declared.scalar.Scalar.TheVariants as scalar
use Rattle.fut_scalar.specs.declared.scalar.ScalarType.TheVariants as sort
use Rattle.fut_arithmetic.specs.Types.{IsOf}
use Rattle.fut_arithmetic.specs.Words.{word_of}
use Rattle.fut_meaning.specs.Meaning.{counts}
use Rattle.fut_meaning.specs.Outcomes.{Out, Val, Fail, Wrong, and_then}
use Rattle.fut_meaning.specs.Sames.{all_none, all_more}
use Rattle.core_arrays.specs.Arenas.{Array, Arena}
use Rattle.core_ir.specs.declared.block.Atom.{Atom}
use Rattle.core_ir.specs.declared.block.Rows.{Rows}
use Rattle.core_ir.specs.declared.block.Over.{Over}
use Rattle.core_ir.specs.declared.block.Over.TheVariants as over
use Rattle.core_ir.specs.Arrays.{exact_in, sized, sized_by, i64, numbers_below, rows_together}
use Rattle.core_ir.specs.Bundles.{Component, One, Row, rows_of}
use Rattle.core_ir.specs.Meaning.{Env, value_of, values_of, source_rows}
use Rattle.core_ir.specs.Plain.{Bundle, Source, Of_rows, Of_numbers, bundle_form, source_form}
use Rattle.core_ir.specs.Typed.{Sort, Sorts, i64_sort, Integer, integer, Together, one_bundle, Atom_is, Groups_are, Rows_are, Source_gives, rows_give, numbers_give}
use Rattle.core_code.specs.Registers.{State, elem_of, ShowsScalar, none_shown, shown_and}
use Rattle.core_code.specs.Answers.{Answer, Read, read, Reads, Pushed, pushed, asked}
use Rattle.core_code.specs.Answers as answer
use Rattle.core_code.specs.declared.stop.Stop.{Stop}
use Rattle.core_code.specs.declared.stop.Stop.TheVariants.{Failed, Memory}
use Rattle.core_code.proofs.Reading.{elem_is}
use Rattle.core_steps.specs.Rows.{CountTold, count_told, count_failed, no_count, BundleTold, bundle_told, bundle_failed, no_bundle, Bundle_counted, RowPushed, row_pushed, no_row, Bundle_pushed}
use Rattle.core_steps.specs.Sources.{Size_asked, SourceTold, source_told, source_failed, no_source, Source_counted, Source_pushed}

-- ---- a size

size_of_word : (at : Place) (ty : IntType) (c : Component) (w : ℕ) (o : Option ℕ) → ShowsScalar (sort.Int ty) c w → asked (integer_of ty w) ≡ o → (k : ℕ → Out ℕ) → sized_by at c Val ≡ sized at (integer_of ty w) Val
size_of_word at ty c w o x e k = ap (λ z. sized_by at z Val) x.is ∙ by_scalar x.scalar x.typed x.word
  where
    by_scalar : (s : Scalar) → IsOf (sort.Int ty) s → w ≡ word_of s → sized_by at (One s) Val ≡ sized at (integer_of ty w) Val
    by_scalar (scalar.Int u m) i q =
        let z : u ≡ ty = let y : sort.Int u ≡ sort.Int ty = i.0 in cc in
        ap (λ z. sized at (integer_of z m) Val) z ∙ ap (λ z. sized at (integer_of ty z) Val) (sym q)
    by_scalar (scalar.Bool b) i q = let z : sort.Bool ≡ sort.Int ty = i.0 in cc

sized_told : (at : Place) (z : ℤ) (r : Option ℕ) → r ≡ asked z → (n : ℕ) → r ≡ Some n → sized at z Val ≡ Val n
sized_told at (pos m) r e n f = let q : Some m ≡ Some n = sym e ∙ f in cc
sized_told at (negsuc m) r e n f = let q : None ≡ Some n = sym e ∙ f in cc

sized_not : (at : Place) (z : ℤ) (r : Option ℕ) → r ≡ asked z → r ≡ None → sized at z Val ≡ Fail (record { kind = kind.Range; place = at })
sized_not at (pos m) r e f = let q : Some m ≡ None = sym e ∙ f in cc
sized_not at (negsuc m) r e f = refl

module _ (t : List ℕ) (u : Atom) (at : Place) (ty : IntType) (e : elem_of u ≡ sort.Int ty) (w : ℕ) (h : Reads t u (Ok w)) where
  by_word : (r : Result ℕ Stop) → (o : Out ℕ) → sized at (integer_of ty w) Val ≡ o → CountTold o r → Size_asked t u at r
  unfolding Reads Size_asked
  by_word r o q k G env n rs s st i a = by_integer s i a (h G env n rs s st a)
    where
      by_read : (t' : IntType) → t' ≡ ty → Read (value_of env u) rs (sort.Int t', 0) (Ok w) → CountTold (and_then (value_of env u) (λ c. sized_by at c Val)) r
      by_read t' z (read {c} y x) =
          subst (λ z. CountTold z r)
          (sym (ap (λ z. and_then z (λ c. sized_by at c Val)) y ∙ size_of_word at ty c w (asked (integer_of ty w)) (subst (λ z. ShowsScalar (sort.Int z) c w) z x) refl Val ∙ q)) k

      by_integer : (s : Sort) → Integer s → Atom_is G u s → Read (value_of env u) rs s (Ok w) → CountTold (and_then (value_of env u) (λ c. sized_by at c Val)) r
      by_integer _ (integer {t = t'}) a y = by_read t' (let z : sort.Int t' ≡ sort.Int ty = sym (elem_is G u (sort.Int t', 0) a) ∙ e in cc) y

  pub asked_some : (r : Option ℕ) (n : ℕ) → r ≡ asked (integer_of ty w) → r ≡ Some n → Size_asked t u at (Ok n)
  asked_some r n p q = by_word (Ok n) (Val n) (sized_told at (integer_of ty w) r p n q) (count_told refl)

  pub asked_none : (r : Option ℕ) (f : Report) → r ≡ asked (integer_of ty w) → r ≡ None → f ≡ record { kind = kind.Range; place = at } → Size_asked t u at (Err (Failed f))
  asked_none r f p q g = by_word (Err (Failed f)) (Fail f) (sized_not at (integer_of ty w) r p q ∙ ap Fail (sym g)) (count_failed refl)

pub asked_stop : (t : List ℕ) (u : Atom) (at : Place) (e : Stop) → e ≡ Memory → Size_asked t u at (Err e)
unfolding Size_asked
asked_stop t u at e q G env n rs s st i a = subst (λ z. CountTold (and_then (value_of env u) (λ c. sized_by at c Val)) (Err z)) (sym q) no_count

pub ruleset asking = (asked_some, asked_none, asked_stop)

-- what is asked for a size, and then
pub sized_then : {A : Type 0} (at : Place) (o : Out Component) (k : ℕ → Out A) → and_then o (λ c. sized_by at c k) ≡ and_then (and_then o (λ c. sized_by at c Val)) k
sized_then at (Fail r) k = refl
sized_then at Wrong k = refl
sized_then at (Val c) k = by_exact (exact_in c)
  where
    by_exact : (o : Out ℤ) → and_then o (λ z. sized at z k) ≡ and_then (and_then o (λ z. sized at z Val)) k
    by_exact (Val (pos n)) = refl
    by_exact (Val (negsuc n)) = refl
    by_exact (Fail r) = refl
    by_exact Wrong = refl

-- ---- numbers

counts_many : (n k : ℕ) → length (counts n k) ≡ n
counts_many zero k = refl
counts_many (suc n) k = ap suc (counts_many n (suc k))

numbers_many : (n : ℕ) → length (map (λ s. One s ∷ []) (numbers_below n)) ≡ n
numbers_many n = length-map (numbers_below n) (λ s. One s ∷ []) ∙ length-map (counts n 0) i64 ∙ counts_many n 0

counts_get : (n k i : ℕ) → i < n → slice_get (map (λ s. One s ∷ []) (map i64 (counts n k))) i ≡ Some (One (i64 (k + i)) ∷ [])
counts_get zero k i l = absurd (omega (arith, l))
counts_get (suc n) k zero l = let e : k ≡ k + 0 = omega arith in ap (λ z. Some (One (i64 z) ∷ [])) e
counts_get (suc n) k (suc i) l = let e : suc k + i ≡ k + suc i = omega arith in counts_get n (suc k) i (omega (arith, l)) ∙ ap (λ z. Some (One (i64 z) ∷ [])) e

-- ---- how many there are

pub together_one : (at : Place) (env : Env) (r : Bundle) → source_rows false at env (Of_rows (r ∷ [])) ≡ and_then (values_of env r.arrays) (rows_of false at r.width)
together_one at env r = by_values (values_of env r.arrays)
  where
    by_values : (o : Out Row) → and_then (and_then o (λ cs. and_then (Val []) (λ css. Val (cs ∷ css)))) (rows_together false at (r.width ∷ [])) ≡ and_then o (rows_of false at r.width)
    by_values (Val cs) = refl
    by_values (Fail r) = refl
    by_values Wrong = refl

-- the one bundle of a source
rows_are : (G : Sorts) (r : Bundle) (row : List Sort) → Source_gives G (Of_rows (r ∷ [])) row → Rows_are G r row
rows_are G r row (rows_give g k) = by_groups g k
  where
    by_groups : {bss : List (List Sort)} → Groups_are G (r.arrays ∷ []) bss → Together (r.width ∷ []) bss row → Rows_are G r row
    by_groups (all_more a all_none) (one_bundle {bs = bs} b w) = record { sorts = bs; bundled = b; wide = w; are = a }

pub count_rows : (t : List ℕ) (rs : List Array) (r : Bundle) (at : Place) (a : Result ℕ Stop) → Bundle_counted t rs r at a → Source_counted t rs (Of_rows (r ∷ [])) at a
unfolding Bundle_counted Source_counted
count_rows t rs r at a h G env n row st g = by_told (h G env n row st (rows_are G r row g))
  where
    by_told : {a : Result ℕ Stop} → BundleTold env r at a → SourceTold (source_rows false at env (Of_rows (r ∷ []))) a
    by_told (bundle_told cs rows v y) = source_told rows (together_one at env r ∙ ap (λ z. and_then z (rows_of false at r.width)) v ∙ y)
    by_told (bundle_failed cs v y) = source_failed (together_one at env r ∙ ap (λ z. and_then z (rows_of false at r.width)) v ∙ y)
    by_told no_bundle = no_source

pub count_numbers : (t : List ℕ) (rs : List Array) (u : Atom) (at : Place) (a : Result ℕ Stop) → Size_asked t u at a → Source_counted t rs (Of_numbers u) at a
unfolding Size_asked Source_counted
count_numbers t rs u at a h G env n _ st (numbers_give {s = s} i x) = by_told (h G env n rs s st i x)
  where
    rest : (n : ℕ) → Out (List Row)
    rest n = Val (map (λ s. One s ∷ []) (numbers_below n))

    by_told : {a : Result ℕ Stop} → CountTold (and_then (value_of env u) (λ c. sized_by at c Val)) a → SourceTold (source_rows false at env (Of_numbers u)) a
    by_told (count_told {n = m} e) =
        subst (λ z. SourceTold (source_rows false at env (Of_numbers u)) (Ok z)) (numbers_many m)
        (source_told (map (λ s. One s ∷ []) (numbers_below m)) (sized_then at (value_of env u) rest ∙ ap (λ z. and_then z rest) e))
    by_told (count_failed e) = source_failed (sized_then at (value_of env u) rest ∙ ap (λ z. and_then z rest) e)
    by_told no_count = no_source

pub source_stop : (t : List ℕ) (rs : List Array) (source : Source) (at : Place) (e : Stop) → e ≡ Memory → Source_counted t rs source at (Err e)
unfolding Source_counted
source_stop t rs source at e q G env n row st g = subst (λ z. SourceTold (source_rows false at env source) (Err z)) (sym q) no_source

pub over_rows : (t : List ℕ) (rs : List Array) (o : Over) (xs : Bor (List Rows)) (at : Place) (a : Result ℕ Stop) → o ≡ over.Rows xs → Source_counted t rs (Of_rows (map bundle_form xs.now)) at a → Source_counted t rs (source_form o) at a
unfolding source_form
over_rows t rs o xs at a e h = subst (λ z. Source_counted t rs z at a) (sym (ap source_form e)) h

pub over_count : (t : List ℕ) (rs : List Array) (o : Over) (u : Atom) (at : Place) (a : Result ℕ Stop) → o ≡ over.Count u → Size_asked t u at a → Source_counted t rs (source_form o) at a
unfolding source_form
over_count t rs o u at a e h = subst (λ z. Source_counted t rs z at a) (sym (ap source_form e)) (count_numbers t rs u at a h)

pub ruleset source_counts = (source_stop, over_rows, over_count)

-- ---- one of them

pub push_rows : (r : Bundle) (i : ℕ) (S S' : State) (a : Answer) → Bundle_pushed r i S S' a → Source_pushed (Of_rows (r ∷ [])) i S S' a
unfolding Bundle_pushed Source_pushed
push_rows r i S S' a h G env n row rows at st g e l = by_values (values_of env r.arrays) refl (sym (together_one at env r) ∙ e)
  where
    by_values : (o : Out Row) → values_of env r.arrays ≡ o → and_then (values_of env r.arrays) (rows_of false at r.width) ≡ Val rows → RowPushed (λ ds. slice_get rows i ≡ Some ds) row S S' a
    by_values (Val cs) v y = h G env n row cs rows at st (rows_are G r row g) v (sym (ap (λ z. and_then z (rows_of false at r.width)) v) ∙ y) l
    by_values (Fail f) v y = let z : Fail f ≡ Val rows = sym (ap (λ z. and_then z (rows_of false at r.width)) v) ∙ y in cc
    by_values Wrong v y = let z : Wrong ≡ Val rows = sym (ap (λ z. and_then z (rows_of false at r.width)) v) ∙ y in cc

pub push_number : (u : Atom) (i : ℕ) (S S' : State) (a : Answer) → i < 2 ^ 64 → S'.arena ≡ S.arena → Pushed i S.stack S'.stack a → Source_pushed (Of_numbers u) i S S' a
unfolding Source_pushed
push_number u i S S' a fits same h G env n _ rows at st (numbers_give g x) e l = by_size (and_then (value_of env u) (λ c. sized_by at c Val)) refl
  where
    rest : (n : ℕ) → Out (List Row)
    rest n = Val (map (λ s. One s ∷ []) (numbers_below n))

    by_push : {a : Answer} → slice_get rows i ≡ Some (One (i64 i) ∷ []) → Pushed i S.stack S'.stack a → RowPushed (λ ds. slice_get rows i ≡ Some ds) (i64_sort ∷ []) S S' a
    by_push q (pushed y) =
        row_pushed (One (i64 i) ∷ []) (i ∷ []) q (shown_and (record { scalar = i64 i; is = refl; typed = (refl, fits); word = refl }) none_shown) y
        (record { arrays = λ j b z. ap (λ (k : Arena). slice_get k.arrays j) same ∙ z; handed = ap (λ (k : Arena). k.handed) same })
    by_push q answer.not_pushed = no_row

    by_rows : (m : ℕ) → rows ≡ map (λ s. One s ∷ []) (numbers_below m) → RowPushed (λ ds. slice_get rows i ≡ Some ds) (i64_sort ∷ []) S S' a
    by_rows m q = let z : 0 + i ≡ i = omega arith in by_push (ap (λ z. slice_get z i) q ∙ counts_get m 0 i (omega (arith, l, ap length q, numbers_many m)) ∙ ap (λ z. Some (One (i64 z) ∷ [])) z) h

    by_size : (o : Out ℕ) → and_then (value_of env u) (λ c. sized_by at c Val) ≡ o → RowPushed (λ ds. slice_get rows i ≡ Some ds) (i64_sort ∷ []) S S' a
    by_size (Val m) q = by_rows m (let z : Val rows ≡ Val (map (λ s. One s ∷ []) (numbers_below m)) = sym e ∙ sized_then at (value_of env u) rest ∙ ap (λ z. and_then z rest) q in cc)
    by_size (Fail f) q = let z : Val rows ≡ Fail f = sym e ∙ sized_then at (value_of env u) rest ∙ ap (λ z. and_then z rest) q in cc
    by_size Wrong q = let z : Val rows ≡ Wrong = sym e ∙ sized_then at (value_of env u) rest ∙ ap (λ z. and_then z rest) q in cc

pub push_stop : (source : Source) (i : ℕ) (S S' : State) (e : Stop) → e ≡ Memory → Source_pushed source i S S' (Err e)
unfolding Source_pushed
push_stop source i S S' e q G env n row rows at st g y l = subst (λ z. RowPushed (λ ds. slice_get rows i ≡ Some ds) row S S' (Err z)) (sym q) no_row

pub push_over_rows : (o : Over) (xs : Bor (List Rows)) (i : ℕ) (S S' : State) (a : Answer) → o ≡ over.Rows xs → Source_pushed (Of_rows (map bundle_form xs.now)) i S S' a → Source_pushed (source_form o) i S S' a
unfolding source_form
push_over_rows o xs i S S' a e h = subst (λ z. Source_pushed z i S S' a) (sym (ap source_form e)) h

pub push_over_count : (o : Over) (u : Atom) (i : ℕ) (S S' : State) (a : Answer) → o ≡ over.Count u → i < 2 ^ 64 → S'.arena ≡ S.arena → Pushed i S.stack S'.stack a → Source_pushed (source_form o) i S S' a
unfolding source_form
push_over_count o u i S S' a e l q h = subst (λ z. Source_pushed z i S S' a) (sym (ap source_form e)) (push_number u i S S' a l q h)

pub ruleset pushes = (push_stop)
