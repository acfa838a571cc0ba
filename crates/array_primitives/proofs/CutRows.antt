-- Data that is cut.
use Rattle.std.proofs.Common.{◌≡◌, ℕ, zero, suc, ◌+◌, ◌-◌, ◌<◌, ◌≤◌, List, [], ◌∷◌, ◌++◌, map, length, get_or, take, drop, slice_get, Some, Ok, refl, sym, ap, ◌∙◌, arith}
use Rattle.std.specs.Prelude.{reverse}
use Rattle.std.proofs.lemmas.List.{reverse-append}
use Rattle.fut_value.specs.Data.{Shape, Datum, Scalar_datum, Tuple_datum, Record_datum, Array_datum, Array_shape, datums}
use Rattle.fut_meaning.specs.Arrays.{each_out, Cut, Cut_at, Cut_slice, Cut_backwards, cut, cut_shape, inner, rows_of, row_or_wrong, size}
use Rattle.fut_meaning.specs.Outcomes.{Out, Val, Fail, Wrong, and_then}
use Rattle.array_primitives.specs.declared.cuts.Cut.{Cut as Held_cut}
use Rattle.array_primitives.specs.declared.cuts.Cut.TheVariants as run
use Rattle.array_data.specs.declared.data.Data.{Data}
use Rattle.array_data.specs.declared.data.Data.TheVariants as hold
use Rattle.array_data.specs.declared.form.Form.{Form}
use Rattle.array_data.specs.declared.form.Form.TheVariants as form
use Rattle.array_data.specs.Answers.{Added, added, Copied, copied, Counts, counts, Row_is, row_is}
use Rattle.array_data.specs.Held.{held, rows_in, row_shape_in, shape_held}
use Rattle.array_primitives.specs.Slices.{cut_held, cuts_held}
use Rattle.array_primitives.proofs.Asking.{rest_of}
use Rattle.array_primitives.proofs.Cutting.{drop_all}
use Rattle.array_data.proofs.Holding.{form_array}
use Rattle.array_data.proofs.RowsRead.{get_held, rows_of_rows, take_row, drop_row}

no_cuts : (cs : List Held_cut) → length cs ≡ 0 → cuts_held cs ≡ []
unfolding cuts_held
no_cuts [] e = refl
no_cuts (c ∷ cs) e = absurd (omega arith)

first_cut_is : (cs ks : List Held_cut) (c d : Held_cut) → (length cs ≡ 0 → ⊥) → get_or cs 0 d ≡ c → ks ≡ drop 1 cs → cuts_held cs ≡ cut_held c ∷ cuts_held ks
unfolding cuts_held
first_cut_is [] ks c d l e x = absurd (l refl)
first_cut_is (b ∷ cs) ks c d l e x = ap (λ z. cut_held z ∷ map cut_held cs) e ∙ ap (λ z. cut_held c ∷ map cut_held z) (sym x)

-- ---- forms

pub form_whole : (cs : List Held_cut) (f g : Form) → length cs ≡ 0 → g ≡ f → shape_held g ≡ cut_shape (cuts_held cs) (shape_held f)
form_whole cs f g l e = ap shape_held e ∙ ap (λ z. cut_shape z (shape_held f)) (sym (no_cuts cs l))

module _ (cs : List Held_cut) (f k g : Form) (n : ℕ) (d : Held_cut) (l : length cs ≡ 0 → ⊥) (e : shape_held k ≡ inner (shape_held f)) (h : shape_held g ≡ cut_shape (cuts_held (take (length cs - 1) (drop 1 cs))) (shape_held k)) where
  ks : List Held_cut
  ks = take (length cs - 1) (drop 1 cs)

  cut_so : (c : Held_cut) → get_or cs 0 d ≡ c → cut_shape (cuts_held cs) (shape_held f) ≡ cut_shape (cut_held c ∷ cuts_held ks) (shape_held f)
  unfolding ks
  cut_so c q = ap (λ z. cut_shape z (shape_held f)) (first_cut_is cs ks c d l q (rest_of cs 1))

  inside : shape_held g ≡ cut_shape (cuts_held ks) (inner (shape_held f))
  unfolding ks
  inside = h ∙ ap (cut_shape (cuts_held ks)) e

  pub form_row : (i : ℕ) → get_or cs 0 d ≡ run.At i → shape_held g ≡ cut_shape (cuts_held cs) (shape_held f)
  form_row i q = inside ∙ sym (cut_so (run.At i) q)

  pub form_slice : (i j m : ℕ) (w v : Form) → get_or cs 0 d ≡ run.Slice i j → m ≡ j - i → v ≡ g → w ≡ form.Array m v → shape_held w ≡ cut_shape (cuts_held cs) (shape_held f)
  form_slice i j m w v q p u y = ap shape_held y ∙ form_array m v ∙ ap (λ z. Array_shape z (shape_held v)) p ∙ ap (λ z. Array_shape (j - i) (shape_held z)) u ∙ ap (Array_shape (j - i)) inside ∙ sym (cut_so (run.Slice i j) q)

  pub form_back : (w v : Form) → n ≡ size (shape_held f) → get_or cs 0 d ≡ run.Backwards → v ≡ g → w ≡ form.Array n v → shape_held w ≡ cut_shape (cuts_held cs) (shape_held f)
  form_back w v s q u y = ap shape_held y ∙ form_array n v ∙ ap (λ z. Array_shape n (shape_held z)) u ∙ ap (λ z. Array_shape z (shape_held g)) s ∙ ap (Array_shape (size (shape_held f))) inside ∙ sym (cut_so run.Backwards q)

pub ruleset forms = (form_whole, form_row, form_slice, form_back)

-- ---- a row of rows

pub row_within : (d : Data) (m : ℕ) (h : Form) (ds : List Data) (i : ℕ) (k : Data) → d ≡ hold.Rows m h ds → i < length ds → slice_get (rows_in (held d)) i ≡ Some (held (get_or ds i k))
row_within d m h ds i k e l = ap (λ z. slice_get z i) (ap (λ z. rows_in (held z)) e ∙ rows_of_rows m h ds) ∙ get_held ds i k l

pub ruleset inner_rows = (row_within)

-- ---- data

some_rows : (d : Datum) (i : ℕ) (e : Datum) → slice_get (rows_in d) i ≡ Some e → rows_of d ≡ Val (row_shape_in d, rows_in d)
some_rows (Scalar_datum s) i e h = cc
some_rows (Tuple_datum ds) i e h = cc
some_rows (Record_datum fs) i e h = cc
some_rows (Array_datum r ds) i e h = refl

pub row_cut : (d : Datum) (i : ℕ) (e : Datum) (cs : List Cut) → slice_get (rows_in d) i ≡ Some e → cut (Cut_at i ∷ cs) d ≡ cut cs e
unfolding cut
row_cut d i e cs h = ap (λ o. and_then o (λ r. row_or_wrong (slice_get r.1 i) (cut cs))) (some_rows d i e h) ∙ ap (λ o. row_or_wrong o (cut cs)) h

pub cut_inside : (d : Datum) (i : ℕ) (e v : Datum) (cs : List Cut) → slice_get (rows_in d) i ≡ Some e → cut cs e ≡ Val v → cut (Cut_at i ∷ cs) d ≡ Val v
cut_inside d i e v cs h q = row_cut d i e cs h ∙ q

pub cut_read : (d : Datum) (i : ℕ) (e : Datum) (v : Datum) (cs : List Cut) → Row_is d i (Ok e) → cut cs e ≡ Val v → cut (Cut_at i ∷ cs) d ≡ Val v
cut_read d i e v cs (row_is h) q = row_cut d i e cs h ∙ q

pub ruleset one_row = (cut_inside, cut_read)

pub nothing_cut : (cs : List Held_cut) (d c : Data) → length cs ≡ 0 → Copied d (Ok c) → cut (cuts_held cs) (held d) ≡ Val (held c)
unfolding cut
nothing_cut cs d c l (copied e) = ap (λ z. cut z (held d)) (no_cuts cs l) ∙ ap Val (sym e)

module _ (cs : List Held_cut) (k : Held_cut) (d : Data) (v : Datum) (l : length cs ≡ 0 → ⊥) where
  pub whole_row : (i : ℕ) → get_or cs 0 k ≡ run.At i → cut (Cut_at i ∷ cuts_held (take (length cs - 1) (drop 1 cs))) (held d) ≡ Val v → cut (cuts_held cs) (held d) ≡ Val v
  whole_row i q h = ap (λ z. cut z (held d)) (first_cut_is cs (take (length cs - 1) (drop 1 cs)) (run.At i) k l q (rest_of cs 1)) ∙ h

  pub whole_slice : (i j : ℕ) → get_or cs 0 k ≡ run.Slice i j → cut (Cut_slice i j ∷ cuts_held (take (length cs - 1) (drop 1 cs))) (held d) ≡ Val v → cut (cuts_held cs) (held d) ≡ Val v
  whole_slice i j q h = ap (λ z. cut z (held d)) (first_cut_is cs (take (length cs - 1) (drop 1 cs)) (run.Slice i j) k l q (rest_of cs 1)) ∙ h

  pub whole_back : get_or cs 0 k ≡ run.Backwards → cut (Cut_backwards ∷ cuts_held (take (length cs - 1) (drop 1 cs))) (held d) ≡ Val v → cut (cuts_held cs) (held d) ≡ Val v
  whole_back q h = ap (λ z. cut z (held d)) (first_cut_is cs (take (length cs - 1) (drop 1 cs)) run.Backwards k l q (rest_of cs 1)) ∙ h

pub ruleset wholes = (nothing_cut, whole_row, whole_slice, whole_back)

-- ---- each of some rows

unfoldable pub All_cut : List Held_cut → List Datum → List Datum → Type 0
All_cut cs xs ds = each_out (cut (cuts_held cs)) xs ≡ Val ds

each_more : (g : Datum → Out Datum) (xs ys : List Datum) (x y : Datum) → each_out g xs ≡ Val ys → g x ≡ Val y → each_out g (xs ++ x ∷ []) ≡ Val (ys ++ y ∷ [])
each_more g [] ys x y e q = let p : [] ≡ ys = cc in ap (λ o. and_then o (λ z. Val (z ∷ []))) q ∙ ap (λ z. Val (z ++ y ∷ [])) p
each_more g (b ∷ xs) ys x y e q = by_first (g b) (each_out g xs) (λ zs v. each_more g xs zs x y v q) e refl refl
  where
    by_first : (o : Out Datum) (p : Out (List Datum)) → ((zs : List Datum) → each_out g xs ≡ Val zs → each_out g (xs ++ x ∷ []) ≡ Val (zs ++ y ∷ [])) → and_then o (λ z. and_then p (λ zs. Val (z ∷ zs))) ≡ Val ys → g b ≡ o → each_out g xs ≡ p → and_then (g b) (λ z. and_then (each_out g (xs ++ x ∷ [])) (λ zs. Val (z ∷ zs))) ≡ Val (ys ++ y ∷ [])
    by_first (Val z) (Val zs) m h u v = let w : z ∷ zs ≡ ys = cc in
        ap (λ o. and_then o (λ z. and_then (each_out g (xs ++ x ∷ [])) (λ zs. Val (z ∷ zs)))) u ∙ ap (λ o. and_then o (λ zs. Val (z ∷ zs))) (m zs v) ∙ ap (λ z. Val (z ++ y ∷ [])) w
    by_first (Val z) (Fail r) m h u v = cc
    by_first (Val z) Wrong m h u v = cc
    by_first (Fail r) p m h u v = cc
    by_first Wrong p m h u v = cc

module _ (cs : List Held_cut) (d : Datum) (from : ℕ) where
  pub rows_start : (ds : List Datum) → ds ≡ [] → All_cut cs (take (from - from) (drop from (rows_in d))) ds
  unfolding All_cut
  rows_start ds e = let q : from - from ≡ 0 = omega arith in ap (λ k. each_out (cut (cuts_held cs)) (take k (drop from (rows_in d)))) q ∙ ap Val (sym e)

  get_drop : (xs : List Datum) (n i : ℕ) → n ≤ i → slice_get (drop n xs) (i - n) ≡ slice_get xs i
  get_drop xs zero i l = let e : i - zero ≡ i = omega arith in ap (slice_get xs) e
  get_drop [] (suc n) zero l = absurd (omega arith)
  get_drop [] (suc n) (suc i) l = refl
  get_drop (x ∷ xs) (suc n) zero l = absurd (omega arith)
  get_drop (x ∷ xs) (suc n) (suc i) l = let e : suc i - suc n ≡ i - n = omega arith in ap (slice_get (drop n xs)) e ∙ get_drop xs n i (omega arith)

  pub rows_more : (i : ℕ) (e v : Datum) (ds ds' : List Datum) → from ≤ i → All_cut cs (take (i - from) (drop from (rows_in d))) ds → Row_is d i (Ok e) → cut (cuts_held cs) e ≡ Val v → Added v ds ds' (Ok tt) → All_cut cs (take ((i + 1) - from) (drop from (rows_in d))) ds'
  unfolding All_cut
  rows_more i e v ds ds' l h (row_is k) q (added a) =
      let y : (i + 1) - from ≡ suc (i - from) = omega arith in
      ap (λ z. each_out (cut (cuts_held cs)) (take z (drop from (rows_in d)))) y ∙ ap (each_out (cut (cuts_held cs))) (take_row (drop from (rows_in d)) (i - from) e (get_drop (rows_in d) from i l ∙ k))
      ∙ each_more (cut (cuts_held cs)) (take (i - from) (drop from (rows_in d))) ds e v h q ∙ ap Val (sym a)

  pub rows_end : (i to n : ℕ) (h g : Shape) (ds : List Datum) (w : Datum) → Counts d (Ok n) → to ≤ i → i ≤ to → from ≤ to → h ≡ row_shape_in d → g ≡ cut_shape (cuts_held cs) h → All_cut cs (take (i - from) (drop from (rows_in d))) ds → w ≡ Array_datum g (datums ds)
      → cut (Cut_slice from to ∷ cuts_held cs) d ≡ Val w
  unfolding All_cut cut
  rows_end i to n h g ds w (counts r u) l m o p q a x = let y : i ≡ to = omega arith in
      ap (λ o. and_then o (λ r. and_then (each_out (cut (cuts_held cs)) (take (to - from) (drop from r.1))) (λ ds. Val (Array_datum (cut_shape (cuts_held cs) r.0) (datums ds))))) r
      ∙ ap (λ z. and_then (each_out (cut (cuts_held cs)) (take (z - from) (drop from (rows_in d)))) (λ ds. Val (Array_datum (cut_shape (cuts_held cs) (row_shape_in d)) (datums ds)))) (sym y)
      ∙ ap (λ o. and_then o (λ ds. Val (Array_datum (cut_shape (cuts_held cs) (row_shape_in d)) (datums ds)))) a
      ∙ ap (λ z. Val (Array_datum (cut_shape (cuts_held cs) z) (datums ds))) (sym p) ∙ ap (λ z. Val (Array_datum z (datums ds))) (sym q) ∙ ap Val (sym x)

module _ (cs : List Held_cut) (d : Datum) (n : ℕ) where
  pub back_start : (ds : List Datum) → Counts d (Ok n) → ds ≡ [] → All_cut cs (reverse (drop (n - 0) (rows_in d))) ds
  unfolding All_cut
  back_start ds (counts r g) e = ap (λ z. each_out (cut (cuts_held cs)) (reverse z)) (drop_all (rows_in d) (n - 0) (omega arith)) ∙ ap Val (sym e)

  pub back_more : (i j : ℕ) (e v : Datum) (ds ds' : List Datum) → i < n → j ≡ (n - 1) - i → All_cut cs (reverse (drop (n - i) (rows_in d))) ds → Row_is d j (Ok e) → cut (cuts_held cs) e ≡ Val v → Added v ds ds' (Ok tt) → All_cut cs (reverse (drop (n - (i + 1)) (rows_in d))) ds'
  unfolding All_cut
  back_more i j e v ds ds' l p h (row_is k) q (added a) =
      let x : suc j ≡ n - i = omega arith in
      let y : n - (i + 1) ≡ j = omega arith in
      ap (λ z. each_out (cut (cuts_held cs)) (reverse (drop z (rows_in d)))) y ∙ ap (λ z. each_out (cut (cuts_held cs)) (reverse z)) (drop_row (rows_in d) j e k)
      ∙ ap (each_out (cut (cuts_held cs))) (reverse-append (e ∷ []) (drop (suc j) (rows_in d)))
      ∙ ap (λ z. each_out (cut (cuts_held cs)) (reverse (drop z (rows_in d)) ++ e ∷ [])) x
      ∙ each_more (cut (cuts_held cs)) (reverse (drop (n - i) (rows_in d))) ds e v h q ∙ ap Val (sym a)

  pub back_end : (i : ℕ) (h f : Shape) (ds : List Datum) (w : Datum) → Counts d (Ok n) → n ≤ i → h ≡ row_shape_in d → f ≡ cut_shape (cuts_held cs) h → All_cut cs (reverse (drop (n - i) (rows_in d))) ds → w ≡ Array_datum f (datums ds) → cut (Cut_backwards ∷ cuts_held cs) d ≡ Val w
  unfolding All_cut cut
  back_end i h f ds w (counts r g) l p q a x = let y : 0 ≡ n - i = omega arith in
      ap (λ o. and_then o (λ r. and_then (each_out (cut (cuts_held cs)) (reverse r.1)) (λ ds. Val (Array_datum (cut_shape (cuts_held cs) r.0) (datums ds))))) r
      ∙ ap (λ z. and_then (each_out (cut (cuts_held cs)) (reverse (drop z (rows_in d)))) (λ ds. Val (Array_datum (cut_shape (cuts_held cs) (row_shape_in d)) (datums ds)))) y
      ∙ ap (λ o. and_then o (λ ds. Val (Array_datum (cut_shape (cuts_held cs) (row_shape_in d)) (datums ds)))) a
      ∙ ap (λ z. Val (Array_datum (cut_shape (cuts_held cs) z) (datums ds))) (sym p) ∙ ap (λ z. Val (Array_datum z (datums ds))) (sym q) ∙ ap Val (sym x)

pub ruleset rows_cut = (rows_start, rows_more, rows_end)

pub ruleset back_cut = (back_start, back_more, back_end)
