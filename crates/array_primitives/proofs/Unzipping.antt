-- The arrays of the parts of tuples.
use Rattle.std.proofs.Common.{◌≡◌, ℕ, zero, suc, ◌+◌, ◌<◌, ◌≤◌, List, [], ◌∷◌, ◌++◌, map, length, get_or, take, Ok, Err, false, refl, sym, ap, ◌∙◌, arith, add-one}
use Rattle.std.proofs.lemmas.List.{take_all}
use Rattle.fut_scalar.specs.declared.place.Place.{Place}
use Rattle.fut_flat.specs.declared.prim.Primitive.TheVariants as prim
use Rattle.fut_value.specs.Data.{Tuple_shape, Unmet_shape, Datum, Tuple_datum, Array_datum, datums}
use Rattle.fut_meaning.specs.Arrays.{each_out, shared}
use Rattle.fut_meaning.specs.Jobs.{Done, done, job, part_at, part_shape, tuple_part, column, tupled}
use Rattle.fut_meaning.specs.Outcomes.{Out, Val, and_then}
use Rattle.array_data.specs.declared.form.Form.{Form}
use Rattle.array_data.specs.declared.form.Form.TheVariants as form
use Rattle.array_data.specs.declared.data.Data.{Data}
use Rattle.array_data.specs.declared.data.Data.TheVariants as hold
use Rattle.array_data.specs.declared.stop.Stop.{Stop}
use Rattle.array_data.specs.Answers.{Copied, copied, not_copied, Added, added, not_added, Counts, Does, does, does_memory}
use Rattle.array_data.specs.Held.{shapes, shape_held, held, held_all, rows_in, row_shape_in}
use Rattle.array_data.proofs.Forms.{listed_datums}
use Rattle.array_data.proofs.Holding.{held_rows, held_tuple, form_unmet, form_tuple}
use Rattle.array_data.proofs.Jobbing.{rows_stop, rows_go}
use Rattle.array_primitives.proofs.Nesting.{each_out_more, get_part}
use Rattle.array_data.proofs.RowsRead.{get_held}
use Rattle.array_data.proofs.Tupling.{taken_more}

-- ---- forms

one_shape : (hs : List Form) (k : ℕ) (f : Form) → k < length hs → part_shape k (Tuple_shape (shapes (map shape_held hs))) ≡ shape_held (get_or hs k f)
one_shape [] k f l = absurd (omega arith)
one_shape (h ∷ hs) zero f l = refl
one_shape (h ∷ hs) (suc k) f l = one_shape hs k f (omega arith)

unmet_part : (k : ℕ) → part_shape k Unmet_shape ≡ Unmet_shape
unmet_part zero = refl
unmet_part (suc k) = refl

module _ (h f : Form) (k : ℕ) where
  pub part_of_tuple : (hs : List Form) (g d : Form) → h ≡ form.Tuple hs → k < length hs → g ≡ get_or hs k d → f ≡ g → shape_held f ≡ part_shape k (shape_held h)
  part_of_tuple hs g d e l q p = ap shape_held p ∙ ap shape_held q ∙ sym (ap (part_shape k) (ap shape_held e ∙ form_tuple hs) ∙ one_shape hs k d l)

  pub part_of_unmet : h ≡ form.Unmet → f ≡ form.Unmet → shape_held f ≡ part_shape k (shape_held h)
  part_of_unmet e q = ap shape_held q ∙ form_unmet ∙ sym (ap (part_shape k) (ap shape_held e ∙ form_unmet) ∙ unmet_part k)

pub ruleset part_forms = (part_of_tuple, part_of_unmet)

-- ---- parts

pub part_got : (d c k : Data) (n i : ℕ) (ds : List Data) → d ≡ hold.Tuple n ds → i < length ds → Copied (get_or ds i k) (Ok c) → tuple_part i (held d) ≡ Val (held c)
part_got d c k n i ds e l (copied q) = ap (tuple_part i) (ap held e ∙ held_tuple n ds) ∙ ap (part_at i) (listed_datums (held_all ds)) ∙ get_part (held_all ds) i (held (get_or ds i k)) (get_held ds i k l) ∙ ap Val (sym q)

pub ruleset parts = (part_got)

unfoldable pub Parts_to : List Data → ℕ → ℕ → List Datum → Type 0
Parts_to ds at i s = each_out (tuple_part at) (held_all (take i ds)) ≡ Val s

module _ (ds : List Data) (at : ℕ) where
  pub parts_start : (s : List Datum) → s ≡ [] → Parts_to ds at 0 s
  unfolding Parts_to held_all
  parts_start s e = ap Val (sym e)

  pub parts_more : (i : ℕ) (d : Data) (v : Datum) (s s' : List Datum) → i < length ds → Parts_to ds at i s → tuple_part at (held (get_or ds i d)) ≡ Val v → Added v s s' (Ok tt) → Parts_to ds at (i + 1) s'
  unfolding Parts_to
  parts_more i d v s s' l h q (added a) = ap (λ z. each_out (tuple_part at) (held_all (take z ds))) (add-one i) ∙ ap (each_out (tuple_part at)) (taken_more ds i d l)
      ∙ each_out_more (tuple_part at) (held_all (take i ds)) (held (get_or ds i d)) s v h q ∙ ap Val (sym a)

  pub parts_end : (i : ℕ) (s : List Datum) → length ds ≤ i → Parts_to ds at i s → each_out (tuple_part at) (held_all ds) ≡ Val s
  unfolding Parts_to
  parts_end i s l h = ap (λ z. each_out (tuple_part at) (held_all z)) (sym (take_all i ds l)) ∙ h

pub ruleset all_parts = (parts_start, parts_more, parts_end)

-- ---- columns

pub column_done : (d : Data) (n at : ℕ) (h : Form) (ds : List Data) (f k : Form) (xs : List Data) (s : List Datum) (v : Datum) → d ≡ hold.Rows n h ds → k ≡ h → xs ≡ ds → each_out (tuple_part at) (held_all xs) ≡ Val s → shape_held f ≡ part_shape at (shape_held k) → v ≡ Array_datum (shape_held f) (datums s) → column at (row_shape_in (held d), rows_in (held d)) ≡ Val v
column_done d n at h ds f k xs s v e q p a x y =
    ap (λ z. column at (row_shape_in z, rows_in z)) (ap held e ∙ held_rows n h ds) ∙ ap (λ z. column at (shape_held h, z)) (listed_datums (held_all ds))
    ∙ ap (λ z. column at (shape_held z, held_all ds)) (sym q) ∙ ap (λ z. column at (shape_held k, held_all z)) (sym p)
    ∙ ap (λ z. and_then z (λ ds. Val (Array_datum (part_shape at (shape_held k)) (datums ds)))) a ∙ ap (λ z. Val (Array_datum z (datums s))) (sym x) ∙ ap Val (sym y)

pub ruleset columns = (column_done)

-- ---- the tuple of columns

and_first : {A B : Type 0} (g : A → Out B) (x : A) (xs : List A) (y : B) (ys : List B) → g x ≡ Val y → each_out g xs ≡ Val ys → each_out g (x ∷ xs) ≡ Val (y ∷ ys)
and_first g x xs y ys e q = ap (λ z. and_then z (λ y. and_then (each_out g xs) (λ ys. Val (y ∷ ys)))) e ∙ ap (λ z. and_then z (λ ys. Val (y ∷ ys))) q

module _ (at : Place) (d : Datum) where
  pub unzip_stop : (e : Stop) → Counts d (Err e) → Does (job false Unmet_shape prim.Unzip at (d ∷ [])) (Err e)
  unfolding job
  unzip_stop e h = rows_stop d _ e h

  pub unzip3_stop : (e : Stop) → Counts d (Err e) → Does (job false Unmet_shape prim.Unzip3 at (d ∷ [])) (Err e)
  unfolding job
  unzip3_stop e h = rows_stop d _ e h

  module _ (n : ℕ) (g : Counts d (Ok n)) (a b : Data) (x : column 0 (row_shape_in d, rows_in d) ≡ Val (held a)) (y : column 1 (row_shape_in d, rows_in d) ≡ Val (held b)) (ps qs rs : List Data) (e : ps ≡ []) (q : qs ≡ ps ++ a ∷ []) (p : rs ≡ qs ++ b ∷ []) where
    two_columns : rs ≡ a ∷ b ∷ []
    two_columns = p ∙ ap (λ z. z ++ b ∷ []) (q ∙ ap (λ z. z ++ a ∷ []) e)

    pub unzip_done : (v : Datum) → v ≡ Tuple_datum (datums (held_all rs)) → Does (job false Unmet_shape prim.Unzip at (d ∷ [])) (Ok v)
    unfolding job held_all
    unzip_done v t = rows_go d _ n (Ok v) g (does {c = 0} {d = v} (ap (λ z. and_then z (λ ds. done (shared (tupled ds))))
        (and_first (λ k. column k (row_shape_in d, rows_in d)) 0 (1 ∷ []) (held a) (held b ∷ []) x (and_first (λ k. column k (row_shape_in d, rows_in d)) 1 [] (held b) [] y refl))
        ∙ ap (λ z. Val (Done (0, z))) (sym (t ∙ ap (λ z. Tuple_datum (datums (map held z))) two_columns))))

    pub unzip3_done : (c : Data) (ts : List Data) (v : Datum) → column 2 (row_shape_in d, rows_in d) ≡ Val (held c) → ts ≡ rs ++ c ∷ [] → v ≡ Tuple_datum (datums (held_all ts)) → Does (job false Unmet_shape prim.Unzip3 at (d ∷ [])) (Ok v)
    unfolding job held_all
    unzip3_done c ts v z w t = rows_go d _ n (Ok v) g (does {c = 0} {d = v} (ap (λ z. and_then z (λ ds. done (shared (tupled ds))))
        (and_first (λ k. column k (row_shape_in d, rows_in d)) 0 (1 ∷ 2 ∷ []) (held a) (held b ∷ held c ∷ []) x (and_first (λ k. column k (row_shape_in d, rows_in d)) 1 (2 ∷ []) (held b) (held c ∷ []) y (and_first (λ k. column k (row_shape_in d, rows_in d)) 2 [] (held c) [] z refl)))
        ∙ ap (λ z. Val (Done (0, z))) (sym (t ∙ ap (λ z. Tuple_datum (datums (map held z))) (w ∙ ap (λ z. z ++ c ∷ []) two_columns)))))

pub ruleset unzips = (unzip_stop, unzip3_stop, unzip_done, unzip3_done, does_memory)
