-- What the steps of Core give for the components of data.
use Rattle.std.specs.Prelude.{◌≡◌, ℕ, ◌<◌, ◌≤◌, List, [], ◌∷◌, ◌++◌, map, length, replicate, Bool, false, ℤ}
use Rattle.fut_scalar.specs.declared.place.Place.{Place}
use Rattle.fut_value.specs.Data.{Shape, Tuple_shape, Array_shape, Datum, Array_datum, Datums, listed, datums, shape_of}
use Rattle.fut_value.specs.Data as data_of
use Rattle.fut_value.specs.Leaves.{leaves}
use Rattle.fut_meaning.specs.Arrays as source
use Rattle.fut_meaning.specs.Outcomes.{Out, Val, and_then}
use Rattle.core_ir.specs.Bundles.{Row, all_sizes, array_words, rows_of, glued}
use Rattle.fut_meaning.specs.Jobs as jobs
use Rattle.fut_meaning.specs.Arrays.{Cut, Cut_at, Cut_slice, Cut_backwards}
use Rattle.core_ir.specs.Arrays.{updated, row_at, cut, zipped, concatenated}
use Rattle.core_ir.specs.Meaning.{kept}
use Rattle.core_values.specs.Components.{components, One_type, Regular, Of_type, Told, array_in, wide, all_arrays, All_arrays, row_shapes}

-- the components of what comes out
abbrev pub apart : Out Datum → Out Row
apart o = and_then o (λ d. Val (components d))

abbrev pub ComponentsAreSized : Type 0
ComponentsAreSized = (d : Datum) → Regular d → all_sizes (components d) ≡ leaves (shape_of d)

abbrev pub CountsAgree : Type 0
CountsAgree = (d : Datum) → Regular d → array_words (components d) ≡ data_of.array_words (shape_of d)

-- nothing misfits in regular data
abbrev pub RowsComeOut : Type 0
RowsComeOut = (misfit : Bool) (at : Place) (row : Shape) (ds : Datums) → Regular (Array_datum row ds) → rows_of misfit at (length (leaves row)) (components (Array_datum row ds)) ≡ Val (map components (listed ds))

-- with the sizes that are told where there is no row, and rows of the type of these
abbrev pub ArraysAreMade : Type 0
ArraysAreMade = (misfit : Bool) (at : Place) (told : Shape) (ds : List Datum) → One_type told told → Of_type told ds → glued misfit at (leaves told) (map components ds) ≡ apart (source.array misfit at told ds)

abbrev pub MadeAreRegular : Type 0
MadeAreRegular = (misfit : Bool) (at : Place) (told : Shape) (ds : List Datum) → One_type told told → Of_type told ds → (d : Datum) → source.array misfit at told ds ≡ Val d → Regular d

-- the data at an index of several parts is of the type of the value that comes in its place
pub data Fits_at (v : Datum) : List ℤ → Shape → Type 0 where
  fits_here : {h : Shape} → One_type h (shape_of v) → Fits_at v [] h
  fits_inside : {z : ℤ} {zs : List ℤ} {n : ℕ} {h : Shape} → Fits_at v zs h → Fits_at v (z ∷ zs) (data_of.Array_shape n h)

abbrev pub UpdatesAgree : Type 0
UpdatesAgree = (misfit : Bool) (at : Place) (zs : List ℤ) (v d : Datum) → Regular v → Regular d → Fits_at v zs (shape_of d) → updated misfit at zs (components v) (components d) ≡ apart (source.updated misfit at zs v d)

-- and of the shape that it had
abbrev pub UpdatedAreRegular : Type 0
UpdatedAreRegular = (misfit : Bool) (at : Place) (zs : List ℤ) (v d : Datum) → Regular v → Regular d → Fits_at v zs (shape_of d) → (e : Datum) → source.updated misfit at zs v d ≡ Val e → Regular e × (shape_of e ≡ shape_of d)

-- ---- rows that are taken

abbrev pub RowAgrees : Type 0
RowAgrees =
    (misfit : Bool) (at : Place) (z : ℤ) (row : Shape) (ds : Datums) → Regular (Array_datum row ds)
    → and_then (rows_of misfit at (length (leaves row)) (components (Array_datum row ds))) (row_at at z) ≡ apart (source.row_at at z (listed ds))

abbrev pub KeptAgree : Type 0
KeptAgree =
    (misfit : Bool) (at : Place) (b : Bool) (row : Shape) (ds : Datums) (ts : List Bool) → Regular (Array_datum row ds)
    → kept misfit at b (components (Array_datum row ds)) ts ≡ Val (components (Array_datum row (datums (jobs.sifted b (listed ds) ts))))

-- the rows of several arrays side by side, as an array of tuples
abbrev pub ZipsAgree : Type 0
ZipsAgree =
    (misfit : Bool) (at : Place) (a : Told) (rest : List Told) → Regular (array_in a) → All_arrays rest
    → zipped misfit at (map wide (a ∷ rest)) (map components (all_arrays (a ∷ rest))) ≡ apart (and_then (jobs.columns misfit at (a.0, listed a.1) (all_arrays rest)) (λ rs. source.array_of at (Tuple_shape (row_shapes (a ∷ rest))) (map jobs.tupled rs)))

-- ---- indices of several parts

-- what the parts take is there, and a row behind the last of them has so many components
pub data Cuts_fit (w : ℕ) : List Cut → Shape → Type 0 where
  fit_end : {h : Shape} → Cuts_fit w [] h
  fit_row : {n i : ℕ} {h : Shape} → i < n → w ≡ length (leaves h) → Cuts_fit w (Cut_at i ∷ []) (Array_shape n h)
  fit_rows : {n i : ℕ} {c : Cut} {cs : List Cut} {h : Shape} → i < n → Cuts_fit w (c ∷ cs) h → Cuts_fit w (Cut_at i ∷ c ∷ cs) (Array_shape n h)
  fit_slice : {n i j : ℕ} {cs : List Cut} {h : Shape} → i ≤ j → j ≤ n → Cuts_fit w cs h → Cuts_fit w (Cut_slice i j ∷ cs) (Array_shape n h)
  fit_reverse : {n : ℕ} {cs : List Cut} {h : Shape} → Cuts_fit w cs h → Cuts_fit w (Cut_backwards ∷ cs) (Array_shape n h)

abbrev pub CutsAgree : Type 0
CutsAgree = (misfit : Bool) (at : Place) (w : ℕ) (cs : List Cut) (d : Datum) → Regular d → Cuts_fit w cs (shape_of d) → cut misfit at w cs (components d) ≡ apart (source.cut cs d)

-- ---- arrays of one row, and of two arrays one behind the other

abbrev pub CopiesAgree : Type 0
CopiesAgree =
    (misfit : Bool) (at : Place) (n : ℕ) (d : Datum) → Regular d → One_type (shape_of d) (shape_of d)
    → glued misfit at (all_sizes (components d)) (replicate n (components d)) ≡ apart (source.array_of at (shape_of d) (replicate n d))

-- an array without rows shows nothing of their sizes
abbrev pub ConcatsAgree : Type 0
ConcatsAgree =
    (at : Place) (row row' : Shape) (ds es : Datums) → One_type row row' → Regular (Array_datum row ds) → Regular (Array_datum row' es)
    → concatenated false at (components (Array_datum row ds)) (components (Array_datum row' es))
    ≡ apart (source.fitting false (jobs.shown_to_agree (row, listed ds) (row', listed es)) at (source.array_of at (jobs.either_row (row, listed ds) (row', listed es)) (listed ds ++ listed es)))
