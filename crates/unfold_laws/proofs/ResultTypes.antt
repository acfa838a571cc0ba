-- The components of a value of a type are of the types of its components, once tuples among them are taken apart.
use Rattle.std.proofs.Common.{◌≡◌, ℕ, zero, suc, ◌++◌, List, [], ◌∷◌, false, refl, sym, ap, ◌∙◌, subst}
use Rattle.std.proofs.lemmas.List.{append_assoc}
use Rattle.fut_scalar.specs.declared.place.BindId.{BindId}
use Rattle.fut_scalar.specs.declared.scalar.Scalar.{Scalar}
use Rattle.fut_scalar.specs.declared.scalar.Scalar.TheVariants as scalar
use Rattle.fut_scalar.specs.declared.scalar.ScalarType.{ScalarType}
use Rattle.fut_scalar.specs.declared.scalar.ScalarType.TheVariants as types
use Rattle.fut_scalar.specs.declared.sizes.DataType.{DataType}
use Rattle.fut_arithmetic.specs.Types.{type_of}
use Rattle.fut_flat.specs.declared.prim.Ref.{Ref}
use Rattle.fut_types.specs.declared.Head.TheVariants as head
use Rattle.fut_types.specs.Types.{Ty, Made, Tys, none, more}
use Rattle.fut_typing.specs.Names.{Names}
use Rattle.fut_value.specs.Data.{Shape as Look, Datum, Scalar_datum, Tuple_datum, Record_datum, Array_datum, Datums, no_datum, datum_and}
use Rattle.fut_meaning.specs.Found.{Told}
use Rattle.fut_meaning.specs.Datums.{as_value, as_values}
use Rattle.fut_meaning.specs.Flats.{FlatValue, FlatMode, FlatTops}
use Rattle.fut_meaning.specs.Meaning.{plain}
use Rattle.fut_meaning.specs.Values.{Values, Tuple_value, Record_value, Fields}
use Rattle.fut_blocks.specs.Meaning.{Component}
use Rattle.fut_blocks.specs.Programs.{Is_of, All_of, AreOf}
use Rattle.type_soundness.specs.Fits.{Is_scalar, Fits, All_fit}
use Rattle.type_soundness.specs.Likeness.{All_datums, Like}
use Rattle.unfold.specs.Shapes.{Shape, Shapes, Split, split_scalar, split_tuple, split_record, All_split, split_none, split_more}
use Rattle.unfold_laws.specs.Claims.{ResultsAreOf}
use Rattle.unfold_laws.specs.Sorts.{Is_type, Sorts, sorts_one, sorts_tuple, All_sorts, sorts_none, sorts_more, spread, all_spread, parts}

scalar_is : (s : ScalarType) (c : Scalar) → Is_scalar s c → type_of c ≡ s
scalar_is (types.Int t) (scalar.Int u n) e = ap types.Int e
scalar_is (types.Int t) (scalar.Bool b) e = absurd e
scalar_is types.Bool (scalar.Int u n) e = absurd e
scalar_is types.Bool (scalar.Bool b) e = refl

module _ (N : Names) (T : Told) (M : FlatMode) (budget : ℕ) (tops : FlatTops) where
  abbrev Of : Ty → FlatValue → Type 0
  Of t v = Fits N T M budget false t tops v

  abbrev Row : Ty → Look → Datum → Type 0
  Row t row d = Of t (as_value d) × Like row d

  -- ---- one component
  mutual
    unfolding Fits

    one_is : (x : ScalarType) (r : ℕ) (t : Ty) (c : Datum) → Is_type x r t → Of t (as_value c) → (spread c ≡ c ∷ []) × Is_of x r c
    one_is x zero (Made (head.Scalar y) ts) (Scalar_datum s) e h = (refl, scalar_is y s h ∙ e)
    one_is x zero (Made (head.Scalar y) ts) (Tuple_datum ds) e h = absurd h
    one_is x zero (Made (head.Scalar y) ts) (Record_datum ds) e h = absurd h
    one_is x zero (Made (head.Scalar y) ts) (Array_datum row ds) e h = absurd h
    one_is x (suc r) (Made head.Array (more t none)) (Array_datum row ds) e h = (refl, rows_are x r t row ds e h)
    one_is x (suc r) (Made head.Array (more t none)) (Scalar_datum s) e h = absurd h
    one_is x (suc r) (Made head.Array (more t none)) (Tuple_datum ds) e h = absurd h
    one_is x (suc r) (Made head.Array (more t none)) (Record_datum ds) e h = absurd h
    one_is x r t c e h = absurd e

    rows_are : (x : ScalarType) (r : ℕ) (t : Ty) (row : Look) (ds : Datums) → Is_type x r t → All_datums (Row t row) ds → All_of x r ds
    rows_are x r t row no_datum e h = tt
    rows_are x r t row (datum_and d ds) e h = ((one_is x r t d e h.0.0).1, rows_are x r t row ds e h.1)

  -- it is no tuple and no record
  no_tuple : (x : ScalarType) (r : ℕ) (t : Ty) (vs : Values Ref BindId (Unit {0})) → Is_type x r t → Of t (Tuple_value vs) → ⊥
  unfolding Fits
  no_tuple x zero (Made (head.Scalar y) ts) vs e h = h
  no_tuple x (suc r) (Made head.Array (more t none)) vs e h = h
  no_tuple x r t vs e h = absurd e

  no_record : (x : ScalarType) (r : ℕ) (t : Ty) (fs : Fields Ref BindId (Unit {0})) → Is_type x r t → Of t (Record_value fs) → ⊥
  unfolding Fits
  no_record x zero (Made (head.Scalar y) ts) fs e h = h
  no_record x (suc r) (Made head.Array (more t none)) fs e h = h
  no_record x r t fs e h = absurd e

  -- ---- what is one component, taken apart
  mutual
    unfolding Fits All_fit

    datum_are : {u : Ty} {ss us : List DataType} (c : Datum) (rest : List Datum) → Sorts u ss us → Of u (as_value c) → AreOf us rest → AreOf ss (spread c ++ rest)
    datum_are {u} c rest (sorts_one {d = d} {rest = us} i) h e = let r = one_is d.elem d.rank u c i h in subst (λ z. AreOf (d ∷ us) (z ++ rest)) (sym r.0) (r.1, e)
    datum_are (Tuple_datum ds) rest (sorts_tuple s) h e = all_datum_are ds rest s h.1 e
    datum_are (Scalar_datum c) rest (sorts_tuple s) h e = absurd h.1
    datum_are (Record_datum ds) rest (sorts_tuple s) h e = absurd h.1
    datum_are (Array_datum row ds) rest (sorts_tuple s) h e = absurd h.1

    all_datum_are : {ts : Tys} {ss us : List DataType} (ds : Datums) (rest : List Datum) → All_sorts ts ss us → All_fit N T M budget false ts tops (as_values ds) → AreOf us rest → AreOf ss (all_spread ds ++ rest)
    all_datum_are no_datum rest sorts_none h e = e
    all_datum_are (datum_and d ds) rest sorts_none h e = absurd h
    all_datum_are no_datum rest (sorts_more s t) h e = absurd h
    all_datum_are {ss = ss} (datum_and d ds) rest (sorts_more s t) h e = subst (AreOf ss) (sym (append_assoc (spread d) (all_spread ds) rest)) (datum_are d (all_spread ds ++ rest) s h.0 (all_datum_are ds rest t h.1 e))

  mutual
    unfolding Fits All_fit

    pub sorts_are : {u : Ty} {ss us : List DataType} {h : Shape} {v : FlatValue} {cs ds : List Component} → Sorts u ss us → Split h v cs ds → Of u v → AreOf us (parts ds) → AreOf ss (parts cs)
    sorts_are {u} s (split_scalar {c = c} {rest = ds} q) f e = datum_are c (parts ds) s (subst (Of u) q f) e
    sorts_are {u} (sorts_one {d = d} i) (split_tuple {vs = vs} p) f e = absurd (no_tuple d.elem d.rank u vs i f)
    sorts_are {u} (sorts_one {d = d} i) (split_record {fs = fs} p) f e = absurd (no_record d.elem d.rank u fs i f)
    sorts_are (sorts_tuple s) (split_tuple p) f e = all_are s p f.1 e
    sorts_are (sorts_tuple s) (split_record p) f e = absurd f.1

    all_are : {ts : Tys} {ss us : List DataType} {hs : Shapes} {vs : Values Ref BindId (Unit {0})} {cs ds : List Component} → All_sorts ts ss us → All_split hs vs cs ds → All_fit N T M budget false ts tops vs → AreOf us (parts ds) → AreOf ss (parts cs)
    all_are sorts_none split_none f e = e
    all_are sorts_none (split_more p ps) f e = absurd f
    all_are (sorts_more s t) split_none f e = absurd f
    all_are (sorts_more s t) (split_more p ps) f e = sorts_are s p f.0 (all_are t ps f.1 e)

pub results_are_of : ResultsAreOf
results_are_of N T tight budget h u ss components s k = sorts_are N T (plain tight) budget k.fits.0 s k.split k.fits.1 tt
