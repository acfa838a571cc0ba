-- Arguments are values of their types, and values of a result's type are its components.
use Rattle.std.proofs.Common.{◌≡◌, ℕ, zero, suc, List, [], ◌∷◌, ◌++◌, Bool, true, false, length, map, refl, sym, ap, ◌∙◌, subst}
use Rattle.std.proofs.lemmas.List.{append-nil}
use Rattle.fut_scalar.specs.declared.place.BindId.{BindId}
use Rattle.fut_scalar.specs.declared.scalar.Scalar.{Scalar}
use Rattle.fut_scalar.specs.declared.scalar.Scalar.TheVariants as scalar
use Rattle.fut_scalar.specs.declared.scalar.ScalarType.{ScalarType}
use Rattle.fut_scalar.specs.declared.scalar.ScalarType.TheVariants as types
use Rattle.fut_scalar.specs.declared.sizes.DataType.{DataType}
use Rattle.fut_arithmetic.specs.Types.{type_of}
use Rattle.fut_arithmetic.specs.Words.{scalar_of_word}
use Rattle.fut_value.specs.Data.{Shape as Plain_shape, Datum, Scalar_datum, Tuple_datum, Record_datum, Array_datum, Datums, no_datum, datum_and, listed, datums}
use Rattle.fut_value.specs.Values.{product, shape_with, cut, first_word, datum_with}
use Rattle.fut_flat.specs.declared.prim.Ref.{Ref}
use Rattle.fut_types.specs.declared.Head.TheVariants as head
use Rattle.fut_types.specs.Types.{Ty, Made, scalar_ty}
use Rattle.fut_typing.specs.Names.{Names}
use Rattle.fut_meaning.specs.Found.{Told}
use Rattle.fut_meaning.specs.Outcomes.{Val}
use Rattle.fut_meaning.specs.Datums.{as_value, as_values, all_values, datum_of}
use Rattle.fut_meaning.specs.Flats.{FlatValue, FlatTops, FlatMode}
use Rattle.fut_meaning.specs.Values.{Scalar_value, Tuple_value, Record_value, Array_value, Closure, Primitive_value, Values, no_value, value_and, listed as value_list}
use Rattle.fut_meaning.proofs.Data.{datum_of-as}
use Rattle.fut_blocks.specs.Meaning.{Component}
use Rattle.fut_blocks.specs.Programs.{Is_of, All_of, AreOf}
use Rattle.type_soundness.specs.Fits.{Fits, All_fit, Is_scalar}
use Rattle.type_soundness.specs.Likeness.{All_datums, Like}
use Rattle.type_soundness.specs.Programs.{Arguments_fit}
use Rattle.typed_programs.specs.EntryTypes.{array_ty, data_ty, data_tys, Results_are}
use Rattle.unfold.specs.Shapes.{Shape, Shapes, Split, split_scalar, split_tuple, split_record, All_split, split_none, split_more}
use Rattle.unfolded_runs.specs.Results.{Is_argument, Are_arguments, components_of, opened}

abbrev FlatValues : Type 0
FlatValues = Values Ref BindId (Unit {0})

-- ---- data and values

val_is : (d e : Datum) → Val d ≡ Val e → d ≡ e
val_is d e h = cc

pub same_datum : (d e : Datum) → as_value {P = Ref} {B = BindId} {S = Unit {0}} d ≡ as_value e → d ≡ e
same_datum d e h = val_is d e (sym (datum_of-as d) ∙ ap datum_of h ∙ datum_of-as e)

pub listed_datums : (ds : List Datum) → listed (datums ds) ≡ ds
listed_datums [] = refl
listed_datums (d ∷ ds) = ap (λ z. d ∷ z) (listed_datums ds)

datums_listed : (ds : Datums) → datums (listed ds) ≡ ds
datums_listed no_datum = refl
datums_listed (datum_and d ds) = ap (datum_and d) (datums_listed ds)

pub listed_values : (ds : List Datum) → value_list (as_values {P = Ref} {B = BindId} {S = Unit {0}} (datums ds)) ≡ all_values ds
listed_values [] = refl
listed_values (d ∷ ds) = ap (λ z. as_value d ∷ z) (listed_values ds)

-- ---- what flat values look like

length_cut : (n k : ℕ) (ws : List ℕ) → length (cut n k ws) ≡ n
length_cut zero k ws = refl
length_cut (suc n) k ws = ap suc (length_cut n k (Rattle.std.proofs.Common.drop k ws))

length_listed : (t : ScalarType) (ns : List ℕ) (wss : List (List ℕ)) → length (listed (datums (map (datum_with t ns) wss))) ≡ length wss
length_listed t ns [] = refl
length_listed t ns (ws ∷ wss) = ap suc (length_listed t ns wss)

all_are : (P : Datum → Type 0) (t : ScalarType) (ns : List ℕ) → ((ws : List ℕ) → P (datum_with t ns ws)) → (wss : List (List ℕ)) → All_datums P (datums (map (datum_with t ns) wss))
all_are P t ns each [] = tt
all_are P t ns each (ws ∷ wss) = (each ws, all_are P t ns each wss)

like_with : (t : ScalarType) (ns ws : List ℕ) → Like (shape_with t ns) (datum_with t ns ws)
unfolding Like
like_with t [] ws = tt
like_with t (n ∷ ns) ws = (length_listed t ns (cut n (product ns) ws) ∙ length_cut n (product ns) ws, all_are (Like (shape_with t ns)) t ns (λ row. like_with t ns row) (cut n (product ns) ws))

scalar_with : (t : ScalarType) (w : ℕ) → Is_scalar t (scalar_of_word t w)
scalar_with (types.Int t) w = refl
scalar_with types.Bool w = tt

module _ (N : Names) (T : Told) (M : FlatMode) (budget : ℕ) (total : Bool) where
  -- ---- arguments

  fits_with : (tops : FlatTops) (t : ScalarType) (ns ws : List ℕ) → Fits N T M budget total (array_ty (length ns) (scalar_ty t)) tops (as_value (datum_with t ns ws))
  unfolding Fits
  fits_with tops t [] ws = scalar_with t (first_word ws)
  fits_with tops t (n ∷ ns) ws =
      all_are (λ d. Fits N T M budget total (array_ty (length ns) (scalar_ty t)) tops (as_value d) × Like (shape_with t ns) d) t ns (λ row. (fits_with tops t ns row, like_with t ns row)) (cut n (product ns) ws)

  argument_fits : (tops : FlatTops) (t : DataType) (d : Datum) → Is_argument t d → Fits N T M budget total (data_ty t) tops (as_value d)
  argument_fits tops t d a =
      subst (λ z. Fits N T M budget total (data_ty t) tops (as_value z)) (sym a.is)
      (subst (λ r. Fits N T M budget total (array_ty r (scalar_ty t.elem)) tops (as_value (datum_with t.elem a.sizes a.words))) a.rank (fits_with tops t.elem a.sizes a.words))

  pub arguments_fit : (ts : List DataType) (ds : List Datum) → Are_arguments ts ds → Arguments_fit N T M budget total (data_tys ts) (value_list (as_values (datums ds)))
  unfolding data_tys
  arguments_fit [] [] a = tt
  arguments_fit [] (d ∷ ds) a = absurd a
  arguments_fit (t ∷ ts) [] a = absurd a
  arguments_fit (t ∷ ts) (d ∷ ds) a = ((λ tops. argument_fits tops t d a.0), arguments_fit ts ds a.1)

  -- ---- results

  scalar_is : (s : ScalarType) (c : Scalar) → Is_scalar s c → type_of c ≡ s
  scalar_is (types.Int t) (scalar.Int u n) e = ap types.Int e
  scalar_is (types.Int t) (scalar.Bool b) e = absurd e
  scalar_is types.Bool (scalar.Int u n) e = absurd e
  scalar_is types.Bool (scalar.Bool b) e = refl

  -- a value of data's type is data of that type
  rows_are : (tops : FlatTops) (s : ScalarType) (r : ℕ) (row : Plain_shape) → ((v : FlatValue) → Fits N T M budget total (array_ty r (scalar_ty s)) tops v → (d : Datum) × (v ≡ as_value d) × Is_of s r d)
      → (ds : Datums) → All_datums (λ d. Fits N T M budget total (array_ty r (scalar_ty s)) tops (as_value d) × Like row d) ds → All_of s r ds
  rows_are tops s r row each no_datum f = tt
  rows_are tops s r row each (datum_and d ds) f =
      let x = each (as_value d) f.0.0 in
      (subst (Is_of s r) (sym (same_datum d x.0 x.1)) x.2, rows_are tops s r row each ds f.1)

  datum_is : (tops : FlatTops) (s : ScalarType) (r : ℕ) (v : FlatValue) → Fits N T M budget total (array_ty r (scalar_ty s)) tops v → (d : Datum) × (v ≡ as_value d) × Is_of s r d
  unfolding Fits
  datum_is tops s zero (Scalar_value c) f = (Scalar_datum c, refl, scalar_is s c f)
  datum_is tops s zero (Tuple_value vs) f = absurd f
  datum_is tops s zero (Record_value fs) f = absurd f
  datum_is tops s zero (Array_value row ds) f = absurd f
  datum_is tops s zero (Closure ps e lo env) f = absurd f
  datum_is tops s zero (Primitive_value p at vs) f = absurd f
  datum_is tops s (suc r) (Scalar_value c) f = absurd f
  datum_is tops s (suc r) (Tuple_value vs) f = absurd f
  datum_is tops s (suc r) (Record_value fs) f = absurd f
  datum_is tops s (suc r) (Array_value row ds) f = (Array_datum row ds, refl, rows_are tops s r row (λ v g. datum_is tops s r v g) ds f)
  datum_is tops s (suc r) (Closure ps e lo env) f = absurd f
  datum_is tops s (suc r) (Primitive_value p at vs) f = absurd f

  all_data : (tops : FlatTops) (ts : List DataType) (vs : FlatValues) → All_fit N T M budget total (data_tys ts) tops vs → (ds : List Datum) × (vs ≡ as_values (datums ds)) × AreOf ts ds
  unfolding data_tys Fits
  all_data tops [] no_value f = ([], refl, tt)
  all_data tops [] (value_and v vs) f = absurd f
  all_data tops (t ∷ ts) no_value f = absurd f
  all_data tops (t ∷ ts) (value_and v vs) f =
      let x = datum_is tops t.elem t.rank v f.0 in
      let y = all_data tops ts vs f.1 in
      (x.0 ∷ y.0, (λ i. value_and (x.1 i) (y.1 i)), (x.2, y.2))

  -- a value of a result's type is data, whose components are of its types
  pub record Is_data (tuple : Bool) (results : List DataType) (v : FlatValue) : Type 0 where
    pub result : Datum
    pub value : v ≡ as_value result
    pub are_of : AreOf results (components_of tuple result)

  tuple_data : (tops : FlatTops) (ts : List DataType) (v : FlatValue) → Fits N T M budget total (Made head.Tuple (data_tys ts)) tops v → Is_data true ts v
  unfolding data_tys Fits
  tuple_data tops ts (Scalar_value c) f = absurd f.1
  tuple_data tops ts (Tuple_value vs) f =
      let y = all_data tops ts vs f.1 in
      record { result = Tuple_datum (datums y.0); value = ap Tuple_value y.1; are_of = subst (AreOf ts) (sym (listed_datums y.0)) y.2 }
  tuple_data tops ts (Record_value fs) f = absurd f.1
  tuple_data tops ts (Array_value row ds) f = absurd f.1
  tuple_data tops ts (Closure ps e lo env) f = absurd f.1
  tuple_data tops ts (Primitive_value p at vs) f = absurd f.1

  pub data_of : (tops : FlatTops) (v : FlatValue) (tuple : Bool) (ts : List DataType) (u : Ty) → Results_are tuple ts u → Fits N T M budget total u tops v → Is_data tuple ts v
  data_of tops v false [] u r f = absurd r
  data_of tops v false (t ∷ []) u r f =
      let x = datum_is tops t.elem t.rank v (subst (λ z. Fits N T M budget total z tops v) r f) in
      record { result = x.0; value = x.1; are_of = (x.2, tt) }
  data_of tops v false (s ∷ t ∷ ts) u r f = absurd r
  data_of tops v true ts u r f = tuple_data tops ts v (subst (λ z. Fits N T M budget total z tops v) r.1 f)

-- ---- components in which data is laid

no_tuple : (s : ScalarType) (r : ℕ) (ds : Datums) → Is_of s r (Tuple_datum ds) → ⊥
no_tuple s zero ds h = h
no_tuple s (suc r) ds h = h

tuple_no_scalar : (s : ScalarType) (r : ℕ) (d : Datum) (vs : FlatValues) → Is_of s r d → as_value d ≡ Tuple_value vs → ⊥
tuple_no_scalar s zero (Scalar_datum c) vs h e = cc
tuple_no_scalar s (suc r) (Scalar_datum c) vs h e = h
tuple_no_scalar s r (Tuple_datum ds) vs h e = no_tuple s r ds h
tuple_no_scalar s zero (Record_datum fs) vs h e = h
tuple_no_scalar s (suc r) (Record_datum fs) vs h e = h
tuple_no_scalar s zero (Array_datum row ds) vs h e = h
tuple_no_scalar s (suc r) (Array_datum row ds) vs h e = cc

record_no_scalar : (s : ScalarType) (r : ℕ) (d : Datum) (fs : Rattle.fut_meaning.specs.Values.Fields Ref BindId (Unit {0})) → Is_of s r d → as_value d ≡ Record_value fs → ⊥
record_no_scalar s zero (Scalar_datum c) fs h e = cc
record_no_scalar s (suc r) (Scalar_datum c) fs h e = h
record_no_scalar s r (Tuple_datum ds) fs h e = no_tuple s r ds h
record_no_scalar s zero (Record_datum gs) fs h e = h
record_no_scalar s (suc r) (Record_datum gs) fs h e = h
record_no_scalar s zero (Array_datum row ds) fs h e = h
record_no_scalar s (suc r) (Array_datum row ds) fs h e = cc

-- data of an entry is one component
one_component : (s : ScalarType) (r : ℕ) (d : Datum) {h : Shape} {v : FlatValue} {cs rest : List Component} → Is_of s r d → v ≡ as_value d → Split h v cs rest → cs ≡ d ∷ rest
one_component s r d of e (split_scalar {c = c} {rest = rest} q) = ap (λ z. z ∷ rest) (same_datum c d (sym q ∙ e))
one_component s r d of e (split_tuple {vs = vs} p) = absurd (tuple_no_scalar s r d vs of (sym e))
one_component s r d of e (split_record {fs = fs} p) = absurd (record_no_scalar s r d fs of (sym e))

rest_is : {A : Type 0} {x y : A} {xs ys : List A} → x ∷ xs ≡ y ∷ ys → xs ≡ ys
rest_is e = cc

first_value : (v w : FlatValue) (vs ws : FlatValues) → value_and v vs ≡ value_and w ws → v ≡ w
first_value v w vs ws e = cc

other_values : (v w : FlatValue) (vs ws : FlatValues) → value_and v vs ≡ value_and w ws → vs ≡ ws
other_values v w vs ws e = cc

no_more : (v : FlatValue) (vs : FlatValues) → no_value ≡ value_and v vs → ⊥
no_more v vs e = cc

all_components : (ts : List DataType) (ds : List Datum) {hs : Shapes} {vs : FlatValues} {cs rest : List Component} → AreOf ts ds → vs ≡ as_values (datums ds) → All_split hs vs cs rest → cs ≡ ds ++ rest
all_components [] [] of e split_none = refl
all_components [] [] of e (split_more {v = v} {vs = vs} p q) = absurd (no_more v vs (sym e))
all_components [] (d ∷ ds) of e p = absurd of
all_components (t ∷ ts) [] of e p = absurd of
all_components (t ∷ ts) (d ∷ ds) of e split_none = absurd (no_more (as_value d) (as_values (datums ds)) e)
all_components (t ∷ ts) (d ∷ ds) of e (split_more {v = v} {vs = vs} p q) =
    one_component t.elem t.rank d of.0 (first_value v (as_value d) vs (as_values (datums ds)) e) p ∙ ap (λ z. d ∷ z) (all_components ts ds of.1 (other_values v (as_value d) vs (as_values (datums ds)) e) q)

tuple_values : (vs ws : FlatValues) → Tuple_value vs ≡ Tuple_value ws → vs ≡ ws
tuple_values vs ws e = cc

record_tuple : (fs : Rattle.fut_meaning.specs.Values.Fields Ref BindId (Unit {0})) (vs : FlatValues) → Record_value fs ≡ Tuple_value vs → ⊥
record_tuple fs vs e = cc

-- components of data's types stand for themselves
opened_data : (ts : List DataType) (ds : List Datum) → AreOf ts ds → opened true ds ≡ ds
opened_data [] [] of = refl
opened_data [] (d ∷ ds) of = absurd of
opened_data (t ∷ ts) [] of = absurd of
opened_data (t ∷ ts) (Scalar_datum s ∷ []) of = refl
opened_data (t ∷ ts) (Tuple_datum es ∷ []) of = absurd (no_tuple t.elem t.rank es of.0)
opened_data (t ∷ ts) (Record_datum fs ∷ []) of = refl
opened_data (t ∷ ts) (Array_datum row es ∷ []) of = refl
opened_data (t ∷ ts) (Scalar_datum s ∷ e ∷ ds) of = refl
opened_data (t ∷ ts) (Tuple_datum es ∷ e ∷ ds) of = refl
opened_data (t ∷ ts) (Record_datum fs ∷ e ∷ ds) of = refl
opened_data (t ∷ ts) (Array_datum row es ∷ e ∷ ds) of = refl

-- a tuple of data, laid in components
tuple_opened : (ts : List DataType) (ds : Datums) {h : Shape} {v : FlatValue} {cs : List Component} → AreOf ts (listed ds) → v ≡ as_value (Tuple_datum ds) → Split h v cs [] → opened true cs ≡ listed ds
tuple_opened ts ds of e (split_scalar {c = c} q) = ap (λ z. opened true (z ∷ [])) (same_datum c (Tuple_datum ds) (sym q ∙ e))
tuple_opened ts ds of e (split_tuple {vs = vs} p) =
    let is = all_components ts (listed ds) of (tuple_values vs (as_values ds) e ∙ ap (λ z. as_values z) (sym (datums_listed ds))) p ∙ append-nil (listed ds) in
    ap (opened true) is ∙ opened_data ts (listed ds) of
tuple_opened ts ds of e (split_record {fs = fs} p) = absurd (record_tuple fs (as_values ds) e)

-- one datum, which is not told to be a tuple
one_opened : (tuple : Bool) (d : Datum) (t : DataType) {h : Shape} {v : FlatValue} {cs : List Component} → Is_of t.elem t.rank d → v ≡ as_value d → Split h v cs [] → opened tuple cs ≡ opened tuple (d ∷ [])
one_opened tuple d t of e p = ap (opened tuple) (one_component t.elem t.rank d of e p)

-- the components that a result is laid in, opened, are those of its data
pub result_opened : (tuple : Bool) (ts : List DataType) (d : Datum) {h : Shape} {v : FlatValue} {cs : List Component} → AreOf ts (components_of tuple d) → v ≡ as_value d → Split h v cs [] → opened tuple cs ≡ components_of tuple d
result_opened true ts (Tuple_datum ds) of e p = tuple_opened ts ds of e p
result_opened true [] (Scalar_datum s) of e p = absurd of
result_opened true (t ∷ ts) (Scalar_datum s) of e p = one_opened true (Scalar_datum s) t of.0 e p
result_opened true [] (Record_datum fs) of e p = absurd of
result_opened true (t ∷ ts) (Record_datum fs) of e p = one_opened true (Record_datum fs) t of.0 e p
result_opened true [] (Array_datum row ds) of e p = absurd of
result_opened true (t ∷ ts) (Array_datum row ds) of e p = one_opened true (Array_datum row ds) t of.0 e p
result_opened false [] d of e p = absurd of
result_opened false (t ∷ ts) d of e p = one_opened false d t of.0 e p
