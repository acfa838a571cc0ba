-- Data of a sized type has its shapes, and a value of a type without functions is of it where it is such data.
use Rattle.fut_scalar.specs.declared.place.Place.{Place}
use Rattle.std.proofs.Common.{◌≡◌, ℕ, suc, List, [], ◌∷◌, Bool, true, false, cond, Option, Some, refl, sym, ap, ◌∙◌, subst}
use Rattle.std.specs.Str.{bytes_eq}
use Rattle.fut_ast.specs.Sorts.{Text}
use Rattle.fut_types.specs.declared.Head.TheVariants as head
use Rattle.fut_typing.specs.Names.{Names}
use Rattle.fut_value.specs.Data.{Shape, Scalar_shape, Tuple_shape, Record_shape, Array_shape, Shapes, no_shape, shape_and, Named_shapes, Datum, Scalar_datum, Tuple_datum, Record_datum, Array_datum, Datums, no_datum, datum_and, Named_datums, no_named, named_and, shape_of, shapes_of, named_shapes_of}
use Rattle.fut_meaning.specs.Datums.{datum_of, datums_of, named_datums_of}
use Rattle.fut_meaning.specs.Found.{Sizing}
use Rattle.fut_meaning.specs.Places.{field_shape}
use Rattle.fut_meaning.specs.Flats.{FlatValue}
use Rattle.fut_meaning.specs.Outcomes.{Out, Val, Fail, Wrong, and_then, Rel}
use Rattle.fut_meaning.specs.Values.{Scalar_value, Tuple_value, Record_value, Array_value, Closure, Primitive_value, no_value, value_and, no_field, field_and, field}
use Rattle.sized_types.specs.Sizes.{Size, Hole, Open, Level, Built, Fun, Sizes, no_size, size_and}
use Rattle.fut_sizes.specs.Suiting.{Data, All_data}
use Rattle.sized_meaning.specs.Worth.{Worth, Frames}
use Rattle.sized_meaning.specs.Shapes.{Meant, Record_names, datum_names, field_datum, Has_shape, Have_shapes, Have_named, Has_datum, Have_data, Named_data}
use Rattle.sized_meaning.specs.Finding.{Fields_from, Fields_are, As_many, Well_formed, All_well_formed}
use Rattle.sized_meaning.specs.Fits.{FlatValues, FlatFields, field_names, Fits, All_fit, Named_fit}
use Rattle.sized_meaning.proofs.Fields.{shaped_names}
use Rattle.sized_meaning.proofs.Finding.{some_same, none_no}

field_shaped : (f : Text) (fs : Named_datums) (x : Datum) → field_datum f fs ≡ Some x → field_shape f (named_shapes_of fs) ≡ Some (shape_of x)
unfolding named_shapes_of
field_shaped f no_named x e = none_no e
field_shaped f (named_and g d fs) x e = tested (bytes_eq g f) e (λ q. field_shaped f fs x q)
  where
    tested : (b : Bool) → cond b (Some d) (field_datum f fs) ≡ Some x → (field_datum f fs ≡ Some x → field_shape f (named_shapes_of fs) ≡ Some (shape_of x)) → cond b (Some (shape_of d)) (field_shape f (named_shapes_of fs)) ≡ Some (shape_of x)
    tested true e rest = ap (λ z. Some (shape_of z)) (some_same e)
    tested false e rest = rest e

module _ (N : Names) (τ : Meant) (m : Worth) (φ : Frames) where
  mutual
    unfolding Has_datum Have_data Named_data Has_shape Have_shapes Have_named shape_of shapes_of named_shapes_of

    pub datum_shaped : (t : Size) (d : Datum) → Has_datum N τ m φ t d → Has_shape N τ m φ t (shape_of d)
    datum_shaped (Hole v) d h = (τ v).shaped d h
    datum_shaped (Open n v u) d h = absurd h
    datum_shaped (Level x t) (Array_datum row ds) h = (h.0, h.1)
    datum_shaped (Level x t) d h = absurd h
    datum_shaped (Built (head.Scalar s) ts) (Scalar_datum c) h = ap Scalar_shape h
    datum_shaped (Built (head.Scalar s) ts) d h = absurd h
    datum_shaped (Built head.Tuple ts) (Tuple_datum ds) h = data_shaped ts ds h
    datum_shaped (Built head.Tuple ts) d h = absurd h
    datum_shaped (Built (head.Record n) ts) (Record_datum fs) h = named_shaped n 0 ts fs h
    datum_shaped (Built (head.Record n) ts) d h = absurd h
    datum_shaped (Built (head.Abstract n k) ts) d h = absurd h
    datum_shaped (Built head.Array ts) d h = absurd h
    datum_shaped (Built head.Fun ts) d h = absurd h
    datum_shaped (Built (head.Rigid n k) ts) d h = absurd h
    datum_shaped (Fun k p r) d h = absurd h

    data_shaped : (ts : Sizes) (ds : Datums) → Have_data N τ m φ ts ds → Have_shapes N τ m φ ts (shapes_of ds)
    data_shaped no_size no_datum h = tt
    data_shaped no_size (datum_and d ds) h = absurd h
    data_shaped (size_and t ts) no_datum h = absurd h
    data_shaped (size_and t ts) (datum_and d ds) h = (datum_shaped t d h.0, data_shaped ts ds h.1)

    named_shaped : (n i : ℕ) (ts : Sizes) (fs : Named_datums) → Named_data N τ m φ n i ts fs → Have_named N τ m φ n i ts (named_shapes_of fs)
    named_shaped n i no_size fs h = subst (Record_names N n i) (sym (shaped_names fs)) h
    named_shaped n i (size_and t ts) fs h = ((λ f p. let c = h.0 f p in (shape_of c.0, field_shaped f fs c.0 c.1, datum_shaped t c.0 c.2)), named_shaped n (suc i) ts fs h.1)

-- only data has shapes
module _ (N : Names) (τ : Meant) (fields : ℕ → List Text) (are : Fields_are N fields) (m : Worth) (φ : Frames) where
  mutual
    unfolding Has_shape Have_shapes Have_named Data All_data Well_formed All_well_formed

    pub shaped_data : (t : Size) (h : Shape) → Well_formed fields t → Has_shape N τ m φ t h → Data t
    shaped_data (Hole v) h f x = tt
    shaped_data (Open n v u) h f x = absurd x
    shaped_data (Level d t) (Array_shape n row) f x = shaped_data t row f x.1
    shaped_data (Level d t) h f x = absurd x
    shaped_data (Built (head.Scalar s) no_size) h f x = tt
    shaped_data (Built (head.Scalar s) (size_and t ts)) h f x = absurd f.0
    shaped_data (Built head.Tuple ts) (Tuple_shape hs) f x = all_shaped_data ts hs f.1 x
    shaped_data (Built head.Tuple ts) h f x = absurd x
    shaped_data (Built (head.Record n) ts) (Record_shape hs) f x = named_shaped_data n 0 ts (fields n) hs (are n) f.0 f.1 x
    shaped_data (Built (head.Record n) ts) h f x = absurd x
    shaped_data (Built (head.Abstract n k) ts) h f x = absurd x
    shaped_data (Built head.Array ts) h f x = absurd x
    shaped_data (Built head.Fun ts) h f x = absurd x
    shaped_data (Built (head.Rigid n k) ts) h f x = absurd x
    shaped_data (Fun k p r) h f x = absurd x

    all_shaped_data : (ts : Sizes) (hs : Shapes) → All_well_formed fields ts → Have_shapes N τ m φ ts hs → All_data ts
    all_shaped_data no_size hs f x = tt
    all_shaped_data (size_and t ts) no_shape f x = absurd x
    all_shaped_data (size_and t ts) (shape_and h hs) f x = (shaped_data t h f.0 x.0, all_shaped_data ts hs f.1 x.1)

    named_shaped_data : (n i : ℕ) (ts : Sizes) (fs : List Text) (hs : Named_shapes) → Fields_from N n i fs → As_many fs ts → All_well_formed fields ts → Have_named N τ m φ n i ts hs → All_data ts
    named_shaped_data n i no_size fs hs b l f x = tt
    named_shaped_data n i (size_and t ts) [] hs b l f x = absurd l
    named_shaped_data n i (size_and t ts) (g ∷ fs) hs b l f x = let c = x.0 g b.0 in (shaped_data t c.0 f.0 c.2, named_shaped_data n (suc i) ts fs hs b.1 l f.1 x.1)

-- ---- values that are data

pub value_same : {A B : Type 0} (o : Out A) (k : A → Out B) (b : B) → and_then o k ≡ Val b → (a : A) × (o ≡ Val a) × (k a ≡ Val b)
value_same (Val a) k b e = (a, refl, e)
value_same {B = B} (Fail r) k b e = absurd (let z : ◌≡◌ {A = Out B} (Fail r) (Val b) = e in cc)
value_same {B = B} Wrong k b e = absurd (let z : ◌≡◌ {A = Out B} Wrong (Val b) = e in cc)

pub the_value : {A : Type 0} (a b : A) → ◌≡◌ {A = Out A} (Val a) (Val b) → a ≡ b
the_value a b e = cc

no_datum_of : {X : Type 0} (d : Datum) → ◌≡◌ {A = Out Datum} Wrong (Val d) → X
no_datum_of d e = absurd (let z : ◌≡◌ {A = Out Datum} Wrong (Val d) = e in cc)

field_of_datum : (f : Text) (fs : FlatFields) (ds : Named_datums) → named_datums_of fs ≡ Val ds → (x : Datum) → field_datum f ds ≡ Some x → (v : FlatValue) × (field f fs ≡ Some v) × (datum_of v ≡ Val x)
unfolding named_datums_of
field_of_datum f no_field ds e x q = none_no (subst (λ z. field_datum f z ≡ Some x) (sym (the_value no_named ds e)) q)
field_of_datum f (field_and g w fs) ds e x q =
    let r = value_same (datum_of w) (λ d. and_then (named_datums_of fs) (λ ds. Val (named_and g d ds))) ds e in
    let p = value_same (named_datums_of fs) (λ ds. Val (named_and g r.0 ds)) ds r.2 in
    tested (bytes_eq g f) r.0 r.1 (subst (λ z. field_datum f z ≡ Some x) (sym (the_value (named_and g r.0 p.0) ds p.2)) q) (λ z. field_of_datum f fs p.0 p.1 x z)
  where
    tested : {rest : Option Datum} (b : Bool) (d : Datum) → datum_of w ≡ Val d → cond b (Some d) rest ≡ Some x → (rest ≡ Some x → (v : FlatValue) × (field f fs ≡ Some v) × (datum_of v ≡ Val x)) → (v : FlatValue) × (cond b (Some w) (field f fs) ≡ Some v) × (datum_of v ≡ Val x)
    tested true d z q go = (w, refl, z ∙ ap Val (some_same q))
    tested false d z q go = go q

datum_of_field : (f : Text) (fs : FlatFields) (ds : Named_datums) → named_datums_of fs ≡ Val ds → (v : FlatValue) → field f fs ≡ Some v → (x : Datum) × (field_datum f ds ≡ Some x) × (datum_of v ≡ Val x)
unfolding named_datums_of
datum_of_field f no_field ds e v q = none_no q
datum_of_field f (field_and g w fs) ds e v q =
    let r = value_same (datum_of w) (λ d. and_then (named_datums_of fs) (λ ds. Val (named_and g d ds))) ds e in
    let p = value_same (named_datums_of fs) (λ ds. Val (named_and g r.0 ds)) ds r.2 in
    subst (λ z. (x : Datum) × (field_datum f z ≡ Some x) × (datum_of v ≡ Val x)) (the_value (named_and g r.0 p.0) ds p.2)
    (tested (field_datum f p.0) (bytes_eq g f) r.0 r.1 q (λ z. datum_of_field f fs p.0 p.1 v z))
  where
    tested : (rest : Option Datum) (b : Bool) (d : Datum) → datum_of w ≡ Val d → cond b (Some w) (field f fs) ≡ Some v → (field f fs ≡ Some v → (x : Datum) × (rest ≡ Some x) × (datum_of v ≡ Val x)) → (x : Datum) × (cond b (Some d) rest ≡ Some x) × (datum_of v ≡ Val x)
    tested rest true d z q go = (d, refl, subst (λ y. datum_of y ≡ Val d) (some_same q) z)
    tested rest false d z q go = go q

-- a record's data has the names of its fields
valued_names : (fs : FlatFields) (ds : Named_datums) → named_datums_of fs ≡ Val ds → datum_names ds ≡ field_names fs
unfolding named_datums_of
valued_names no_field ds e = ap datum_names (sym (the_value no_named ds e))
valued_names (field_and g w fs) ds e =
    let r = value_same (datum_of w) (λ d. and_then (named_datums_of fs) (λ ds. Val (named_and g d ds))) ds e in
    let p = value_same (named_datums_of fs) (λ ds. Val (named_and g r.0 ds)) ds r.2 in
    ap datum_names (sym (the_value (named_and g r.0 p.0) ds p.2)) ∙ ap (λ xs. g ∷ xs) (valued_names fs p.0 p.1)

module _ (N : Names) (τ : Meant) (Z : Sizing) (is_there : Place → Bool) (calls : FlatValue → FlatValue → Rel FlatValue) (m : Worth) (φ : Frames) where
  mutual
    unfolding Fits All_fit Named_fit Data All_data Has_datum Have_data Named_data datum_of datums_of named_datums_of

    -- data of the type is a value of it
    pub datum_fits : (t : Size) → Data t → (v : FlatValue) (x : Datum) → datum_of v ≡ Val x → Has_datum N τ m φ t x → Fits N τ Z is_there calls m φ t v
    datum_fits (Hole a) d v x e h = record { datum = x; is_datum = e; fits = h }
    datum_fits (Open n a u) d v x e h = absurd d
    datum_fits (Level y t) d v x e h = record { datum = x; is_datum = e; fits = h }
    datum_fits (Built (head.Scalar s) ts) d (Scalar_value c) x e h = subst (λ z. Has_datum N τ m φ (Built (head.Scalar s) ts) z) (sym (the_value (Scalar_datum c) x e)) h
    datum_fits (Built (head.Scalar s) ts) d (Tuple_value vs) x e h = let r = value_same (datums_of vs) (λ ds. Val (Tuple_datum ds)) x e in absurd (subst (λ z. Has_datum N τ m φ (Built (head.Scalar s) ts) z) (sym (the_value (Tuple_datum r.0) x r.2)) h)
    datum_fits (Built (head.Scalar s) ts) d (Record_value fs) x e h = let r = value_same (named_datums_of fs) (λ ds. Val (Record_datum ds)) x e in absurd (subst (λ z. Has_datum N τ m φ (Built (head.Scalar s) ts) z) (sym (the_value (Record_datum r.0) x r.2)) h)
    datum_fits (Built (head.Scalar s) ts) d (Array_value row ds) x e h = absurd (subst (λ z. Has_datum N τ m φ (Built (head.Scalar s) ts) z) (sym (the_value (Array_datum row ds) x e)) h)
    datum_fits (Built (head.Scalar s) ts) d (Closure ps b lo env) x e h = no_datum_of x e
    datum_fits (Built (head.Scalar s) ts) d (Primitive_value p at vs) x e h = no_datum_of x e
    datum_fits (Built head.Tuple ts) d (Tuple_value vs) x e h = let r = value_same (datums_of vs) (λ ds. Val (Tuple_datum ds)) x e in all_data_fit ts d vs r.0 r.1 (subst (λ z. Has_datum N τ m φ (Built head.Tuple ts) z) (sym (the_value (Tuple_datum r.0) x r.2)) h)
    datum_fits (Built head.Tuple ts) d (Scalar_value c) x e h = absurd (subst (λ z. Has_datum N τ m φ (Built head.Tuple ts) z) (sym (the_value (Scalar_datum c) x e)) h)
    datum_fits (Built head.Tuple ts) d (Record_value fs) x e h = let r = value_same (named_datums_of fs) (λ ds. Val (Record_datum ds)) x e in absurd (subst (λ z. Has_datum N τ m φ (Built head.Tuple ts) z) (sym (the_value (Record_datum r.0) x r.2)) h)
    datum_fits (Built head.Tuple ts) d (Array_value row ds) x e h = absurd (subst (λ z. Has_datum N τ m φ (Built head.Tuple ts) z) (sym (the_value (Array_datum row ds) x e)) h)
    datum_fits (Built head.Tuple ts) d (Closure ps b lo env) x e h = no_datum_of x e
    datum_fits (Built head.Tuple ts) d (Primitive_value p at vs) x e h = no_datum_of x e
    datum_fits (Built (head.Record n) ts) d (Record_value fs) x e h = let r = value_same (named_datums_of fs) (λ ds. Val (Record_datum ds)) x e in named_data_fit n 0 ts d fs r.0 r.1 (subst (λ z. Has_datum N τ m φ (Built (head.Record n) ts) z) (sym (the_value (Record_datum r.0) x r.2)) h)
    datum_fits (Built (head.Record n) ts) d (Scalar_value c) x e h = absurd (subst (λ z. Has_datum N τ m φ (Built (head.Record n) ts) z) (sym (the_value (Scalar_datum c) x e)) h)
    datum_fits (Built (head.Record n) ts) d (Tuple_value vs) x e h = let r = value_same (datums_of vs) (λ ds. Val (Tuple_datum ds)) x e in absurd (subst (λ z. Has_datum N τ m φ (Built (head.Record n) ts) z) (sym (the_value (Tuple_datum r.0) x r.2)) h)
    datum_fits (Built (head.Record n) ts) d (Array_value row ds) x e h = absurd (subst (λ z. Has_datum N τ m φ (Built (head.Record n) ts) z) (sym (the_value (Array_datum row ds) x e)) h)
    datum_fits (Built (head.Record n) ts) d (Closure ps b lo env) x e h = no_datum_of x e
    datum_fits (Built (head.Record n) ts) d (Primitive_value p at vs) x e h = no_datum_of x e
    datum_fits (Built (head.Abstract n k) ts) d v x e h = absurd h
    datum_fits (Built head.Array ts) d v x e h = absurd h
    datum_fits (Built head.Fun ts) d v x e h = absurd h
    datum_fits (Built (head.Rigid n k) ts) d v x e h = absurd h
    datum_fits (Fun k p r) d v x e h = absurd d

    all_data_fit : (ts : Sizes) → All_data ts → (vs : FlatValues) (ds : Datums) → datums_of vs ≡ Val ds → Have_data N τ m φ ts ds → All_fit N τ Z is_there calls m φ ts vs
    all_data_fit no_size d no_value ds e h = tt
    all_data_fit no_size d (value_and v vs) ds e h =
        let r = value_same (datum_of v) (λ d. and_then (datums_of vs) (λ ds. Val (datum_and d ds))) ds e in
        let q = value_same (datums_of vs) (λ ds. Val (datum_and r.0 ds)) ds r.2 in
        absurd (subst (λ z. Have_data N τ m φ no_size z) (sym (the_value (datum_and r.0 q.0) ds q.2)) h)
    all_data_fit (size_and t ts) d no_value ds e h = absurd (subst (λ z. Have_data N τ m φ (size_and t ts) z) (sym (the_value no_datum ds e)) h)
    all_data_fit (size_and t ts) d (value_and v vs) ds e h =
        let r = value_same (datum_of v) (λ d. and_then (datums_of vs) (λ ds. Val (datum_and d ds))) ds e in
        let q = value_same (datums_of vs) (λ ds. Val (datum_and r.0 ds)) ds r.2 in
        let k = subst (λ z. Have_data N τ m φ (size_and t ts) z) (sym (the_value (datum_and r.0 q.0) ds q.2)) h in
        (datum_fits t d.0 v r.0 r.1 k.0, all_data_fit ts d.1 vs q.0 q.1 k.1)

    named_data_fit : (n i : ℕ) (ts : Sizes) → All_data ts → (fs : FlatFields) (ds : Named_datums) → named_datums_of fs ≡ Val ds → Named_data N τ m φ n i ts ds → Named_fit N τ Z is_there calls m φ n i ts fs
    named_data_fit n i no_size d fs ds e h = subst (Record_names N n i) (valued_names fs ds e) h
    named_data_fit n i (size_and t ts) d fs ds e h = ((λ f p. let c = h.0 f p in let r = field_of_datum f fs ds e c.0 c.1 in (r.0, r.1, datum_fits t d.0 r.0 c.0 r.2 c.2)), named_data_fit n (suc i) ts d.1 fs ds e h.1)

  mutual
    unfolding Fits All_fit Named_fit Data All_data Has_datum Have_data Named_data datum_of datums_of named_datums_of

    -- and a value of it that is data is such data
    pub fits_datum : (t : Size) → Data t → (v : FlatValue) (x : Datum) → datum_of v ≡ Val x → Fits N τ Z is_there calls m φ t v → Has_datum N τ m φ t x
    fits_datum (Hole a) d v x e h = subst (λ z. Has_datum N τ m φ (Hole a) z) (the_value h.datum x (sym h.is_datum ∙ e)) h.fits
    fits_datum (Open n a u) d v x e h = absurd d
    fits_datum (Level y t) d v x e h = subst (λ z. Has_datum N τ m φ (Level y t) z) (the_value h.datum x (sym h.is_datum ∙ e)) h.fits
    fits_datum (Built (head.Scalar s) ts) d (Scalar_value c) x e h = subst (λ z. Has_datum N τ m φ (Built (head.Scalar s) ts) z) (the_value (Scalar_datum c) x e) h
    fits_datum (Built (head.Scalar s) ts) d v x e h = absurd h
    fits_datum (Built head.Tuple ts) d (Tuple_value vs) x e h = let r = value_same (datums_of vs) (λ ds. Val (Tuple_datum ds)) x e in subst (λ z. Has_datum N τ m φ (Built head.Tuple ts) z) (the_value (Tuple_datum r.0) x r.2) (all_fit_data ts d vs r.0 r.1 h)
    fits_datum (Built head.Tuple ts) d v x e h = absurd h
    fits_datum (Built (head.Record n) ts) d (Record_value fs) x e h = let r = value_same (named_datums_of fs) (λ ds. Val (Record_datum ds)) x e in subst (λ z. Has_datum N τ m φ (Built (head.Record n) ts) z) (the_value (Record_datum r.0) x r.2) (named_fit_data n 0 ts d fs r.0 r.1 h)
    fits_datum (Built (head.Record n) ts) d v x e h = absurd h
    fits_datum (Built (head.Abstract n k) ts) d v x e h = absurd h
    fits_datum (Built head.Array ts) d v x e h = absurd h
    fits_datum (Built head.Fun ts) d v x e h = absurd h
    fits_datum (Built (head.Rigid n k) ts) d v x e h = absurd h
    fits_datum (Fun k p r) d v x e h = absurd d

    all_fit_data : (ts : Sizes) → All_data ts → (vs : FlatValues) (ds : Datums) → datums_of vs ≡ Val ds → All_fit N τ Z is_there calls m φ ts vs → Have_data N τ m φ ts ds
    all_fit_data no_size d no_value ds e h = subst (λ z. Have_data N τ m φ no_size z) (the_value no_datum ds e) tt
    all_fit_data no_size d (value_and v vs) ds e h = absurd h
    all_fit_data (size_and t ts) d no_value ds e h = absurd h
    all_fit_data (size_and t ts) d (value_and v vs) ds e h =
        let r = value_same (datum_of v) (λ d. and_then (datums_of vs) (λ ds. Val (datum_and d ds))) ds e in
        let q = value_same (datums_of vs) (λ ds. Val (datum_and r.0 ds)) ds r.2 in
        subst (λ z. Have_data N τ m φ (size_and t ts) z) (the_value (datum_and r.0 q.0) ds q.2) (fits_datum t d.0 v r.0 r.1 h.0, all_fit_data ts d.1 vs q.0 q.1 h.1)

    named_fit_data : (n i : ℕ) (ts : Sizes) → All_data ts → (fs : FlatFields) (ds : Named_datums) → named_datums_of fs ≡ Val ds → Named_fit N τ Z is_there calls m φ n i ts fs → Named_data N τ m φ n i ts ds
    named_fit_data n i no_size d fs ds e h = subst (Record_names N n i) (sym (valued_names fs ds e)) h
    named_fit_data n i (size_and t ts) d fs ds e h = ((λ f p. let c = h.0 f p in let r = datum_of_field f fs ds e c.0 c.1 in (r.0, r.1, fits_datum t d.0 c.0 r.0 r.2 c.2)), named_fit_data n (suc i) ts d.1 fs ds e h.1)
