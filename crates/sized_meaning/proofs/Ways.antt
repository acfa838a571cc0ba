-- A property of parts that turns into another, both ways, does so for the whole.
use Rattle.std.proofs.Common.{ℕ}
use Rattle.fut_types.specs.declared.Head.{Head}
use Rattle.fut_types.specs.declared.Head.TheVariants as head
use Rattle.fut_value.specs.Data.{Shape, Scalar_shape, Tuple_shape, Record_shape, Array_shape, Unmet_shape, Shapes, no_shape, shape_and, Named_shapes, Datum, Scalar_datum, Tuple_datum, Record_datum, Array_datum, Datums, no_datum, datum_and, Named_datums}
use Rattle.fut_scalar.specs.declared.report.Report.{Report}
use Rattle.fut_meaning.specs.Flats.{FlatValue}
use Rattle.fut_meaning.specs.Outcomes.{Out, Val, Fail, Wrong, Rel}
use Rattle.fut_meaning.specs.Values.{Scalar_value, Tuple_value, Record_value, Array_value, Closure, Primitive_value, no_value, value_and}
use Rattle.sized_meaning.specs.Shapes.{On_array_shape, On_tuple_shape, On_record_shape, First_shape, Shape_of_head, On_array_datum, On_tuple_datum, On_record_datum, First_datum, Every_datum, Datum_of_head}
use Rattle.sized_meaning.specs.Fits.{FlatValues, FlatFields, Out_fits, Gives, Is_data, On_tuple, On_record, First_value, Of_head}

abbrev pub Ways : Type 0 → Type 0 → Type 0
Ways A B = (A → B) × (B → A)

pub same_ways : {A : Type 0} → Ways A A
same_ways = ((λ h. h), (λ h. h))

pub on_array_shape_as : (P Q : ℕ → Shape → Type 0) → ((n : ℕ) (h : Shape) → Ways (P n h) (Q n h)) → (h : Shape) → Ways (On_array_shape P h) (On_array_shape Q h)
on_array_shape_as P Q go (Array_shape n h) = go n h
on_array_shape_as P Q go (Scalar_shape s) = same_ways
on_array_shape_as P Q go (Tuple_shape hs) = same_ways
on_array_shape_as P Q go (Record_shape hs) = same_ways
on_array_shape_as P Q go Unmet_shape = same_ways

on_tuple_shape_as : (P Q : Shapes → Type 0) → ((hs : Shapes) → Ways (P hs) (Q hs)) → (h : Shape) → Ways (On_tuple_shape P h) (On_tuple_shape Q h)
on_tuple_shape_as P Q go (Tuple_shape hs) = go hs
on_tuple_shape_as P Q go (Array_shape n h) = same_ways
on_tuple_shape_as P Q go (Scalar_shape s) = same_ways
on_tuple_shape_as P Q go (Record_shape hs) = same_ways
on_tuple_shape_as P Q go Unmet_shape = same_ways

on_record_shape_as : (P Q : Named_shapes → Type 0) → ((hs : Named_shapes) → Ways (P hs) (Q hs)) → (h : Shape) → Ways (On_record_shape P h) (On_record_shape Q h)
on_record_shape_as P Q go (Record_shape hs) = go hs
on_record_shape_as P Q go (Array_shape n h) = same_ways
on_record_shape_as P Q go (Scalar_shape s) = same_ways
on_record_shape_as P Q go (Tuple_shape hs) = same_ways
on_record_shape_as P Q go Unmet_shape = same_ways

pub first_shape_as : (P P' : Shape → Type 0) (Q Q' : Shapes → Type 0) → ((h : Shape) → Ways (P h) (P' h)) → ((hs : Shapes) → Ways (Q hs) (Q' hs)) → (hs : Shapes) → Ways (First_shape P Q hs) (First_shape P' Q' hs)
first_shape_as P P' Q Q' p q no_shape = same_ways
first_shape_as P P' Q Q' p q (shape_and h hs) = ((λ x. ((p h).0 x.0, (q hs).0 x.1)), (λ x. ((p h).1 x.0, (q hs).1 x.1)))

pub shape_of_head_as : (k : Head) (P P' : Shapes → Type 0) (Q Q' : ℕ → Named_shapes → Type 0) → ((hs : Shapes) → Ways (P hs) (P' hs)) → ((n : ℕ) (hs : Named_shapes) → Ways (Q n hs) (Q' n hs)) → (h : Shape) → Ways (Shape_of_head k P Q h) (Shape_of_head k P' Q' h)
shape_of_head_as (head.Scalar s) P P' Q Q' p q h = same_ways
shape_of_head_as head.Tuple P P' Q Q' p q h = on_tuple_shape_as P P' p h
shape_of_head_as (head.Record n) P P' Q Q' p q h = on_record_shape_as (Q n) (Q' n) (q n) h
shape_of_head_as (head.Abstract n d) P P' Q Q' p q h = same_ways
shape_of_head_as head.Array P P' Q Q' p q h = same_ways
shape_of_head_as head.Fun P P' Q Q' p q h = same_ways
shape_of_head_as (head.Rigid n k) P P' Q Q' p q h = same_ways

-- ---- data

pub on_array_datum_as : (P Q : Shape → Datums → Type 0) → ((h : Shape) (ds : Datums) → Ways (P h ds) (Q h ds)) → (x : Datum) → Ways (On_array_datum P x) (On_array_datum Q x)
on_array_datum_as P Q go (Array_datum row ds) = go row ds
on_array_datum_as P Q go (Scalar_datum s) = same_ways
on_array_datum_as P Q go (Tuple_datum ds) = same_ways
on_array_datum_as P Q go (Record_datum fs) = same_ways

on_tuple_datum_as : (P Q : Datums → Type 0) → ((ds : Datums) → Ways (P ds) (Q ds)) → (x : Datum) → Ways (On_tuple_datum P x) (On_tuple_datum Q x)
on_tuple_datum_as P Q go (Tuple_datum ds) = go ds
on_tuple_datum_as P Q go (Array_datum row ds) = same_ways
on_tuple_datum_as P Q go (Scalar_datum s) = same_ways
on_tuple_datum_as P Q go (Record_datum fs) = same_ways

on_record_datum_as : (P Q : Named_datums → Type 0) → ((fs : Named_datums) → Ways (P fs) (Q fs)) → (x : Datum) → Ways (On_record_datum P x) (On_record_datum Q x)
on_record_datum_as P Q go (Record_datum fs) = go fs
on_record_datum_as P Q go (Array_datum row ds) = same_ways
on_record_datum_as P Q go (Scalar_datum s) = same_ways
on_record_datum_as P Q go (Tuple_datum ds) = same_ways

pub first_datum_as : (P P' : Datum → Type 0) (Q Q' : Datums → Type 0) → ((x : Datum) → Ways (P x) (P' x)) → ((ds : Datums) → Ways (Q ds) (Q' ds)) → (ds : Datums) → Ways (First_datum P Q ds) (First_datum P' Q' ds)
first_datum_as P P' Q Q' p q no_datum = same_ways
first_datum_as P P' Q Q' p q (datum_and d ds) = ((λ x. ((p d).0 x.0, (q ds).0 x.1)), (λ x. ((p d).1 x.0, (q ds).1 x.1)))

pub every_datum_goes : (P Q : Datum → Type 0) → ((x : Datum) → P x → Q x) → (ds : Datums) → Every_datum P ds → Every_datum Q ds
every_datum_goes P Q go no_datum h = tt
every_datum_goes P Q go (datum_and d ds) h = (go d h.0, every_datum_goes P Q go ds h.1)

pub every_datum_as : (P Q : Datum → Type 0) → ((x : Datum) → Ways (P x) (Q x)) → (ds : Datums) → Ways (Every_datum P ds) (Every_datum Q ds)
every_datum_as P Q go ds = (every_datum_goes P Q (λ x. (go x).0) ds, every_datum_goes Q P (λ x. (go x).1) ds)

pub datum_of_head_as : (k : Head) (P P' : Datums → Type 0) (Q Q' : ℕ → Named_datums → Type 0) → ((ds : Datums) → Ways (P ds) (P' ds)) → ((n : ℕ) (fs : Named_datums) → Ways (Q n fs) (Q' n fs)) → (x : Datum) → Ways (Datum_of_head k P Q x) (Datum_of_head k P' Q' x)
datum_of_head_as (head.Scalar s) P P' Q Q' p q x = same_ways
datum_of_head_as head.Tuple P P' Q Q' p q x = on_tuple_datum_as P P' p x
datum_of_head_as (head.Record n) P P' Q Q' p q x = on_record_datum_as (Q n) (Q' n) (q n) x
datum_of_head_as (head.Abstract n k) P P' Q Q' p q x = same_ways
datum_of_head_as head.Array P P' Q Q' p q x = same_ways
datum_of_head_as head.Fun P P' Q Q' p q x = same_ways
datum_of_head_as (head.Rigid n k) P P' Q Q' p q x = same_ways

-- ---- values

pub data_goes : (P Q : Datum → Type 0) → ((x : Datum) → P x → Q x) → (v : FlatValue) → Is_data P v → Is_data Q v
data_goes P Q go v d = record { datum = d.datum; is_datum = d.is_datum; fits = go _ d.fits }

pub data_as : (P Q : Datum → Type 0) → ((x : Datum) → Ways (P x) (Q x)) → (v : FlatValue) → Ways (Is_data P v) (Is_data Q v)
data_as P Q go v = (data_goes P Q (λ x. (go x).0) v, data_goes Q P (λ x. (go x).1) v)

pub on_tuple_goes : (P Q : FlatValues → Type 0) → ((vs : FlatValues) → P vs → Q vs) → (v : FlatValue) → On_tuple P v → On_tuple Q v
on_tuple_goes P Q go (Tuple_value vs) h = go vs h
on_tuple_goes P Q go (Scalar_value s) h = absurd h
on_tuple_goes P Q go (Record_value fs) h = absurd h
on_tuple_goes P Q go (Array_value row ds) h = absurd h
on_tuple_goes P Q go (Closure ps b lo env) h = absurd h
on_tuple_goes P Q go (Primitive_value p at vs) h = absurd h

pub on_record_goes : (P Q : FlatFields → Type 0) → ((fs : FlatFields) → P fs → Q fs) → (v : FlatValue) → On_record P v → On_record Q v
on_record_goes P Q go (Record_value fs) h = go fs h
on_record_goes P Q go (Scalar_value s) h = absurd h
on_record_goes P Q go (Tuple_value vs) h = absurd h
on_record_goes P Q go (Array_value row ds) h = absurd h
on_record_goes P Q go (Closure ps b lo env) h = absurd h
on_record_goes P Q go (Primitive_value p at vs) h = absurd h

pub of_head_goes : (k : Head) (P P' : FlatValues → Type 0) (Q Q' : ℕ → FlatFields → Type 0) → ((vs : FlatValues) → P vs → P' vs) → ((n : ℕ) (fs : FlatFields) → Q n fs → Q' n fs) → (v : FlatValue) → Of_head k P Q v → Of_head k P' Q' v
of_head_goes (head.Scalar s) P P' Q Q' p q v h = h
of_head_goes head.Tuple P P' Q Q' p q v h = on_tuple_goes P P' p v h
of_head_goes (head.Record n) P P' Q Q' p q v h = on_record_goes (Q n) (Q' n) (q n) v h
of_head_goes (head.Abstract n d) P P' Q Q' p q v h = h
of_head_goes head.Array P P' Q Q' p q v h = h
of_head_goes head.Fun P P' Q Q' p q v h = h
of_head_goes (head.Rigid n k) P P' Q Q' p q v h = h

pub of_head_as : (k : Head) (P P' : FlatValues → Type 0) (Q Q' : ℕ → FlatFields → Type 0) → ((vs : FlatValues) → Ways (P vs) (P' vs)) → ((n : ℕ) (fs : FlatFields) → Ways (Q n fs) (Q' n fs)) → (v : FlatValue) → Ways (Of_head k P Q v) (Of_head k P' Q' v)
of_head_as k P P' Q Q' p q v = (of_head_goes k P P' Q Q' (λ vs. (p vs).0) (λ n fs. (q n fs).0) v, of_head_goes k P' P Q' Q (λ vs. (p vs).1) (λ n fs. (q n fs).1) v)

pub first_value_goes : (P P' : FlatValue → Type 0) (Q Q' : FlatValues → Type 0) → ((v : FlatValue) → P v → P' v) → ((vs : FlatValues) → Q vs → Q' vs) → (vs : FlatValues) → First_value P Q vs → First_value P' Q' vs
first_value_goes P P' Q Q' p q no_value x = absurd x
first_value_goes P P' Q Q' p q (value_and v vs) x = (p v x.0, q vs x.1)

pub first_value_as : (P P' : FlatValue → Type 0) (Q Q' : FlatValues → Type 0) → ((v : FlatValue) → Ways (P v) (P' v)) → ((vs : FlatValues) → Ways (Q vs) (Q' vs)) → (vs : FlatValues) → Ways (First_value P Q vs) (First_value P' Q' vs)
first_value_as P P' Q Q' p q vs = (first_value_goes P P' Q Q' (λ v. (p v).0) (λ vs. (q vs).0) vs, first_value_goes P' P Q' Q (λ v. (p v).1) (λ vs. (q vs).1) vs)

pub out_as : (quiet : Report → Type 0) {A : Type 0} (P Q : A → Type 0) (o : Out A) → ((v : A) → P v → Q v) → Out_fits quiet P o → Out_fits quiet Q o
out_as quiet P Q (Val v) go h = go v h
out_as quiet P Q (Fail r) go h = h
out_as quiet P Q Wrong go h = tt

pub gives_as : {quiet : Report → Type 0} {A : Type 0} (P Q : A → Type 0) (m : Rel A) → Gives quiet P m → ((v : A) → P v → Q v) → Gives quiet Q m
gives_as {quiet = quiet} P Q m h go o f x = out_as quiet P Q o go (h o f x)
