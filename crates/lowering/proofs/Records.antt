-- Tuples and records as what is known of their parts.
use Rattle.std.proofs.Common.{◌≡◌, ℕ, suc, List, [], ◌∷◌, ◌++◌, Bool, true, false, cond, Option, Some, None, length, refl, ap, ◌∙◌, subst, arith}
use Rattle.std.specs.Prelude.{decimal, flat_map}
use Rattle.std.specs.Str.{bytes_eq}
use Rattle.fut_ast.specs.Sorts.{Text}
use Rattle.fut_value.specs.Data.{Shape, Tuple_shape, Record_shape, Shapes, Named_shapes, no_named_shape, named_shape_and, Datum, Scalar_datum, Tuple_datum, Record_datum, Array_datum, Datums, no_datum, datum_and, Named_datums, no_named, named_and, listed, datums, shape_of, shapes_of, named_shapes_of}
use Rattle.fut_meaning.specs.Accessors.{or_wrong}
use Rattle.fut_meaning.specs.Knowns.{with_some}
use Rattle.fut_meaning.specs.Outcomes.{Out, Val, and_then}
use Rattle.fut_meaning.specs.Sames.{all_none, all_more}
use Rattle.fut_blocks.specs.Records.{datum_field, datum_part_from, datum_parts, datum_replaced, named_data}
use Rattle.core_ir.specs.declared.block.Atom.{Atom}
use Rattle.core_ir.specs.Meaning.{Env}
use Rattle.core_values.specs.Components.{components, all_components, named_components, One_type, tuples, records, All_one_type, no_part, part_and, Named_one_type, no_field, field_and, Regular, a_tuple, a_record, All_regular, no_more, and_more, Named_regular, no_named_more, and_named}
use Rattle.lowering.specs.Knowns.{Known, width, knowns, parts_of, shapes, fields_of}
use Rattle.lowering.specs.Programs.{Is_data, Are_data}
use Rattle.lowering.specs.Records.{part_from, field, some_fields, named_shapes, replaced_type, all_atoms, replaced_atoms}
use Rattle.lowering.proofs.Stands.{Have, Stands, All_stand, Found, both_on, parted, components_many, knowns_stand, some_is, none_some}

-- ---- tuples

-- parts of these types are a tuple
pub tuple_components : (ds : List Datum) → components (Tuple_datum (datums ds)) ≡ flat_map components ds
unfolding components all_components
tuple_components [] = refl
tuple_components (d ∷ ds) = ap (λ z. components d ++ z) (tuple_components ds)

tuple_regular : {hs : List Shape} {ds : List Datum} → Are_data hs ds → All_regular (datums ds)
tuple_regular all_none = no_more
tuple_regular (all_more i a) = and_more i.regular (tuple_regular a)

tuple_typed : {hs : List Shape} {ds : List Datum} → Are_data hs ds → All_one_type (shapes hs) (shapes_of (datums ds))
unfolding shapes_of
tuple_typed all_none = no_part
tuple_typed (all_more i a) = part_and i.typed (tuple_typed a)

pub tuple_data : {hs : List Shape} {ds : List Datum} → Are_data hs ds → Is_data (Tuple_shape (shapes hs)) (Tuple_datum (datums ds))
unfolding shape_of
tuple_data a = record { regular = a_tuple (tuple_regular a); typed = tuples (tuple_typed a) }

-- and the parts of a tuple are data of its parts' types
parts_typed : (hs : Shapes) (ds : Datums) → All_one_type hs (shapes_of ds) → All_regular ds → Are_data (parts_of hs) (listed ds)
unfolding shapes_of
parts_typed _ no_datum no_part r = all_none
parts_typed _ (datum_and d ds) (part_and {hs = hs} o p) (and_more r s) = all_more (record { regular = r; typed = o }) (parts_typed hs ds p s)

parts_components : (ds : Datums) → all_components ds ≡ flat_map components (listed ds)
unfolding all_components
parts_components no_datum = refl
parts_components (datum_and d ds) = ap (λ z. components d ++ z) (parts_components ds)

pub record Tuple_found (e : Env) (n : ℕ) (hs : Shapes) (us : List Atom) (o : Out Datum) : Type 0 where
  pub parts : Datums
  pub is : o ≡ Val (Tuple_datum parts)
  pub are_data : Are_data (parts_of hs) (listed parts)
  pub stand : All_stand e n (knowns (parts_of hs) us) (listed parts)

tuple_case : {e : Env} {n : ℕ} {hs : Shapes} {us : List Atom} {o : Out Datum} (d : Datum) → Regular d → One_type (Tuple_shape hs) (shape_of d) → Have e n us (components d) → o ≡ Val d → Tuple_found e n hs us o
unfolding components shape_of
tuple_case {e} {n} {hs} {us} (Tuple_datum ds) (a_tuple r) (tuples p) k q =
    let a = parts_typed hs ds p r in
    record { parts = ds; is = q; are_data = a; stand = knowns_stand (parts_of hs) a (subst (λ z. Have e n us z) (parts_components ds) k) }
tuple_case (Scalar_datum s) r x k q = elim x [ ]
tuple_case (Record_datum fs) r x k q = elim x [ ]
tuple_case (Array_datum row ds) r x k q = elim x [ ]

pub tuple_found : {e : Env} {n : ℕ} {hs : Shapes} {us : List Atom} {o : Out Datum} → Found e n (Tuple_shape hs) us o → Tuple_found e n hs us o
tuple_found f = tuple_case f.datum f.is_data.regular f.is_data.typed f.have f.is

-- one of several
pub record Chosen (e : Env) (n : ℕ) (k : Known) (o : Option Datum) : Type 0 where
  pub datum : Datum
  pub is : o ≡ Some datum
  pub stands : Stands e n k datum

chosen_by : {e : Env} {n : ℕ} {k : Known} (b : Bool) (s : Known) (d : Datum) (found : Option Known) (o : Option Datum) → Stands e n s d → cond b (Some s) found ≡ Some k → (found ≡ Some k → Chosen e n k o) → Chosen e n k (cond b (Some d) o)
chosen_by {e} {n} true s d found o h q l = record { datum = d; is = refl; stands = subst (λ z. Stands e n z d) (some_is q) h }
chosen_by false s d found o h q l = l q

pub part_found : {e : Env} {n : ℕ} {k : Known} (p : ℕ) (f : Text) {ks : List Known} (ds : Datums) → All_stand e n ks (listed ds) → part_from p f ks ≡ Some k → Chosen e n k (datum_part_from p f ds)
part_found p f no_datum all_none q = absurd (none_some q)
part_found p f (datum_and d ds) (all_more {x = s} {xs = ks} h a) q = chosen_by (bytes_eq (decimal p) f) s d (part_from (suc p) f ks) (datum_part_from (suc p) f ds) h q (λ z. part_found (suc p) f ds a z)

-- ---- records

-- what is known of the fields stands for them
pub data Fields_stand (e : Env) (n : ℕ) : Named_shapes → List Known → Named_datums → Type 0 where
  no_field_stands : Fields_stand e n no_named_shape [] no_named
  field_stands : {f : Text} {h : Shape} {hs : Named_shapes} {k : Known} {ks : List Known} {d : Datum} {fs : Named_datums} → Stands e n k d → One_type h (shape_of d) → Fields_stand e n hs ks fs → Fields_stand e n (named_shape_and f h hs) (k ∷ ks) (named_and f d fs)

pub record Record_found (e : Env) (n : ℕ) (hs : Named_shapes) (us : List Atom) (o : Out Datum) : Type 0 where
  pub fields : Named_datums
  pub is : o ≡ Val (Record_datum fields)
  pub stand : Fields_stand e n hs (knowns (fields_of hs) us) fields

fields_stood : {e : Env} {n : ℕ} (hs : Named_shapes) (us : List Atom) (fs : Named_datums) → Named_one_type hs (named_shapes_of fs) → Named_regular fs → Have e n us (named_components fs) → Fields_stand e n hs (knowns (fields_of hs) us) fs
unfolding named_shapes_of named_components
fields_stood _ us no_named no_field r a = no_field_stands
fields_stood _ us (named_and f d fs) (field_and {h = h} {hs = hs} o p) (and_named r s) a =
    let i : Is_data h d = record { regular = r; typed = o } in
    let b = parted (width h) (components d) (named_components fs) (components_many i) a in
    field_stands (record { have = b.own; is_data = i }) o (fields_stood hs _ fs p s b.rest)

record_case : {e : Env} {n : ℕ} {hs : Named_shapes} {us : List Atom} {o : Out Datum} (d : Datum) → Regular d → One_type (Record_shape hs) (shape_of d) → Have e n us (components d) → o ≡ Val d → Record_found e n hs us o
unfolding components shape_of
record_case {hs = hs} {us} (Record_datum fs) (a_record r) (records p) k q = record { fields = fs; is = q; stand = fields_stood hs us fs p r k }
record_case (Scalar_datum s) r x k q = elim x [ ]
record_case (Tuple_datum ds) r x k q = elim x [ ]
record_case (Array_datum row ds) r x k q = elim x [ ]

pub record_found : {e : Env} {n : ℕ} {hs : Named_shapes} {us : List Atom} {o : Out Datum} → Found e n (Record_shape hs) us o → Record_found e n hs us o
record_found f = record_case f.datum f.is_data.regular f.is_data.typed f.have f.is

pub field_found : {e : Env} {n : ℕ} {k : Known} (f : Text) {hs : Named_shapes} {ks : List Known} {fs : Named_datums} → Fields_stand e n hs ks fs → field f hs ks ≡ Some k → Chosen e n k (datum_field f fs)
field_found f no_field_stands q = absurd (none_some q)
field_found f (field_stands {f = g} {hs = hs} {k = s} {ks = ks} {d = d} {fs = fs} h o a) q = chosen_by (bytes_eq g f) s d (field f hs ks) (datum_field f fs) h q (λ z. field_found f a z)

-- some of the fields
pub record All_chosen (e : Env) (n : ℕ) (ks : List Known) (o : Out (List Datum)) : Type 0 where
  pub list : List Datum
  pub is : o ≡ Val list
  pub stand : All_stand e n ks list

pub record Given {A B : Type 0} (o : Option A) (k : A → Option B) (b : B) : Type 0 where
  pub value : A
  pub is : o ≡ Some value
  pub gives : k value ≡ Some b

pub given : {A B : Type 0} (o : Option A) (k : A → Option B) (b : B) → with_some o k ≡ Some b → Given o k b
given (Some a) k b q = record { value = a; is = refl; gives = q }
given None k b q = absurd (none_some q)

pub fields_found : {e : Env} {n : ℕ} (fs : List Text) {ss : List Known} {hs : Named_shapes} {ks : List Known} {ds : Named_datums} → Fields_stand e n hs ks ds → some_fields fs hs ks ≡ Some ss → All_chosen e n ss (datum_parts fs ds)
fields_found {e} {n} [] a q = record { list = []; is = refl; stand = subst (λ z. All_stand e n z []) (some_is q) all_none }
fields_found {e} {n} (f ∷ fs) {hs = hs} {ks} {ds} a q =
    let g = given (field f hs ks) (λ k. with_some (some_fields fs hs ks) (λ rest. Some (k ∷ rest))) _ q in
    let r = given (some_fields fs hs ks) (λ rest. Some (g.value ∷ rest)) _ g.gives in
    let c = field_found f a g.is in
    let l = fields_found fs a r.is in
    record {
      list = c.datum ∷ l.list;
      is = ap (λ z. and_then (or_wrong z) (λ d. and_then (datum_parts fs ds) (λ es. Val (d ∷ es)))) c.is ∙ ap (λ z. and_then z (λ es. Val (c.datum ∷ es))) l.is;
      stand = subst (λ z. All_stand e n z (c.datum ∷ l.list)) (some_is r.gives) (all_more c.stands l.stand);
    }

-- a record of data of these types
record_typed : (fs : List Text) {hs : List Shape} {ds : List Datum} → length fs ≡ length hs → Are_data hs ds → Named_one_type (named_shapes fs hs) (named_shapes_of (named_data fs ds))
unfolding named_shapes_of
record_typed [] e a = no_field
record_typed (f ∷ fs) e all_none = no_field
record_typed (f ∷ fs) e (all_more i a) = field_and i.typed (record_typed fs (omega (arith, e)) a)

record_regular : (fs : List Text) {hs : List Shape} {ds : List Datum} → Are_data hs ds → Named_regular (named_data fs ds)
record_regular [] a = no_named_more
record_regular (f ∷ fs) all_none = no_named_more
record_regular (f ∷ fs) (all_more i a) = and_named i.regular (record_regular fs a)

pub record_components : (fs : List Text) {hs : List Shape} {ds : List Datum} → length fs ≡ length hs → Are_data hs ds → components (Record_datum (named_data fs ds)) ≡ flat_map components ds
unfolding components named_components
record_components [] e all_none = refl
record_components [] e (all_more i a) = absurd (omega (arith, e))
record_components (f ∷ fs) e all_none = refl
record_components (f ∷ fs) e (all_more {x' = d} i a) = ap (λ z. components d ++ z) (record_components fs (omega (arith, e)) a)

pub record_data : (fs : List Text) {hs : List Shape} {ds : List Datum} → length fs ≡ length hs → Are_data hs ds → Is_data (Record_shape (named_shapes fs hs)) (Record_datum (named_data fs ds))
unfolding shape_of
record_data fs e a = record { regular = a_record (record_regular fs a); typed = records (record_typed fs e a) }

-- ---- another value for a field

atoms_stand : {e : Env} {n : ℕ} {hs : Named_shapes} {ks : List Known} {fs : Named_datums} → Fields_stand e n hs ks fs → Have e n (all_atoms ks) (named_components fs)
unfolding named_components
atoms_stand no_field_stands = all_none
atoms_stand (field_stands s o a) = both_on s.have (atoms_stand a)

types_stand : {e : Env} {n : ℕ} {hs : Named_shapes} {ks : List Known} {fs : Named_datums} → Fields_stand e n hs ks fs → Named_one_type hs (named_shapes_of fs)
unfolding named_shapes_of
types_stand no_field_stands = no_field
types_stand (field_stands s o a) = field_and o (types_stand a)

regular_stand : {e : Env} {n : ℕ} {hs : Named_shapes} {ks : List Known} {fs : Named_datums} → Fields_stand e n hs ks fs → Named_regular fs
regular_stand no_field_stands = no_named_more
regular_stand (field_stands s o a) = and_named s.is_data.regular (regular_stand a)

pub record Replaced (e : Env) (n : ℕ) (us : List Atom) (hs : Named_shapes) (fs : Named_datums) : Type 0 where
  pub have : Have e n us (named_components fs)
  pub regular : Named_regular fs
  pub typed : Named_one_type hs (named_shapes_of fs)

replaced_by : (f : Text) {e : Env} {n : ℕ} (b : Bool) {h k : Shape} {us ws vs rest : List Atom} {hs ks : Named_shapes} {d v : Datum} {fs gs : Named_datums} → Have e n us (components v) → Is_data h v → Have e n ws (components d) → Is_data k d → Replaced e n vs hs fs → Replaced e n rest ks gs
    → Replaced e n (cond b (us ++ vs) (ws ++ rest)) (cond b (named_shape_and f h hs) (named_shape_and f k ks)) (cond b (named_and f v fs) (named_and f d gs))
unfolding named_components named_shapes_of
replaced_by f true a i c j r s = record { have = both_on a r.have; regular = and_named i.regular r.regular; typed = field_and i.typed r.typed }
replaced_by f false a i c j r s = record { have = both_on c s.have; regular = and_named j.regular s.regular; typed = field_and j.typed s.typed }

pub replaced_stands : {e : Env} {n : ℕ} (f : Text) {h : Shape} {us : List Atom} {v : Datum} {hs : Named_shapes} {ks : List Known} {fs : Named_datums} → Have e n us (components v) → Is_data h v → Fields_stand e n hs ks fs → Replaced e n (replaced_atoms f us hs ks) (replaced_type f h hs) (datum_replaced f v fs)
unfolding named_components named_shapes_of
replaced_stands f a i no_field_stands = record { have = all_none; regular = no_named_more; typed = no_field }
replaced_stands f a i (field_stands {f = g} {k = k} {d = d} s o b) =
    replaced_by g (bytes_eq g f) a i s.have (record { regular = s.is_data.regular; typed = o }) (record { have = atoms_stand b; regular = regular_stand b; typed = types_stand b }) (replaced_stands f a i b)
