-- What is found under names is right where what was entered is.
use Rattle.fut_scalar.specs.declared.place.Place.{Place}
use Rattle.std.proofs.Common.{◌≡◌, ℕ, suc, Bool, true, false, ◌&&◌, cond, nat_eq, List, [], ◌∷◌, Option, Some, refl, sym, ap, ◌∙◌, subst, eqb-true}
use Rattle.std.specs.Prelude.{ℤ, pos, negsuc}
use Rattle.std.specs.Str.{bytes_eq}
use Rattle.fut_ast.specs.Sorts.{Text}
use Rattle.fut_types.specs.declared.Head.TheVariants as head
use Rattle.fut_typing.specs.Names.{Names, AreNames}
use Rattle.fut_value.specs.Data.{Shape, Scalar_shape, Tuple_shape, Record_shape, Array_shape, Shapes, no_shape, shape_and, Named_shapes, named_shape_and, Datum, Tuple_datum, Record_datum, Datums, datum_and, Named_datums, named_and, shape_of, shapes_of, named_shapes_of}
use Rattle.fut_meaning.specs.Accessors.{count_of}
use Rattle.fut_meaning.specs.Datums.{datum_of, datums_of, named_datums_of}
use Rattle.fut_meaning.specs.Found.{is_integer, agrees, if_field, has_sizes, have_sizes, named_sizes, worth, Sizing, Found, is_number, named_worth, with_worth, with_data, with_results, if_told, chosen_shape, number, shape_found, count, told_shape}
use Rattle.fut_meaning.specs.Telling.{worth_of, value_shape, value_shapes, field_shapes, found, tells}
use Rattle.fut_meaning.specs.Places.{size_place, type_place, size_of, at_path, field_shape, or_unmet, row_of}
use Rattle.fut_meaning.specs.Flats.{FlatValue, FlatEnv}
use Rattle.fut_meaning.specs.Meaning.{row_found, sizes_agree, row_told, fits_type, Of_literal}
use Rattle.fut_meaning.specs.Outcomes.{Out, Val, Wrong, and_then, Rel}
use Rattle.fut_meaning.specs.Values.{Scalar_value, Tuple_value, Record_value, Array_value, Closure, Primitive_value, no_value, value_and, no_field, field_and, field, base, bind, entered}
use Rattle.sized_types.specs.Sizes.{Free, Const, Name, Own, Unknown, Slot, Dim, At, Bound, Variable, Size, Hole, Open, Level, Built, Fun, Sizes, no_size, size_and}
use Rattle.sized_types.specs.Standing.{is_known, gives_chosen}
use Rattle.fut_sizes.specs.Rules.{Each_hole, Each_holes}
use Rattle.fut_sizes.specs.Suiting.{Each, Each_all, Data, All_data}
use Rattle.sized_meaning.specs.Worth.{Worth, free, Frames, no_frames, push, number as size_number}
use Rattle.sized_meaning.specs.Shapes.{Meant, exactly, Record_names, Has_shape, Have_shapes, Have_named, Has_datum}
use Rattle.sized_meaning.proofs.Fields.{read_names}
use Rattle.sized_meaning.specs.Fits.{FlatValues, FlatFields, Is_data, Fits, All_fit, Named_fit}
use Rattle.sized_meaning.specs.Claims.{calls_of}
use Rattle.sized_meaning.specs.Finding.{Fields_from, Fields_are, One_kind_each, As_many, Formed, All_formed, Reads, All_read, Named_read}
use Rattle.sized_meaning.specs.Entered.{none_chosen, All_entered, Right_found, FoundUnderNamesIsRight, Is_found, Type_is_found, LiteralRowsAreRight, CoercedHasItsSizes, ValuesRead}
use Rattle.sized_meaning.proofs.Reading.{each_as}
use Rattle.sized_meaning.proofs.Finding.{some_same, none_no, from_place, same_text, data_reads, size_right, type_right, told_right, exact_kinds}
use Rattle.sized_meaning.proofs.Datas.{value_same, the_value, datum_shaped}

-- ---- a value that is data has the shape of that data

mutual
  unfolding datum_of datums_of named_datums_of value_shape value_shapes field_shapes shape_of shapes_of named_shapes_of

  shape_as : (v : FlatValue) (d : Datum) → datum_of v ≡ Val d → value_shape v ≡ shape_of d
  shape_as (Scalar_value s) d e = ap shape_of (the_value _ d e)
  shape_as (Tuple_value vs) d e = let r = value_same (datums_of vs) (λ ds. Val (Tuple_datum ds)) d e in ap Tuple_shape (shapes_as vs r.0 r.1) ∙ ap shape_of (the_value (Tuple_datum r.0) d r.2)
  shape_as (Record_value fs) d e = let r = value_same (named_datums_of fs) (λ ds. Val (Record_datum ds)) d e in ap Record_shape (fields_as fs r.0 r.1) ∙ ap shape_of (the_value (Record_datum r.0) d r.2)
  shape_as (Array_value row ds) d e = ap shape_of (the_value _ d e)
  shape_as (Closure ps b lo env) d e = absurd (let z : ◌≡◌ {A = Out Datum} Wrong (Val d) = e in cc)
  shape_as (Primitive_value p at vs) d e = absurd (let z : ◌≡◌ {A = Out Datum} Wrong (Val d) = e in cc)

  shapes_as : (vs : FlatValues) (ds : Datums) → datums_of vs ≡ Val ds → value_shapes vs ≡ shapes_of ds
  shapes_as no_value ds e = ap shapes_of (the_value _ ds e)
  shapes_as (value_and v vs) ds e =
      let r = value_same (datum_of v) (λ d. and_then (datums_of vs) (λ ds. Val (datum_and d ds))) ds e in
      let q = value_same (datums_of vs) (λ ds. Val (datum_and r.0 ds)) ds r.2 in
      ap (λ h. shape_and h (value_shapes vs)) (shape_as v r.0 r.1) ∙ ap (shape_and (shape_of r.0)) (shapes_as vs q.0 q.1) ∙ ap shapes_of (the_value (datum_and r.0 q.0) ds q.2)

  fields_as : (fs : FlatFields) (ds : Named_datums) → named_datums_of fs ≡ Val ds → field_shapes fs ≡ named_shapes_of ds
  fields_as no_field ds e = ap named_shapes_of (the_value _ ds e)
  fields_as (field_and f v fs) ds e =
      let r = value_same (datum_of v) (λ d. and_then (named_datums_of fs) (λ ds. Val (named_and f d ds))) ds e in
      let q = value_same (named_datums_of fs) (λ ds. Val (named_and f r.0 ds)) ds r.2 in
      ap (λ h. named_shape_and f h (field_shapes fs)) (shape_as v r.0 r.1) ∙ ap (named_shape_and f (shape_of r.0)) (fields_as fs q.0 q.1) ∙ ap named_shapes_of (the_value (named_and f r.0 q.0) ds q.2)

-- ---- a value of a sized type reads as that says

field_here : (f : Text) (fs : FlatFields) (v : FlatValue) → field f fs ≡ Some v → field_shape f (field_shapes fs) ≡ Some (value_shape v)
unfolding field_shapes
field_here f no_field v e = none_no e
field_here f (field_and g w fs) v e = tested (bytes_eq g f) e (λ q. field_here f fs v q)
  where
    tested : (b : Bool) → cond b (Some w) (field f fs) ≡ Some v → (field f fs ≡ Some v → field_shape f (field_shapes fs) ≡ Some (value_shape v)) → cond b (Some (value_shape w)) (field_shape f (field_shapes fs)) ≡ Some (value_shape v)
    tested true e rest = ap (λ z. Some (value_shape z)) (some_same e)
    tested false e rest = rest e

module _ (N : Names) (τ : Meant) (Z : Sizing) (is_there : Place → Bool) (calls : FlatValue → FlatValue → Rel FlatValue) (m : Worth) (φ : Frames) where
  data_as_read : (t : Size) (v : FlatValue) → Is_data (Has_datum N τ m φ t) v → Reads N τ m φ t (value_shape v)
  data_as_read t v h = subst (Reads N τ m φ t) (sym (shape_as v h.datum h.is_datum)) (data_reads N τ m φ t (shape_of h.datum) (datum_shaped N τ m φ t h.datum h.fits))

  mutual
    unfolding Fits All_fit Named_fit Reads All_read Named_read value_shape value_shapes

    pub fits_read : (t : Size) (v : FlatValue) → Fits N τ Z is_there calls m φ t v → Reads N τ m φ t (value_shape v)
    fits_read (Hole a) v h = data_as_read (Hole a) v h
    fits_read (Open n a u) v h = tt
    fits_read (Level d t) v h = data_as_read (Level d t) v h
    fits_read (Built head.Tuple ts) (Tuple_value vs) h = all_read ts vs h
    fits_read (Built head.Tuple ts) v h = absurd h
    fits_read (Built (head.Record n) ts) (Record_value fs) h = named_read n 0 ts fs h
    fits_read (Built (head.Record n) ts) v h = absurd h
    fits_read (Built k ts) v h = tt
    fits_read (Fun k p r) v h = tt

    all_read : (ts : Sizes) (vs : FlatValues) → All_fit N τ Z is_there calls m φ ts vs → All_read N τ m φ ts (value_shapes vs)
    all_read no_size vs h = tt
    all_read (size_and t ts) no_value h = absurd h
    all_read (size_and t ts) (value_and v vs) h = (fits_read t v h.0, all_read ts vs h.1)

    named_read : (n i : ℕ) (ts : Sizes) (fs : FlatFields) → Named_fit N τ Z is_there calls m φ n i ts fs → Named_read N τ m φ n i ts (field_shapes fs)
    named_read n i no_size fs h = tt
    named_read n i (size_and t ts) fs h = ((λ f p. let c = h.0 f p in (value_shape c.0, field_here f fs c.0 c.1, fits_read t c.0 c.2)), named_read n (suc i) ts fs h.1)

module _ (N : Names) (τ : Meant) (Z : Sizing) (is_there : Place → Bool) (calls : FlatValue → FlatValue → Rel FlatValue) (m : Worth) (φ : Frames) where
  data_as_shaped : (t : Size) (v : FlatValue) → Is_data (Has_datum N τ m φ t) v → Has_shape N τ m φ t (value_shape v)
  data_as_shaped t v h = subst (Has_shape N τ m φ t) (sym (shape_as v h.datum h.is_datum)) (datum_shaped N τ m φ t h.datum h.fits)

  mutual
    unfolding Fits All_fit Named_fit Has_shape Have_shapes Have_named value_shape value_shapes Data All_data

    -- a value of data has the shape of the type
    pub value_shaped : (t : Size) → Data t → (v : FlatValue) → Fits N τ Z is_there calls m φ t v → Has_shape N τ m φ t (value_shape v)
    value_shaped (Hole a) d v h = data_as_shaped (Hole a) v h
    value_shaped (Open n a u) d v h = absurd d
    value_shaped (Level x t) d v h = data_as_shaped (Level x t) v h
    value_shaped (Built (head.Scalar s) ts) d (Scalar_value c) h = ap Scalar_shape h
    value_shaped (Built (head.Scalar s) ts) d v h = absurd h
    value_shaped (Built head.Tuple ts) d (Tuple_value vs) h = all_shaped ts d vs h
    value_shaped (Built head.Tuple ts) d v h = absurd h
    value_shaped (Built (head.Record n) ts) d (Record_value fs) h = named_shaped n 0 ts d fs h
    value_shaped (Built (head.Record n) ts) d v h = absurd h
    value_shaped (Built (head.Abstract n k) ts) d v h = absurd h
    value_shaped (Built head.Array ts) d v h = absurd h
    value_shaped (Built head.Fun ts) d v h = absurd h
    value_shaped (Built (head.Rigid n k) ts) d v h = absurd h
    value_shaped (Fun k p r) d v h = absurd d

    all_shaped : (ts : Sizes) → All_data ts → (vs : FlatValues) → All_fit N τ Z is_there calls m φ ts vs → Have_shapes N τ m φ ts (value_shapes vs)
    all_shaped no_size d no_value h = tt
    all_shaped no_size d (value_and v vs) h = absurd h
    all_shaped (size_and t ts) d no_value h = absurd h
    all_shaped (size_and t ts) d (value_and v vs) h = (value_shaped t d.0 v h.0, all_shaped ts d.1 vs h.1)

    named_shaped : (n i : ℕ) (ts : Sizes) → All_data ts → (fs : FlatFields) → Named_fit N τ Z is_there calls m φ n i ts fs → Have_named N τ m φ n i ts (field_shapes fs)
    named_shaped n i no_size d fs h = subst (Record_names N n i) (sym (read_names fs)) h
    named_shaped n i (size_and t ts) d fs h = ((λ f p. let c = h.0 f p in (value_shape c.0, field_here f fs c.0 c.1, value_shaped t d.0 c.0 c.2)), named_shaped n (suc i) ts d.1 fs h.1)

pub both_true : (a b : Bool) → a && b ≡ true → (a ≡ true) × (b ≡ true)
both_true true b e = (refl, e)
both_true false b e = absurd (let z : false ≡ true = e in cc)

-- ---- what is found

module _ (N : Names) (τ : Meant) (Z : Sizing) (m : Worth) (are : Fields_are N Z.fields) (one : One_kind_each τ) where
  abbrev Right : Found → Type 0
  Right W = Right_found N τ Z m W

  -- data of a sized type has a shape
  pub data_right : (φ : Frames) (t : Size) (h : Shape) (W : Found) → Reads N τ m φ t h → Right W → Right (with_data Z.fields t h W)
  data_right φ t h W k r = (
    λ d n e. from_place (size_place Z.fields (At d) t) (λ p. pos (size_of (at_path p h))) (W.size d) n e
        (λ p q z. ap count_of (sym z) ∙ size_right N Z.fields τ m φ are (At d) t h k p q) (λ q. r.0 d n q),
    λ v g e. from_place (type_place Z.fields v t) (λ p. at_path p h) (W.type v) g e (λ p q z. subst (λ x. (τ v).shape x) z (type_right N Z.fields τ m φ are one v t h k p q)) (λ q. r.1 v g q),
  )

  told_or_not : (b : Bool) (k : ℕ) (p r : Size) (tell : List Shape → Shape) (W : Found) → (b ≡ true → Reads N τ m (push none_chosen no_frames) r (tell (chosen_shape Z.fields p ∷ []))) → Right W → Right (if_told b (with_data Z.fields r (tell (chosen_shape Z.fields p ∷ [])) W) W)
  told_or_not true k p r tell W h w = data_right (push none_chosen no_frames) r (tell (chosen_shape Z.fields p ∷ [])) W (h refl) w
  told_or_not false k p r tell W h w = w

  results_right : (t : Size) (tell : List Shape → Shape) (W : Found) → ((k : ℕ) (p r : Size) → t ≡ Fun k p r → is_known p && gives_chosen k r ≡ true → Reads N τ m (push none_chosen no_frames) r (tell (chosen_shape Z.fields p ∷ []))) → Right W → Right (with_results Z.fields t tell W)
  unfolding with_results
  results_right (Hole v) tell W h w = w
  results_right (Open n v u) tell W h w = w
  results_right (Level d t) tell W h w = w
  results_right (Built k ts) tell W h w = w
  results_right (Fun k p r) tell W h w = told_or_not (is_known p && gives_chosen k r) k p r tell W (h k p r refl) w

  worth_right : (q : ℕ) (t : Size) (n : Option ℤ) (W : Found) → ((b : ℕ) (z : ℤ) → Z.home b ≡ q → is_number t ≡ true → n ≡ Some z → count_of z ≡ m (Name b)) → Right W → Right (with_worth Z.home q t n W)
  worth_right q t n W h w = ((λ d z e. here d z e), w.1)
    where
      tested : (b : ℕ) (z : ℤ) (x y : Bool) → nat_eq (Z.home b) q ≡ x → is_number t ≡ y → cond (x && y) n (W.size (Name b)) ≡ Some z → count_of z ≡ m (Name b)
      tested b z true true i k e = h b z (eqb-true (Z.home b) q i) k e
      tested b z true false i k e = w.0 (Name b) z e
      tested b z false y i k e = w.0 (Name b) z e

      here : (d : Free) (z : ℤ) → named_worth Z.home q t n d (W.size d) ≡ Some z → count_of z ≡ free m d
      here (Name b) z e = tested b z (nat_eq (Z.home b) q) (is_number t) refl refl e
      here (Const c) z e = w.0 (Const c) z e
      here (Own k i) z e = w.0 (Own k i) z e
      here (Unknown k i) z e = w.0 (Unknown k i) z e
      here (Slot i) z e = w.0 (Slot i) z e

  under : (env : FlatEnv) → All_entered N τ Z m env → Right (found Z env)
  unfolding found
  under (base u) a = ((λ d n e. none_no e), (λ v h e. none_no e))
  under (bind b v env) a = under env a
  under (entered q v env) a = worth_right q (Z.size_at q) (worth_of v) _ (a.0).named (data_right no_frames (Z.size_at q) (value_shape v) _ (a.0).shape (results_right (Z.size_at q) (tells Z v) (found Z env) (a.0).told (under env a.1)))

  -- ---- the rows of a literal
  module _ (W : Found) (right : Right W) where
    number_right : (j : ℕ) (d : Dim) → Is_found W d → number W d ≡ size_number m no_frames d
    number_right j (At (Const c)) f = refl
    number_right j (At (Name b)) f = ap count f.1 ∙ right.0 (Name b) f.0 f.1
    number_right j (At (Own n i)) f = ap count f.1 ∙ right.0 (Own n i) f.0 f.1
    number_right j (At (Unknown n i)) f = ap count f.1 ∙ right.0 (Unknown n i) f.0 f.1
    number_right j (At (Slot i)) f = ap count f.1 ∙ right.0 (Slot i) f.0 f.1
    number_right j (Bound k i) f = absurd f

    worth_is : (d : Dim) → Is_found W d → (z : ℤ) × (worth W d ≡ Some z)
    worth_is (At (Const c)) f = (pos c, refl)
    worth_is (At (Name b)) f = f
    worth_is (At (Own n i)) f = f
    worth_is (At (Unknown n i)) f = f
    worth_is (At (Slot i)) f = f
    worth_is (Bound k i) f = absurd f

    -- a size that agrees is the one that is found
    agreed : (z : ℤ) (n : ℕ) → is_integer z n ≡ true → n ≡ count_of z
    agreed (pos k) n e = sym (eqb-true k n e)
    agreed (negsuc k) n e = absurd (let z : false ≡ true = e in cc)

    level_agrees : (d : Dim) (n : ℕ) → Is_found W d → agrees (worth W d) n ≡ true → n ≡ size_number m no_frames d
    level_agrees d n f e = let w = worth_is d f in agreed w.0 n (subst (λ o. agrees o n ≡ true) w.1 e) ∙ sym (ap count w.1) ∙ number_right 0 d f

    module _ (named : AreNames N) (other : Worth) where
      mutual
        unfolding has_sizes have_sizes named_sizes Has_shape Have_shapes Have_named Formed All_formed Each Each_all

        sizes_have : (t : Size) (h : Shape) → Formed Z.fields t → Each (λ j x. Is_found W x) 0 t → Has_shape N τ other no_frames t h → has_sizes Z.fields W t h ≡ true → Has_shape N τ m no_frames t h
        sizes_have (Hole v) h f d k e = k
        sizes_have (Open n v u) h f d k e = absurd f
        sizes_have (Level x t) (Array_shape n row) f d k e = let b = both_true (agrees (worth W x) n) (has_sizes Z.fields W t row) e in (level_agrees x n d.0 b.0, sizes_have t row f d.1 k.1 b.1)
        sizes_have (Level x t) h f d k e = absurd k
        sizes_have (Built (head.Scalar s) ts) h f d k e = k
        sizes_have (Built head.Tuple ts) (Tuple_shape hs) f d k e = all_have ts hs f.1 d k e
        sizes_have (Built head.Tuple ts) h f d k e = absurd k
        sizes_have (Built (head.Record n) ts) (Record_shape hs) f d k e = named_have n 0 ts (Z.fields n) hs (are n) f.0 f.1 d k e
        sizes_have (Built (head.Record n) ts) h f d k e = absurd k
        sizes_have (Built (head.Abstract n a) ts) h f d k e = absurd f.0
        sizes_have (Built head.Array ts) h f d k e = absurd f.0
        sizes_have (Built head.Fun ts) h f d k e = absurd f.0
        sizes_have (Built (head.Rigid n a) ts) h f d k e = absurd f.0
        sizes_have (Fun c p r) h f d k e = absurd f

        all_have : (ts : Sizes) (hs : Shapes) → All_formed Z.fields ts → Each_all (λ j x. Is_found W x) 0 ts → Have_shapes N τ other no_frames ts hs → have_sizes Z.fields W ts hs ≡ true → Have_shapes N τ m no_frames ts hs
        all_have no_size hs f d k e = k
        all_have (size_and t ts) no_shape f d k e = absurd k
        all_have (size_and t ts) (shape_and h hs) f d k e = let b = both_true (has_sizes Z.fields W t h) (have_sizes Z.fields W ts hs) e in (sizes_have t h f.0 d.0 k.0 b.0, all_have ts hs f.1 d.1 k.1 b.1)

        named_have : (n i : ℕ) (ts : Sizes) (fs : List Text) (hs : Named_shapes) → Fields_from N n i fs → As_many fs ts → All_formed Z.fields ts → Each_all (λ j x. Is_found W x) 0 ts → Have_named N τ other no_frames n i ts hs → named_sizes Z.fields W fs ts hs ≡ true → Have_named N τ m no_frames n i ts hs
        named_have n i no_size fs hs b l f d k e = k
        named_have n i (size_and t ts) [] hs b l f d k e = absurd l
        named_have n i (size_and t ts) (x ∷ fs) hs b l f d k e =
            let a = both_true (if_field (field_shape x hs) (has_sizes Z.fields W t)) (named_sizes Z.fields W fs ts hs) e in (
              (λ g p. let c = k.0 g p in (c.0, c.1, sizes_have t c.0 f.0 d.0 c.2 (tested g c.0 (same_text N named n i g x p b.0) c.1 a.0))),
              named_have n (suc i) ts fs hs b.1 l f.1 d.1 k.1 a.1,
            )
          where
            tested : (g : Text) (h : Shape) → g ≡ x → field_shape g hs ≡ Some h → if_field (field_shape x hs) (has_sizes Z.fields W t) ≡ true → has_sizes Z.fields W t h ≡ true
            tested g h q found test = subst (λ o. if_field o (has_sizes Z.fields W t) ≡ true) (subst (λ y. field_shape y hs ≡ Some h) q found) test

    type_as : (v : Variable) → Type_is_found W v → (τ v).shape (shape_found W v)
    type_as v f = subst (λ o. (τ v).shape (or_unmet o)) (sym f.1) (right.1 v f.0 f.1)

    mutual
      unfolding Each_hole Each_holes

      holes_as : (t : Size) → Each_hole (Type_is_found W) t → Each_hole (λ v. (τ v).shape (shape_found W v)) t
      holes_as (Hole v) h = type_as v h
      holes_as (Open n v u) h = h
      holes_as (Level d t) h = holes_as t h
      holes_as (Built k ts) h = all_holes_as ts h
      holes_as (Fun k p r) h = (holes_as p h.0, holes_as r h.1)

      all_holes_as : (ts : Sizes) → Each_holes (Type_is_found W) ts → Each_holes (λ v. (τ v).shape (shape_found W v)) ts
      all_holes_as no_size h = tt
      all_holes_as (size_and t ts) h = (holes_as t h.0, all_holes_as ts h.1)

  -- the shape that is told of data in which all is found
  pub told_found : (named : AreNames N) (W : Found) → Right W → (t : Size) → Formed Z.fields t → Each (λ j x. Is_found W x) 0 t → Each_hole (Type_is_found W) t → Has_shape N τ m no_frames t (told_shape Z.fields (number W) (shape_found W) t)
  told_found named W w t formed dims holes =
      told_right N Z.fields are τ m no_frames named (number W) (shape_found W) t formed
      (each_as (λ j x. Is_found W x) (λ j x. number W x ≡ size_number m no_frames x) (number_right W w) t 0 dims) (holes_as W w t holes)

pub found_under_names_is_right : FoundUnderNamesIsRight
found_under_names_is_right N τ Z m env are one a = under N (exactly τ) Z m are (exact_kinds τ one) env a

pub literal_rows_are_right : LiteralRowsAreRight
unfolding row_told told_shape
literal_rows_are_right N named τ Z m L env lo d t sizes type formed are one a dims holes =
    subst (λ o. Has_shape N (exactly τ) m no_frames t (row_found o (Of_literal env lo))) (sym sizes)
    (subst (λ u. Has_shape N (exactly τ) m no_frames t (row_of (told_shape Z.fields (number (found Z env)) (shape_found (found Z env)) u))) (sym type)
    (told_found N (exactly τ) Z m are (exact_kinds τ one) named (found Z env) (under N (exactly τ) Z m are (exact_kinds τ one) env a) t formed dims holes))

pub coerced_has_its_sizes : CoercedHasItsSizes
unfolding fits_type
coerced_has_its_sizes N named τ Z m other L env lo v sizes formed are one a dims has test =
    sizes_have N (exactly τ) Z m are (exact_kinds τ one) (found Z env) (under N (exactly τ) Z m are (exact_kinds τ one) env a) named other (Z.size_at lo) (value_shape v) formed dims has (subst (λ o. sizes_agree o env lo v ≡ true) sizes test)

pub values_read : ValuesRead
values_read N τ Z L is_there tight budget m t v h = fits_read N (exactly τ) Z is_there (calls_of L tight budget) m no_frames t v h
