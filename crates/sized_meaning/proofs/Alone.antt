-- Data of one sized type is of one shape, and whole.
use Rattle.std.proofs.Common.{◌≡◌, ℕ, zero, suc, ◌+◌, ◌<◌, List, Bool, true, false, cond, Option, Some, refl, sym, ap, ◌∙◌, subst, arith, inl, inr}
use Rattle.std.specs.Str.{bytes_eq}
use Rattle.std.proofs.lemmas.Slice.Eq.{bytes_eq-Decides}
use Rattle.fut_ast.specs.Sorts.{Text}
use Rattle.fut_types.specs.declared.Head.TheVariants as head
use Rattle.fut_types.specs.Shapes.{place}
use Rattle.fut_typing.specs.Names.{Names}
use Rattle.fut_value.specs.Data.{Shape, Tuple_shape, Record_shape, Array_shape, Shapes, no_shape, shape_and, Named_shapes, Datum, Scalar_datum, Tuple_datum, Record_datum, Array_datum, Datums, no_datum, datum_and, Named_datums, no_named, named_and, shape_of}
use Rattle.fut_meaning.specs.Found.{told_shape}
use Rattle.fut_meaning.specs.Places.{field_shape}
use Rattle.fut_meaning.specs.Values.{is_before}
use Rattle.fut_sizes.specs.Rules.{Each_hole, Each_holes}
use Rattle.fut_sizes.specs.Suiting.{Each, Each_all}
use Rattle.sized_types.specs.Sizes.{Dim, Variable, Size, Hole, Open, Level, Built, Fun, Sizes, no_size, size_and}
use Rattle.fut_sizes.specs.Operations.{many}
use Rattle.sized_meaning.specs.Worth.{Worth, Frames, number}
use Rattle.sized_meaning.specs.Shapes.{Meant, exactly, Whole, All_whole, Named_whole, Rows_whole, In_order, Record_names, shape_names, datum_names, Every_datum, field_datum, Has_shape, Have_shapes, Have_named, Has_datum, Have_data, Named_data}
use Rattle.sized_meaning.specs.Finding.{Formed, All_formed}
use Rattle.sized_meaning.specs.Misfits.{DataIsOfItsShape}
use Rattle.sized_meaning.proofs.Fields.{Among, each_there, one_list, field_among, same_fields, before_self}
use Rattle.sized_meaning.proofs.Finding.{some_same, told_right}
use Rattle.sized_meaning.proofs.Datas.{datum_shaped}

shifted : (o : Option ℕ) (j i : ℕ) → o ≡ Some (suc j + i) → o ≡ Some (j + suc i)
shifted o j i p = p ∙ ap Some (let z : suc j + i ≡ j + suc i = omega arith in z)

first_place : (o : Option ℕ) (i : ℕ) → o ≡ Some (0 + i) → o ≡ Some i
first_place o i p = p ∙ ap Some (let z : 0 + i ≡ i = omega arith in z)

module _ (N : Names) (τ : Meant) (m : Worth) (φ : Frames) where
  -- ---- the names of a record's fields

  shape_record : (n i : ℕ) (ts : Sizes) (hs : Named_shapes) → Have_named N τ m φ n i ts hs → Record_names N n (many ts + i) (shape_names hs)
  unfolding Have_named
  shape_record n i no_size hs x = subst (λ k. Record_names N n k (shape_names hs)) (let z : i ≡ 0 + i = omega arith in z) x
  shape_record n i (size_and t ts) hs x = subst (λ k. Record_names N n k (shape_names hs)) (let z : many ts + suc i ≡ suc (many ts) + i = omega arith in z) (shape_record n (suc i) ts hs x.1)

  datum_record : (n i : ℕ) (ts : Sizes) (ds : Named_datums) → Named_data N τ m φ n i ts ds → Record_names N n (many ts + i) (datum_names ds)
  unfolding Named_data
  datum_record n i no_size ds x = subst (λ k. Record_names N n k (datum_names ds)) (let z : i ≡ 0 + i = omega arith in z) x
  datum_record n i (size_and t ts) ds x = subst (λ k. Record_names N n k (datum_names ds)) (let z : many ts + suc i ≡ suc (many ts) + i = omega arith in z) (datum_record n (suc i) ts ds x.1)

  placed_among : (n i j : ℕ) (ts : Sizes) (hs : Named_shapes) (f : Text) → Have_named N τ m φ n i ts hs → place N.shapes (N.label f) (head.Record n) ≡ Some (j + i) → j < many ts → Among f (shape_names hs)
  unfolding Have_named
  placed_among n i j no_size hs f x p l = absurd (omega (arith, l))
  placed_among n i zero (size_and t ts) hs f x p l = let c = x.0 f (first_place _ i p) in field_among f hs c.0 c.1
  placed_among n i (suc j) (size_and t ts) hs f x p l = placed_among n (suc i) j ts hs f x.1 (shifted _ j i p) (omega (arith, l))

  -- a name of the one record is one of the other
  among_other : (n : ℕ) (ts : Sizes) (hs ks : Named_shapes) → Have_named N τ m φ n 0 ts hs → Have_named N τ m φ n 0 ts ks → (f : Text) → Among f (shape_names hs) → Among f (shape_names ks)
  among_other n ts hs ks x y f a =
      let r = each_there (λ g. (i : ℕ) × (place N.shapes (N.label g) (head.Record n) ≡ Some i) × (i < many ts + 0)) f (shape_names hs) (shape_record n 0 ts hs x).0 a in
      placed_among n 0 r.0 ts ks f y (r.1 ∙ ap Some (let z : r.0 ≡ r.0 + 0 = omega arith in z)) (let l = r.2 in omega (arith, l))

  -- ---- one shape
  mutual
    unfolding Has_shape Have_shapes Have_named

    pub shape_alone : (t : Size) (h k : Shape) → Has_shape N τ m φ t h → Has_shape N τ m φ t k → h ≡ k
    shape_alone (Hole v) h k x y = (τ v).alone h x ∙ sym ((τ v).alone k y)
    shape_alone (Open n v u) h k x y = absurd x
    shape_alone (Level d t) (Array_shape n row) (Array_shape l row2) x y = ap (λ z. Array_shape z row) (x.0 ∙ sym y.0) ∙ ap (Array_shape l) (shape_alone t row row2 x.1 y.1)
    shape_alone (Level d t) (Array_shape n row) k x y = absurd y
    shape_alone (Level d t) h k x y = absurd x
    shape_alone (Built (head.Scalar s) ts) h k x y = x ∙ sym y
    shape_alone (Built head.Tuple ts) (Tuple_shape hs) (Tuple_shape ks) x y = ap Tuple_shape (shapes_alone ts hs ks x y)
    shape_alone (Built head.Tuple ts) (Tuple_shape hs) k x y = absurd y
    shape_alone (Built head.Tuple ts) h k x y = absurd x
    shape_alone (Built (head.Record n) ts) (Record_shape hs) (Record_shape ks) x y = ap Record_shape (same_fields hs ks (shape_record n 0 ts hs x).1
        (one_list (shape_names hs) (shape_names ks) (shape_record n 0 ts hs x).1 (shape_record n 0 ts ks y).1 (λ f a. among_other n ts hs ks x y f a) (λ f a. among_other n ts ks hs y x f a))
        (λ f a. let r = each_there (λ g. (i : ℕ) × (place N.shapes (N.label g) (head.Record n) ≡ Some i) × (i < many ts + 0)) f (shape_names hs) (shape_record n 0 ts hs x).0 a in
        fields_alone n 0 r.0 ts hs ks f x y (r.1 ∙ ap Some (let z : r.0 ≡ r.0 + 0 = omega arith in z)) (let l = r.2 in omega (arith, l))))
    shape_alone (Built (head.Record n) ts) (Record_shape hs) k x y = absurd y
    shape_alone (Built (head.Record n) ts) h k x y = absurd x
    shape_alone (Built (head.Abstract n a) ts) h k x y = absurd x
    shape_alone (Built head.Array ts) h k x y = absurd x
    shape_alone (Built head.Fun ts) h k x y = absurd x
    shape_alone (Built (head.Rigid n a) ts) h k x y = absurd x
    shape_alone (Fun c p r) h k x y = absurd x

    shapes_alone : (ts : Sizes) (hs ks : Shapes) → Have_shapes N τ m φ ts hs → Have_shapes N τ m φ ts ks → hs ≡ ks
    shapes_alone no_size no_shape no_shape x y = refl
    shapes_alone no_size no_shape (shape_and k ks) x y = absurd y
    shapes_alone no_size (shape_and h hs) ks x y = absurd x
    shapes_alone (size_and t ts) (shape_and h hs) (shape_and k ks) x y = ap (λ z. shape_and z hs) (shape_alone t h k x.0 y.0) ∙ ap (shape_and k) (shapes_alone ts hs ks x.1 y.1)
    shapes_alone (size_and t ts) (shape_and h hs) no_shape x y = absurd y
    shapes_alone (size_and t ts) no_shape ks x y = absurd x

    fields_alone : (n i j : ℕ) (ts : Sizes) (hs ks : Named_shapes) (f : Text) → Have_named N τ m φ n i ts hs → Have_named N τ m φ n i ts ks → place N.shapes (N.label f) (head.Record n) ≡ Some (j + i) → j < many ts → field_shape f hs ≡ field_shape f ks
    fields_alone n i j no_size hs ks f x y p l = absurd (omega (arith, l))
    fields_alone n i zero (size_and t ts) hs ks f x y p l = let c = x.0 f (first_place _ i p) in let e = y.0 f (first_place _ i p) in c.1 ∙ ap Some (shape_alone t c.0 e.0 c.2 e.2) ∙ sym e.1
    fields_alone n i (suc j) (size_and t ts) hs ks f x y p l = fields_alone n (suc i) j ts hs ks f x.1 y.1 (shifted _ j i p) (omega (arith, l))

  -- ---- whole

  -- a record is whole where each value that a name has is
  whole_fields : (ds : Named_datums) → In_order (datum_names ds) → ((f : Text) (x : Datum) → Among f (datum_names ds) → field_datum f ds ≡ Some x → Whole x) → Named_whole ds
  unfolding Named_whole
  whole_fields no_named o h = tt
  whole_fields (named_and f d ds) o h = (h f d (inl refl) (ap (λ b. cond b (Some d) (field_datum f ds)) ((bytes_eq-Decides f f).1 refl)), whole_fields ds o.1 (λ g x a e. h g x (inr a) (later g (bytes_eq f g) refl a ∙ e)))
    where
      later : (g : Text) (b : Bool) → bytes_eq f g ≡ b → Among g (datum_names ds) → cond b (Some d) (field_datum g ds) ≡ field_datum g ds
      later g true q a = absurd (before_self f (each_there (λ x. is_before f x ≡ true) f (datum_names ds) o.0 (subst (λ x. Among x (datum_names ds)) (sym ((bytes_eq-Decides f g).0 q)) a)))
      later g false q a = refl

  -- rows that are whole
  whole_rows : (t : Size) (row : Shape) (ds : Datums) → ((d : Datum) → Has_datum N τ m φ t d → Whole d) → Has_shape N τ m φ t row → Every_datum (Has_datum N τ m φ t) ds → Rows_whole row ds
  unfolding Rows_whole
  whole_rows t row no_datum go r x = tt
  whole_rows t row (datum_and d ds) go r x = (shape_alone t (shape_of d) row (datum_shaped N τ m φ t d x.0) r, go d x.0, whole_rows t row ds go r x.1)

  mutual
    unfolding Has_datum Have_data Named_data Whole All_whole

    datum_whole : (t : Size) (d : Datum) → Has_datum N τ m φ t d → Whole d
    datum_whole (Hole v) d x = (τ v).whole d x
    datum_whole (Open n v u) d x = absurd x
    datum_whole (Level k t) (Array_datum row ds) x = whole_rows t row ds (λ d h. datum_whole t d h) x.1 x.2
    datum_whole (Level k t) d x = absurd x
    datum_whole (Built (head.Scalar s) ts) (Scalar_datum c) x = tt
    datum_whole (Built (head.Scalar s) ts) d x = absurd x
    datum_whole (Built head.Tuple ts) (Tuple_datum ds) x = data_whole ts ds x
    datum_whole (Built head.Tuple ts) d x = absurd x
    datum_whole (Built (head.Record n) ts) (Record_datum ds) x = whole_fields ds (datum_record n 0 ts ds x).1
        (λ f y a e. let r = each_there (λ g. (i : ℕ) × (place N.shapes (N.label g) (head.Record n) ≡ Some i) × (i < many ts + 0)) f (datum_names ds) (datum_record n 0 ts ds x).0 a in
        named_whole n 0 r.0 ts ds f y x (r.1 ∙ ap Some (let z : r.0 ≡ r.0 + 0 = omega arith in z)) (let l = r.2 in omega (arith, l)) e)
    datum_whole (Built (head.Record n) ts) d x = absurd x
    datum_whole (Built (head.Abstract n k) ts) d x = absurd x
    datum_whole (Built head.Array ts) d x = absurd x
    datum_whole (Built head.Fun ts) d x = absurd x
    datum_whole (Built (head.Rigid n k) ts) d x = absurd x
    datum_whole (Fun k p r) d x = absurd x

    data_whole : (ts : Sizes) (ds : Datums) → Have_data N τ m φ ts ds → All_whole ds
    data_whole no_size no_datum x = tt
    data_whole no_size (datum_and d ds) x = absurd x
    data_whole (size_and t ts) no_datum x = absurd x
    data_whole (size_and t ts) (datum_and d ds) x = (datum_whole t d x.0, data_whole ts ds x.1)

    named_whole : (n i j : ℕ) (ts : Sizes) (ds : Named_datums) (f : Text) (y : Datum) → Named_data N τ m φ n i ts ds → place N.shapes (N.label f) (head.Record n) ≡ Some (j + i) → j < many ts → field_datum f ds ≡ Some y → Whole y
    named_whole n i j no_size ds f y x p l e = absurd (omega (arith, l))
    named_whole n i zero (size_and t ts) ds f y x p l e = let c = x.0 f (first_place _ i p) in subst Whole (some_same (sym c.1 ∙ e)) (datum_whole t c.0 c.2)
    named_whole n i (suc j) (size_and t ts) ds f y x p l e = named_whole n (suc i) j ts ds f y x.1 (shifted _ j i p) (omega (arith, l)) e

mutual
  unfolding Each Each_all

  each_always : (ok : ℕ → Dim → Type 0) → ((j : ℕ) (d : Dim) → ok j d) → (t : Size) (j : ℕ) → Each ok j t
  each_always ok h (Hole v) j = tt
  each_always ok h (Open n v u) j = tt
  each_always ok h (Level d t) j = (h j d, each_always ok h t j)
  each_always ok h (Built k ts) j = all_always ok h ts j
  each_always ok h (Fun k p r) j = (each_always ok h p (suc j), each_always ok h r (suc j))

  all_always : (ok : ℕ → Dim → Type 0) → ((j : ℕ) (d : Dim) → ok j d) → (ts : Sizes) (j : ℕ) → Each_all ok j ts
  all_always ok h no_size j = tt
  all_always ok h (size_and t ts) j = (each_always ok h t j, all_always ok h ts j)

mutual
  unfolding Each_hole Each_holes Formed All_formed

  hole_always : (ok : Variable → Type 0) → ((v : Variable) → ok v) → (fields : ℕ → List Text) (t : Size) → Formed fields t → Each_hole ok t
  hole_always ok h fields (Hole v) f = h v
  hole_always ok h fields (Open n v u) f = absurd f
  hole_always ok h fields (Level d t) f = hole_always ok h fields t f
  hole_always ok h fields (Built k ts) f = holes_always ok h fields ts f.1
  hole_always ok h fields (Fun k p r) f = absurd f

  holes_always : (ok : Variable → Type 0) → ((v : Variable) → ok v) → (fields : ℕ → List Text) (ts : Sizes) → All_formed fields ts → Each_holes ok ts
  holes_always ok h fields no_size f = tt
  holes_always ok h fields (size_and t ts) f = (hole_always ok h fields t f.0, holes_always ok h fields ts f.1)

pub data_is_of_its_shape : DataIsOfItsShape
data_is_of_its_shape N named fields τ m φ t d are formed x = (
  shape_alone N (exactly τ) m φ t (shape_of d) (told_shape fields (number m φ) τ t) (datum_shaped N (exactly τ) m φ t d x)
      (told_right N fields are (exactly τ) m φ named (number m φ) τ t formed (each_always (λ j d. number m φ d ≡ number m φ d) (λ j d. refl) t 0) (hole_always (λ v. τ v ≡ τ v) (λ v. refl) fields t formed)),
  datum_whole N (exactly τ) m φ t d x,
)
