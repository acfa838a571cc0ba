-- What stands in the sized type of data is found in its shape, what is found is right, and so is the shape that is told of it.
use Rattle.std.proofs.Common.{◌≡◌, ◌⊎◌, ℕ, suc, ◌+◌, ◌<◌, ◌≤◌, ◌==◌, ◌||◌, Bool, true, false, cond, if◌then◌else◌, List, [], ◌∷◌, Option, Some, None, refl, sym, ap, ◌∙◌, subst, arith, inl, inr, eqb-true, eq-eqb}
use Rattle.std.specs.Prelude.{nat_eq}
use Rattle.std.specs.Str.{bytes_eq}
use Rattle.std.proofs.lemmas.Slice.Eq.{bytes_eq-Decides}
use Rattle.fut_ast.specs.Sorts.{Text}
use Rattle.fut_types.specs.declared.Head.{Head}
use Rattle.fut_types.specs.declared.Head.TheVariants as head
use Rattle.fut_types.specs.Shapes.{place as label_place, place_from}
use Rattle.fut_typing.specs.Names.{Names, AreNames}
use Rattle.fut_value.specs.Data.{Shape, Tuple_shape, Record_shape, Array_shape, Shapes, no_shape, shape_and, Named_shapes, no_named_shape, named_shape_and}
use Rattle.fut_meaning.specs.Values.{is_before}
use Rattle.fut_meaning.specs.Places.{Path, Whole, In_rows, In_part, In_field, or_else, below, place, part_place, field_place, size_place, type_place, on_place, size_of, shape_at, or_unmet, field_shape, at_path}
use Rattle.fut_meaning.specs.Found.{with_named, named_shapes, told_shape, told_shapes}
use Rattle.sized_types.specs.Sizes.{Free, Const, Name, Own, Unknown, Slot, Dim, At, Bound, Variable, Inferred, Written, is_variable, Size, Hole, Open, Level, Built, Fun, Sizes, no_size, size_and, is_free, is_dim}
use Rattle.sized_types.specs.Standing.{stands, some_stands, has_hole, some_hole}
use Rattle.fut_sizes.specs.Rules.{Each_hole, Each_holes}
use Rattle.fut_sizes.specs.Suiting.{Each, Each_all, Scoped, Data, All_data}
use Rattle.sized_meaning.specs.Worth.{Worth, Frames, number}
use Rattle.sized_meaning.specs.Shapes.{Meant, exactly, Record_names, shape_names, Has_shape, Have_shapes, Have_named}
use Rattle.sized_meaning.proofs.Fields.{record_put, shape_put, absent_shape}
use Rattle.fut_sizes.specs.Operations.{many}
use Rattle.sized_meaning.specs.Finding.{Reads, All_read, Named_read, Fields_from, Fields_are, One_shape_each, One_kind_each, As_many, Formed, All_formed, Well_formed, All_well_formed, FoundIsRight, StandingIsFound, ToldIsRight}

pub some_same : {A : Type 0} {a b : A} → Some a ≡ Some b → a ≡ b
some_same e = cc

pub none_no : {A : Type 0} {a : A} {X : Type 0} → None ≡ Some a → X
none_no {a = a} e = absurd (let z : None ≡ Some a = e in cc)

-- ---- the first answer is one of the two

pub first_or : {A X : Type 0} (o p : Option A) (a : A) → or_else o p ≡ Some a → (o ≡ Some a → X) → (p ≡ Some a → X) → X
first_or (Some b) p a e f g = f e
first_or None p a e f g = g e

pub text_same : (f g : Text) → bytes_eq f g ≡ true → f ≡ g
text_same f g e = ((bytes_eq-Decides f g).0) e

-- a field behind another, where the names differ
field_behind : (f g : Text) (k : Shape) (o : Option Shape) → (f ≡ g → ⊥) → cond (bytes_eq g f) (Some k) o ≡ o
field_behind f g k o ne = tested (bytes_eq g f) refl
  where
    tested : (b : Bool) → bytes_eq g f ≡ b → cond b (Some k) o ≡ o
    tested true q = absurd (ne (sym (text_same g f q)))
    tested false q = refl

field_first : (f : Text) (k : Shape) (o : Option Shape) → cond (bytes_eq f f) (Some k) o ≡ Some k
field_first f k o = ap (λ b. cond b (Some k) o) ((bytes_eq-Decides f f).1 refl)

-- the field that was put in is found, and each other one as before
put_here : (f : Text) (h : Shape) (hs : Named_shapes) → field_shape f hs ≡ None → field_shape f (with_named f h hs) ≡ Some h
put_here f h no_named_shape e = field_first f h None
put_here f h (named_shape_and g k hs) e = tested (is_before f g) (behind (bytes_eq g f) e (λ q. put_here f h hs q))
  where
    behind : (b : Bool) → cond b (Some k) (field_shape f hs) ≡ None → (field_shape f hs ≡ None → field_shape f (with_named f h hs) ≡ Some h) → cond b (Some k) (field_shape f (with_named f h hs)) ≡ Some h
    behind true q rest = none_no (sym q)
    behind false q rest = rest q

    tested : (b : Bool) → cond (bytes_eq g f) (Some k) (field_shape f (with_named f h hs)) ≡ Some h → field_shape f (cond b (named_shape_and f h (named_shape_and g k hs)) (named_shape_and g k (with_named f h hs))) ≡ Some h
    tested true q = field_first f h (cond (bytes_eq g f) (Some k) (field_shape f hs))
    tested false q = q

put_else : (f g : Text) (h : Shape) (hs : Named_shapes) → (f ≡ g → ⊥) → field_shape f (with_named g h hs) ≡ field_shape f hs
put_else f g h no_named_shape ne = field_behind f g h None ne
put_else f g h (named_shape_and g' k hs) ne = tested (is_before g g') (put_else f g h hs ne)
  where
    tested : (b : Bool) → field_shape f (with_named g h hs) ≡ field_shape f hs → field_shape f (cond b (named_shape_and g h (named_shape_and g' k hs)) (named_shape_and g' k (with_named g h hs))) ≡ cond (bytes_eq g' f) (Some k) (field_shape f hs)
    tested true rest = field_behind f g h (cond (bytes_eq g' f) (Some k) (field_shape f hs)) ne
    tested false rest = ap (λ z. cond (bytes_eq g' f) (Some k) z) rest

-- where sizes or type variables of a kind stand in data
mutual
  data Occurs (L : Dim → Type 0) (H : Variable → Type 0) : Size → Type 0 where
    at_hole_of : {v : Variable} → H v → Occurs L H (Hole v)
    at_level_of : {d : Dim} {t : Size} → L d → Occurs L H (Level d t)
    in_rows : {d : Dim} {t : Size} → Occurs L H t → Occurs L H (Level d t)
    in_parts : {k : Head} {ts : Sizes} → Some_occurs L H ts → Occurs L H (Built k ts)

  data Some_occurs (L : Dim → Type 0) (H : Variable → Type 0) : Sizes → Type 0 where
    in_first : {t : Size} {ts : Sizes} → Occurs L H t → Some_occurs L H (size_and t ts)
    in_later : {t : Size} {ts : Sizes} → Some_occurs L H ts → Some_occurs L H (size_and t ts)

abbrev Has_parts : Sizes → Type 0
Has_parts no_size = ⊥
Has_parts (size_and t ts) = Unit {0}

has_parts : {L : Dim → Type 0} {H : Variable → Type 0} {ts : Sizes} → Some_occurs L H ts → Has_parts ts
has_parts (in_first o) = tt
has_parts (in_later o) = tt

-- in what is an array, a tuple, a record or a type variable
abbrev Is_place : Size → Type 0
Is_place (Open n v u) = ⊥
Is_place (Fun k p r) = ⊥
Is_place t = Unit {0}

is_place : {L : Dim → Type 0} {H : Variable → Type 0} {t : Size} → Occurs L H t → Is_place t
is_place (at_hole_of q) = tt
is_place (at_level_of q) = tt
is_place (in_rows o) = tt
is_place (in_parts o) = tt

-- data that has a form is made of parts that have one
mutual
  unfolding Formed All_formed Well_formed All_well_formed Data All_data

  pub well_formed : (fields : ℕ → List Text) (t : Size) → Formed fields t → Well_formed fields t
  well_formed fields (Hole v) f = tt
  well_formed fields (Open n v u) f = tt
  well_formed fields (Level d t) f = well_formed fields t f
  well_formed fields (Built k ts) f = (f.0, all_well_formed fields ts f.1)
  well_formed fields (Fun k p r) f = absurd f

  all_well_formed : (fields : ℕ → List Text) (ts : Sizes) → All_formed fields ts → All_well_formed fields ts
  all_well_formed fields no_size f = tt
  all_well_formed fields (size_and t ts) f = (well_formed fields t f.0, all_well_formed fields ts f.1)

  pub data_formed : (fields : ℕ → List Text) (t : Size) → Data t → Well_formed fields t → Formed fields t
  data_formed fields (Hole v) d f = tt
  data_formed fields (Open n v u) d f = absurd d
  data_formed fields (Level e t) d f = data_formed fields t d f
  data_formed fields (Built k ts) d f = (f.0, all_data_formed fields ts d f.1)
  data_formed fields (Fun k p r) d f = absurd d

  all_data_formed : (fields : ℕ → List Text) (ts : Sizes) → All_data ts → All_well_formed fields ts → All_formed fields ts
  all_data_formed fields no_size d f = tt
  all_data_formed fields (size_and t ts) d f = (data_formed fields t d.0 f.0, all_data_formed fields ts d.1 f.1)

pub or_found : {A : Type 0} (o p : Option A) (a : A) → p ≡ Some a → (b : A) × (or_else o p ≡ Some b)
or_found (Some b) p a e = (b, refl)
or_found None p a e = (a, e)

-- ---- a place of a record is that of one name

pub place_on : (at label : ℕ) (xs : List ℕ) (i : ℕ) → place_from at label xs ≡ Some i → at ≤ i
unfolding place_from
place_on at label [] i e = none_no e
place_on at label (x ∷ xs) i e = tested (x == label) e (λ q. place_on (suc at) label xs i q)
  where
    tested : (b : Bool) → (if b then Some at else place_from (suc at) label xs) ≡ Some i → (place_from (suc at) label xs ≡ Some i → suc at ≤ i) → at ≤ i
    tested true e rest = let z : at ≡ i = some_same e in omega (arith, z)
    tested false e rest = let z = rest e in omega (arith, z)

one_label : (at k l : ℕ) (xs : List ℕ) (i : ℕ) → place_from at k xs ≡ Some i → place_from at l xs ≡ Some i → k ≡ l
unfolding place_from
one_label at k l [] i p q = none_no p
one_label at k l (x ∷ xs) i p q = tested (x == k) (x == l) refl refl p q (λ p q. one_label (suc at) k l xs i p q)
  where
    tested : (b c : Bool) → x == k ≡ b → x == l ≡ c → (if b then Some at else place_from (suc at) k xs) ≡ Some i → (if c then Some at else place_from (suc at) l xs) ≡ Some i → (place_from (suc at) k xs ≡ Some i → place_from (suc at) l xs ≡ Some i → k ≡ l) → k ≡ l
    tested true true e f p q rest = sym (eqb-true x k e) ∙ eqb-true x l f
    tested true false e f p q rest = let z : at ≡ i = some_same p in let w = place_on (suc at) l xs i q in absurd (omega (arith, z, w))
    tested false true e f p q rest = let z : at ≡ i = some_same q in let w = place_on (suc at) k xs i p in absurd (omega (arith, z, w))
    tested false false e f p q rest = rest p q

pub same_text : (N : Names) → AreNames N → (n i : ℕ) (f g : Text) → label_place N.shapes (N.label f) (head.Record n) ≡ Some i → label_place N.shapes (N.label g) (head.Record n) ≡ Some i → f ≡ g
unfolding label_place
same_text N named n i f g p q = named.one_label f g (one_label 0 (N.label f) (N.label g) (N.shapes.fields n) i p q)

-- ---- data reads as its sized type says

module _ (N : Names) (τ : Meant) (m : Worth) (φ : Frames) where
  mutual
    unfolding Has_shape Have_shapes Have_named Reads All_read Named_read

    pub data_reads : (t : Size) (h : Shape) → Has_shape N τ m φ t h → Reads N τ m φ t h
    data_reads (Hole v) h k = k
    data_reads (Open n v u) h k = tt
    data_reads (Level d t) (Array_shape n row) k = (k.0, data_reads t row k.1)
    data_reads (Level d t) h k = absurd k
    data_reads (Built head.Tuple ts) (Tuple_shape hs) k = all_data_read ts hs k
    data_reads (Built head.Tuple ts) h k = absurd k
    data_reads (Built (head.Record n) ts) (Record_shape hs) k = named_data_read n 0 ts hs k
    data_reads (Built (head.Record n) ts) h k = absurd k
    data_reads (Built g ts) h k = tt
    data_reads (Fun c p r) h k = tt

    all_data_read : (ts : Sizes) (hs : Shapes) → Have_shapes N τ m φ ts hs → All_read N τ m φ ts hs
    all_data_read no_size hs k = tt
    all_data_read (size_and t ts) no_shape k = absurd k
    all_data_read (size_and t ts) (shape_and h hs) k = (data_reads t h k.0, all_data_read ts hs k.1)

    named_data_read : (n i : ℕ) (ts : Sizes) (hs : Named_shapes) → Have_named N τ m φ n i ts hs → Named_read N τ m φ n i ts hs
    named_data_read n i no_size hs k = tt
    named_data_read n i (size_and t ts) hs k = ((λ f p. let c = k.0 f p in (c.0, c.1, data_reads t c.0 c.2)), named_data_read n (suc i) ts hs k.1)

pub one_place : {X : Type 0} (o : Option Path) (step : Path → Path) (p : Path) → below step o ≡ Some p → ((q : Path) → o ≡ Some q → step q ≡ p → X) → X
one_place (Some q) step p e go = go q refl (some_same e)
one_place None step p e go = none_no e

pub some_place : {A : Type 0} (o : Option Path) (there : Path → A) (rest : Option A) → (p : Path) × (o ≡ Some p) → (a : A) × (on_place o (λ p. Some (there p)) rest ≡ Some a)
some_place o there rest (p, e) = (there p, ap (λ z. on_place z (λ p. Some (there p)) rest) e)

pub some_else : {A : Type 0} (o : Option Path) (there : Path → A) (rest : Option A) → (a : A) × (rest ≡ Some a) → (a : A) × (on_place o (λ p. Some (there p)) rest ≡ Some a)
some_else (Some p) there rest r = (there p, refl)
some_else None there rest r = r

pub from_place : {A X : Type 0} (o : Option Path) (there : Path → A) (rest : Option A) (a : A) → on_place o (λ p. Some (there p)) rest ≡ Some a → ((p : Path) → o ≡ Some p → there p ≡ a → X) → (rest ≡ Some a → X) → X
from_place (Some p) there rest a e here other = here p refl (some_same e)
from_place None there rest a e here other = other e

-- what stands in the type has a place there
module _ (fields : ℕ → List Text) (is_size : Dim → Bool) (is_type : Variable → Bool) (L : Dim → Type 0) (H : Variable → Type 0) (size_there : (d : Dim) → L d → is_size d ≡ true) (type_there : (v : Variable) → H v → is_type v ≡ true) where
  or_below : (b : Bool) (step : Path → Path) (o : Option Path) → (p : Path) × (o ≡ Some p) → (p : Path) × (cond b (Some Whole) (below step o) ≡ Some p)
  or_below true step o q = (Whole, refl)
  or_below false step o q = (step q.0, ap (below step) q.1)

  first_place : (step : Path → Path) (o rest : Option Path) → (p : Path) × (o ≡ Some p) → (p : Path) × (or_else (below step o) rest ≡ Some p)
  first_place step o rest q = (step q.0, ap (λ z. or_else (below step z) rest) q.1)

  mutual
    unfolding place part_place field_place Well_formed All_well_formed

    has_place : (t : Size) → Occurs L H t → Well_formed fields t → (p : Path) × (place fields is_size is_type t ≡ Some p)
    has_place (Hole v) (at_hole_of q) f = (Whole, ap (λ b. cond b (Some Whole) None) (type_there v q))
    has_place (Level d t) (at_level_of q) f = (Whole, ap (λ b. cond b (Some Whole) (below In_rows (place fields is_size is_type t))) (size_there d q))
    has_place (Level d t) (in_rows o) f = or_below (is_size d) In_rows (place fields is_size is_type t) (has_place t o f)
    has_place (Built head.Tuple ts) (in_parts o) f = part_has_place 0 ts o f.1
    has_place (Built (head.Record n) ts) (in_parts o) f = field_has_place ts (fields n) o f.0 f.1
    has_place (Built (head.Scalar s) (size_and t ts)) o f = absurd f.0
    has_place (Built (head.Scalar s) no_size) (in_parts o) f = absurd (has_parts o)
    has_place (Built (head.Abstract n d) ts) o f = absurd f.0
    has_place (Open n v u) o f = absurd (is_place o)
    has_place (Fun c p r) o f = absurd (is_place o)
    has_place (Built head.Array ts) o f = absurd f.0
    has_place (Built head.Fun ts) o f = absurd f.0
    has_place (Built (head.Rigid n d) ts) o f = absurd f.0

    part_has_place : (k : ℕ) (ts : Sizes) → Some_occurs L H ts → All_well_formed fields ts → (p : Path) × (part_place fields is_size is_type k ts ≡ Some p)
    part_has_place k no_size o f = absurd (has_parts o)
    part_has_place k (size_and t ts) (in_first o) f = first_place (In_part k) (place fields is_size is_type t) (part_place fields is_size is_type (suc k) ts) (has_place t o f.0)
    part_has_place k (size_and t ts) (in_later o) f = let r = part_has_place (suc k) ts o f.1 in or_found (below (In_part k) (place fields is_size is_type t)) (part_place fields is_size is_type (suc k) ts) r.0 r.1

    field_has_place : (ts : Sizes) (fs : List Text) → Some_occurs L H ts → As_many fs ts → All_well_formed fields ts → (p : Path) × (field_place fields is_size is_type fs ts ≡ Some p)
    field_has_place no_size fs o l f = absurd (has_parts o)
    field_has_place (size_and t ts) [] o l f = absurd l
    field_has_place (size_and t ts) (x ∷ fs) (in_first o) l f = first_place (In_field x) (place fields is_size is_type t) (field_place fields is_size is_type fs ts) (has_place t o f.0)
    field_has_place (size_and t ts) (x ∷ fs) (in_later o) l f = let r = field_has_place ts fs o l f.1 in or_found (below (In_field x) (place fields is_size is_type t)) (field_place fields is_size is_type fs ts) r.0 r.1

module _ (N : Names) (fields : ℕ → List Text) (are : Fields_are N fields) (τ : Meant) (m : Worth) (φ : Frames) where
  -- ---- at its place data has a property, if it has it at the levels and at the type variables
  module _ (P : Shape → Type 0) (is_size : Dim → Bool) (is_type : Variable → Bool) (level_right : (d : Dim) (n : ℕ) (row : Shape) → is_size d ≡ true → n ≡ number m φ d → P (Array_shape n row)) (hole_right : (v : Variable) (h : Shape) → is_type v ≡ true → (τ v).shape h → P h) where
    level_there : (d : Dim) (t : Size) (n : ℕ) (row : Shape) (b : Bool) → is_size d ≡ b → n ≡ number m φ d → (p : Path) → cond b (Some Whole) (below In_rows (place fields is_size is_type t)) ≡ Some p → ((q : Path) → place fields is_size is_type t ≡ Some q → P (at_path q row)) → P (at_path p (Array_shape n row))
    level_there d t n row true q k p e deeper = subst (λ x. P (at_path x (Array_shape n row))) (some_same e) (level_right d n row q k)
    level_there d t n row false q k p e deeper = one_place (place fields is_size is_type t) In_rows p e (λ x y z. subst (λ x. P (at_path x (Array_shape n row))) z (deeper x y))

    hole_there : (v : Variable) (h : Shape) (b : Bool) → is_type v ≡ b → (τ v).shape h → (p : Path) → cond b (Some Whole) None ≡ Some p → P (at_path p h)
    hole_there v h true q k p e = subst (λ x. P (at_path x h)) (some_same e) (hole_right v h q k)
    hole_there v h false q k p e = none_no e

    mutual
      unfolding place part_place field_place Reads All_read Named_read

      pub placed_right : (t : Size) (h : Shape) → Reads N τ m φ t h → (p : Path) → place fields is_size is_type t ≡ Some p → P (at_path p h)
      placed_right (Hole v) h k p e = hole_there v h (is_type v) refl k p e
      placed_right (Open n v u) h k p e = none_no e
      placed_right (Level d t) (Array_shape n row) k p e = level_there d t n row (is_size d) refl k.0 p e (λ q i. placed_right t row k.1 q i)
      placed_right (Level d t) h k p e = absurd k
      placed_right (Built head.Tuple ts) (Tuple_shape hs) k p e = part_right 0 ts hs hs (λ i. ap (λ j. shape_at j hs) (let z : 0 + i ≡ i = omega arith in z)) k p e
      placed_right (Built head.Tuple ts) h k p e = absurd k
      placed_right (Built (head.Record n) ts) (Record_shape hs) k p e = field_right n 0 ts (fields n) hs (are n) k p e
      placed_right (Built (head.Record n) ts) h k p e = absurd k
      placed_right (Built g ts) h k p e = none_no e
      placed_right (Fun c a r) h k p e = none_no e

      part_right : (k : ℕ) (ts : Sizes) (all hs : Shapes) → ((i : ℕ) → shape_at (k + i) all ≡ shape_at i hs) → All_read N τ m φ ts hs → (p : Path) → part_place fields is_size is_type k ts ≡ Some p → P (at_path p (Tuple_shape all))
      part_right k no_size all hs sees r p e = none_no e
      part_right k (size_and t ts) all no_shape sees r p e = absurd r
      part_right k (size_and t ts) all (shape_and h hs) sees r p e = first_or (below (In_part k) (place fields is_size is_type t)) (part_place fields is_size is_type (suc k) ts) p e
          (λ e. one_place (place fields is_size is_type t) (In_part k) p e (λ x y z. subst (λ x. P (at_path x (Tuple_shape all))) z
          (subst (λ g. P (at_path x g)) (sym (ap (λ j. shape_at j all) (let w : k ≡ k + 0 = omega arith in w) ∙ sees 0)) (placed_right t h r.0 x y))))
          (λ e. part_right (suc k) ts all hs (λ i. ap (λ j. shape_at j all) (let w : suc k + i ≡ k + suc i = omega arith in w) ∙ sees (suc i)) r.1 p e)

      field_right : (n i : ℕ) (ts : Sizes) (fs : List Text) (hs : Named_shapes) → Fields_from N n i fs → Named_read N τ m φ n i ts hs → (p : Path) → field_place fields is_size is_type fs ts ≡ Some p → P (at_path p (Record_shape hs))
      field_right n i no_size [] hs b r p e = none_no e
      field_right n i no_size (f ∷ fs) hs b r p e = none_no e
      field_right n i (size_and t ts) [] hs b r p e = none_no e
      field_right n i (size_and t ts) (f ∷ fs) hs b r p e = first_or (below (In_field f) (place fields is_size is_type t)) (field_place fields is_size is_type fs ts) p e
          (λ e. one_place (place fields is_size is_type t) (In_field f) p e (λ x y z. let c = r.0 f b.0 in subst (λ x. P (at_path x (Record_shape hs))) z
          (subst (λ o. P (at_path x (or_unmet o))) (sym c.1) (placed_right t c.0 c.2 x y))))
          (λ e. field_right n (suc i) ts fs hs b.1 r.1 p e)

  -- ---- the shape that is told

  -- fields whose places come before are not among these
  not_among : (n i j : ℕ) (fs : List Text) (hs : Shapes) (f : Text) → Fields_from N n i fs → label_place N.shapes (N.label f) (head.Record n) ≡ Some j → j < i → field_shape f (named_shapes fs hs) ≡ None
  not_among n i j [] hs f b p lt = refl
  not_among n i j (g ∷ fs) no_shape f b p lt = refl
  not_among n i j (g ∷ fs) (shape_and k hs) f b p lt =
      put_else f g k (named_shapes fs hs) (λ e. let z : i ≡ j = some_same (sym b.0 ∙ subst (λ x. label_place N.shapes (N.label x) (head.Record n) ≡ Some j) e p) in omega (arith, z, lt))
      ∙ not_among n (suc i) j fs hs f b.1 p (omega (arith, lt))

  -- the names of what is told of a record are those of its fields
  names_told : (n i : ℕ) (fs : List Text) (ts : Sizes) (sizes : Dim → ℕ) (shapes : Variable → Shape) → Fields_from N n i fs → As_many fs ts → Record_names N n (many ts + i) (shape_names (named_shapes fs (told_shapes fields sizes shapes ts)))
  unfolding told_shapes
  names_told n i [] no_size sizes shapes b l = (tt, tt)
  names_told n i [] (size_and t ts) sizes shapes b l = absurd l
  names_told n i (x ∷ fs) no_size sizes shapes b l = absurd l
  names_told n i (x ∷ fs) (size_and t ts) sizes shapes b l =
      subst (Record_names N n (many (size_and t ts) + i)) (sym (shape_put x (told_shape fields sizes shapes t) (named_shapes fs (told_shapes fields sizes shapes ts))))
      (record_put N n (many (size_and t ts) + i) x (shape_names (named_shapes fs (told_shapes fields sizes shapes ts))) i b.0 (omega arith)
      (absent_shape x (named_shapes fs (told_shapes fields sizes shapes ts)) (not_among n (suc i) i fs (told_shapes fields sizes shapes ts) x b.1 b.0 (omega arith)))
      (subst (λ k. Record_names N n k (shape_names (named_shapes fs (told_shapes fields sizes shapes ts)))) (let z : many ts + suc i ≡ many (size_and t ts) + i = omega arith in z) (names_told n (suc i) fs ts sizes shapes b.1 l)))

  -- parts are told right where each field is found as among the names from here on
  abbrev Sees : ℕ → ℕ → Named_shapes → Named_shapes → Type 0
  Sees n i all these = (f : Text) (j : ℕ) → label_place N.shapes (N.label f) (head.Record n) ≡ Some j → i ≤ j → field_shape f all ≡ field_shape f these

  module _ (named : AreNames N) (sizes : Dim → ℕ) (shapes : Variable → Shape) where
    mutual
      unfolding told_shape told_shapes Has_shape Have_shapes Have_named Formed All_formed Each Each_all Each_hole Each_holes

      pub told_right : (t : Size) → Formed fields t → Each (λ j d. sizes d ≡ number m φ d) 0 t → Each_hole (λ v. (τ v).shape (shapes v)) t → Has_shape N τ m φ t (told_shape fields sizes shapes t)
      told_right (Hole v) f d e = e
      told_right (Open n v u) f d e = absurd f
      told_right (Level x t) f d e = (d.0, told_right t f d.1 e)
      told_right (Built (head.Scalar s) ts) f d e = refl
      told_right (Built head.Tuple ts) f d e = all_told ts f.1 d e
      told_right (Built (head.Record n) ts) f d e = fields_told n 0 ts (fields n) (named_shapes (fields n) (told_shapes fields sizes shapes ts)) (are n) f.0 f.1 d e (λ g j p l. refl) (names_told n 0 (fields n) ts sizes shapes (are n) f.0)
      told_right (Built (head.Abstract n k) ts) f d e = absurd f.0
      told_right (Built head.Array ts) f d e = absurd f.0
      told_right (Built head.Fun ts) f d e = absurd f.0
      told_right (Built (head.Rigid n k) ts) f d e = absurd f.0
      told_right (Fun c p r) f d e = absurd f

      all_told : (ts : Sizes) → All_formed fields ts → Each_all (λ j d. sizes d ≡ number m φ d) 0 ts → Each_holes (λ v. (τ v).shape (shapes v)) ts → Have_shapes N τ m φ ts (told_shapes fields sizes shapes ts)
      all_told no_size f d e = tt
      all_told (size_and t ts) f d e = (told_right t f.0 d.0 e.0, all_told ts f.1 d.1 e.1)

      fields_told : (n i : ℕ) (ts : Sizes) (fs : List Text) (all : Named_shapes) → Fields_from N n i fs → As_many fs ts → All_formed fields ts → Each_all (λ j d. sizes d ≡ number m φ d) 0 ts → Each_holes (λ v. (τ v).shape (shapes v)) ts
          → Sees n i all (named_shapes fs (told_shapes fields sizes shapes ts)) → Record_names N n (many ts + i) (shape_names all) → Have_named N τ m φ n i ts all
      fields_told n i no_size fs all b l f d e sees names = subst (λ k. Record_names N n k (shape_names all)) (let z : many no_size + i ≡ i = omega arith in z) names
      fields_told n i (size_and t ts) [] all b l f d e sees names = absurd l
      fields_told n i (size_and t ts) (x ∷ fs) all b l f d e sees names = (
        λ g p. (told_shape fields sizes shapes t, sees g i p (omega arith) ∙ here g p (told_shapes fields sizes shapes ts), told_right t f.0 d.0 e.0),
        fields_told n (suc i) ts fs all b.1 l f.1 d.1 e.1 (λ g j p lt. sees g j p (omega (arith, lt)) ∙ put_else g x (told_shape fields sizes shapes t) (named_shapes fs (told_shapes fields sizes shapes ts)) (other g j p lt)) (subst (λ k. Record_names N n k (shape_names all)) (let z : many (size_and t ts) + i ≡ many ts + suc i = omega arith in z) names),
      )
        where
          other : (g : Text) (j : ℕ) → label_place N.shapes (N.label g) (head.Record n) ≡ Some j → suc i ≤ j → g ≡ x → ⊥
          other g j p lt q = let z : i ≡ j = some_same (sym b.0 ∙ subst (λ y. label_place N.shapes (N.label y) (head.Record n) ≡ Some j) q p) in omega (arith, z, lt)

          here : (g : Text) → label_place N.shapes (N.label g) (head.Record n) ≡ Some i → (hs : Shapes) → field_shape g (with_named x (told_shape fields sizes shapes t) (named_shapes fs hs)) ≡ Some (told_shape fields sizes shapes t)
          here g p hs = subst (λ y. field_shape y (with_named x (told_shape fields sizes shapes t) (named_shapes fs hs)) ≡ Some (told_shape fields sizes shapes t)) (sym (same_text N named n i g x p b.0))
              (put_here x (told_shape fields sizes shapes t) (named_shapes fs hs) (not_among n (suc i) i fs hs x b.1 b.0 (omega arith)))

-- ---- sizes and type variables

free_same : (d e : Free) → is_free d e ≡ true → d ≡ e
unfolding is_free
free_same (Const c) (Const d) q = ap Const (eqb-true c d q)
free_same (Name b) (Name c) q = ap Name (eqb-true b c q)
free_same (Own n i) (Own k j) q = two (nat_eq n k) refl q
  where
    two : (b : Bool) → nat_eq n k ≡ b → cond b (nat_eq i j) false ≡ true → Own n i ≡ Own k j
    two true e q = ap (λ z. Own z i) (eqb-true n k e) ∙ ap (Own k) (eqb-true i j q)
    two false e q = absurd (let z : false ≡ true = q in cc)
free_same (Unknown n i) (Unknown k j) q = two (nat_eq n k) refl q
  where
    two : (b : Bool) → nat_eq n k ≡ b → cond b (nat_eq i j) false ≡ true → Unknown n i ≡ Unknown k j
    two true e q = ap (λ z. Unknown z i) (eqb-true n k e) ∙ ap (Unknown k) (eqb-true i j q)
    two false e q = absurd (let z : false ≡ true = q in cc)
free_same (Slot i) (Slot j) q = ap Slot (eqb-true i j q)
free_same d e q = absurd (let z : false ≡ true = q in cc)

pub dim_same : (d e : Dim) → is_dim d e ≡ true → d ≡ e
unfolding is_dim
dim_same (At d) (At e) q = ap At (free_same d e q)
dim_same (Bound j i) (Bound k l) q = two (nat_eq j k) refl q
  where
    two : (b : Bool) → nat_eq j k ≡ b → cond b (nat_eq i l) false ≡ true → Bound j i ≡ Bound k l
    two true e q = ap (λ z. Bound z i) (eqb-true j k e) ∙ ap (Bound k) (eqb-true i l q)
    two false e q = absurd (let z : false ≡ true = q in cc)
dim_same d e q = absurd (let z : false ≡ true = q in cc)

-- the kinds of exact shapes
pub exact_kinds : (τ : Variable → Shape) → One_shape_each τ → One_kind_each (exactly τ)
exact_kinds τ one v w q h k = k ∙ one v w q

variable_back : (v w : Variable) → is_variable v w ≡ true → is_variable w v ≡ true
variable_back (Inferred v) (Inferred w) q = ap (λ z. nat_eq z v) (sym (eqb-true v w q)) ∙ eq-eqb v v refl
variable_back (Written b k) (Written c l) q = ap (λ z. nat_eq z b) (sym (eqb-true b c q)) ∙ eq-eqb b b refl
variable_back v w q = absurd (let z : false ≡ true = q in cc)

pub either : (a b : Bool) → a || b ≡ true → (a ≡ true) ⊎ (b ≡ true)
either true b e = inl refl
either false b e = inr e

level_occurs : {L : Dim → Type 0} {H : Variable → Type 0} {d : Dim} {t : Size} {A : Type 0} → L d ⊎ A → (A → Occurs L H t) → Occurs L H (Level d t)
level_occurs (inl q) rest = at_level_of q
level_occurs (inr q) rest = in_rows (rest q)

part_occurs : {L : Dim → Type 0} {H : Variable → Type 0} {t : Size} {ts : Sizes} {A B : Type 0} → A ⊎ B → (A → Occurs L H t) → (B → Some_occurs L H ts) → Some_occurs L H (size_and t ts)
part_occurs (inl q) first later = in_first (first q)
part_occurs (inr q) first later = in_later (later q)

module _ (x : Free) where
  mutual
    unfolding stands some_stands

    stands_occurs : (t : Size) → stands t x ≡ true → Occurs (λ d. is_dim d (At x) ≡ true) (λ v. ⊥) t
    stands_occurs (Hole v) e = absurd (let z : false ≡ true = e in cc)
    stands_occurs (Open n v u) e = absurd (let z : false ≡ true = e in cc)
    stands_occurs (Level d t) e = level_occurs (either (is_dim d (At x)) (stands t x) e) (λ q. stands_occurs t q)
    stands_occurs (Built h ts) e = in_parts (some_stands_occur ts e)
    stands_occurs (Fun k p r) e = absurd (let z : false ≡ true = e in cc)

    some_stands_occur : (ts : Sizes) → some_stands ts x ≡ true → Some_occurs (λ d. is_dim d (At x) ≡ true) (λ v. ⊥) ts
    some_stands_occur no_size e = absurd (let z : false ≡ true = e in cc)
    some_stands_occur (size_and t ts) e = part_occurs (either (stands t x) (some_stands ts x) e) (λ q. stands_occurs t q) (λ q. some_stands_occur ts q)

module _ (v : Variable) where
  mutual
    unfolding has_hole some_hole

    hole_occurs : (t : Size) → has_hole t v ≡ true → Occurs (λ d. ⊥) (λ w. is_variable v w ≡ true) t
    hole_occurs (Hole w) e = at_hole_of e
    hole_occurs (Open n w u) e = absurd (let z : false ≡ true = e in cc)
    hole_occurs (Level d t) e = in_rows (hole_occurs t e)
    hole_occurs (Built h ts) e = in_parts (some_hole_occurs ts e)
    hole_occurs (Fun k p r) e = absurd (let z : false ≡ true = e in cc)

    some_hole_occurs : (ts : Sizes) → some_hole ts v ≡ true → Some_occurs (λ d. ⊥) (λ w. is_variable v w ≡ true) ts
    some_hole_occurs no_size e = absurd (let z : false ≡ true = e in cc)
    some_hole_occurs (size_and t ts) e = part_occurs (either (has_hole t v) (some_hole ts v) e) (λ q. hole_occurs t q) (λ q. some_hole_occurs ts q)

-- a size that has a place stands in the type
module _ (fields : ℕ → List Text) (In : Free → Type 0) (x : Free) where
  level_scoped : (j : ℕ) (d : Dim) (o : Option Path) (p : Path) (b : Bool) → is_dim d (At x) ≡ b → Scoped In j d → cond b (Some Whole) (below In_rows o) ≡ Some p → ((q : Path) → o ≡ Some q → In x) → In x
  level_scoped j d o p true q a e deeper = subst (λ y. Scoped In j y) (dim_same d (At x) q) a
  level_scoped j d o p false q a e deeper = one_place o In_rows p e (λ y z w. deeper y z)

  mutual
    unfolding place part_place field_place Each Each_all

    pub size_scoped : (j : ℕ) (t : Size) → Each (Scoped In) j t → (p : Path) → size_place fields (At x) t ≡ Some p → In x
    size_scoped j (Hole v) a p e = none_no e
    size_scoped j (Open k v u) a p e = none_no e
    size_scoped j (Level d t) a p e = level_scoped j d (size_place fields (At x) t) p (is_dim d (At x)) refl a.0 e (λ q i. size_scoped j t a.1 q i)
    size_scoped j (Built head.Tuple ts) a p e = part_scoped j 0 ts a p e
    size_scoped j (Built (head.Record k) ts) a p e = field_scoped j (fields k) ts a p e
    size_scoped j (Built g ts) a p e = none_no e
    size_scoped j (Fun c q r) a p e = none_no e

    part_scoped : (j k : ℕ) (ts : Sizes) → Each_all (Scoped In) j ts → (p : Path) → part_place fields (λ d. is_dim d (At x)) (λ v. false) k ts ≡ Some p → In x
    part_scoped j k no_size a p e = none_no e
    part_scoped j k (size_and t ts) a p e = first_or (below (In_part k) (size_place fields (At x) t)) (part_place fields (λ d. is_dim d (At x)) (λ v. false) (suc k) ts) p e
        (λ e. one_place (size_place fields (At x) t) (In_part k) p e (λ y z w. size_scoped j t a.0 y z)) (λ e. part_scoped j (suc k) ts a.1 p e)

    field_scoped : (j : ℕ) (fs : List Text) (ts : Sizes) → Each_all (Scoped In) j ts → (p : Path) → field_place fields (λ d. is_dim d (At x)) (λ v. false) fs ts ≡ Some p → In x
    field_scoped j [] no_size a p e = none_no e
    field_scoped j (f ∷ fs) no_size a p e = none_no e
    field_scoped j [] (size_and t ts) a p e = none_no e
    field_scoped j (f ∷ fs) (size_and t ts) a p e = first_or (below (In_field f) (size_place fields (At x) t)) (field_place fields (λ d. is_dim d (At x)) (λ v. false) fs ts) p e
        (λ e. one_place (size_place fields (At x) t) (In_field f) p e (λ y z w. size_scoped j t a.0 y z)) (λ e. field_scoped j fs ts a.1 p e)

module _ (N : Names) (fields : ℕ → List Text) (τ : Meant) (m : Worth) (φ : Frames) (are : Fields_are N fields) where
  -- a size is worth what stands at its place, and a type variable stands for it
  pub size_right : (x : Dim) (t : Size) (h : Shape) → Reads N τ m φ t h → (p : Path) → size_place fields x t ≡ Some p → size_of (at_path p h) ≡ number m φ x
  size_right x t h k p e = placed_right N fields are τ m φ (λ g. size_of g ≡ number m φ x) (λ d. is_dim d x) (λ v. false) (λ d n row q r. r ∙ ap (number m φ) (dim_same d x q)) (λ v g q r. absurd (let z : false ≡ true = q in cc)) t h k p e

  pub type_right : One_kind_each τ → (v : Variable) (t : Size) (h : Shape) → Reads N τ m φ t h → (p : Path) → type_place fields v t ≡ Some p → (τ v).shape (at_path p h)
  type_right one v t h k p e = placed_right N fields are τ m φ (λ g. (τ v).shape g) (λ d. false) (λ w. is_variable w v) (λ d n row q r. absurd (let z : false ≡ true = q in cc)) (λ w g q r. one w v q g r) t h k p e

module _ (fields : ℕ → List Text) where
  -- and what stands in the type has a place
  pub size_placed : (d : Free) (t : Size) → Well_formed fields t → stands t d ≡ true → (p : Path) × (size_place fields (At d) t ≡ Some p)
  size_placed d t f e = has_place fields (λ x. is_dim x (At d)) (λ v. false) (λ x. is_dim x (At d) ≡ true) (λ v. ⊥) (λ x q. q) (λ v q. absurd q) t (stands_occurs d t e) f

  pub type_placed : (v : Variable) (t : Size) → Well_formed fields t → has_hole t v ≡ true → (p : Path) × (type_place fields v t ≡ Some p)
  type_placed v t f e = has_place fields (λ d. false) (λ w. is_variable w v) (λ d. ⊥) (λ w. is_variable v w ≡ true) (λ d q. absurd q) (λ w q. variable_back v w q) t (hole_occurs v t e) f

pub found_is_right : FoundIsRight
found_is_right N fields τ m φ t h are k = ((λ x p e. size_right N fields (exactly τ) m φ are x t h k p e), (λ one v p e. type_right N fields (exactly τ) m φ are (exact_kinds τ one) v t h k p e))

pub standing_is_found : StandingIsFound
standing_is_found fields t f = ((λ d e. size_placed fields d t (well_formed fields t f) e), (λ v e. type_placed fields v t (well_formed fields t f) e))

pub told_is_right : ToldIsRight
told_is_right N named fields τ m φ sizes shapes t are f d e = told_right N fields are (exactly τ) m φ named sizes shapes t f d e
