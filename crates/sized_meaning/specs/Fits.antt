-- Which values are of a sized type. A function is of one where, whatever sizes its caller chooses, it takes each value of its
-- parameter's type to values of its result's, for some sizes that are met when it runs, and reports no sizes but at some places; and
-- what it tells of its results is right.
use Rattle.std.specs.Prelude.{◌≡◌, ℕ, zero, suc, ◌<◌, ◌≤◌, Bool, true, List, [], ◌∷◌, Some}
use Rattle.fut_arithmetic.specs.Types.{type_of}
use Rattle.fut_ast.specs.Sorts.{Text}
use Rattle.fut_scalar.specs.Integers.{integer_of}
use Rattle.fut_scalar.specs.declared.place.Place.{Place}
use Rattle.fut_scalar.specs.declared.report.Report.{Report}
use Rattle.fut_scalar.specs.declared.scalar.Scalar.{Scalar}
use Rattle.fut_scalar.specs.declared.scalar.Scalar.TheVariants as scalar
use Rattle.fut_scalar.specs.declared.scalar.ScalarType.{ScalarType}
use Rattle.fut_types.specs.declared.Head.{Head}
use Rattle.fut_types.specs.declared.Head.TheVariants as head
use Rattle.fut_types.specs.Shapes.{place}
use Rattle.fut_typing.specs.Names.{Names}
use Rattle.fut_value.specs.Data.{Shape, Datum}
use Rattle.fut_meaning.specs.Accessors.{count_of}
use Rattle.fut_meaning.specs.Datums.{datum_of}
use Rattle.fut_meaning.specs.Flats.{FlatValue}
use Rattle.fut_meaning.specs.Found.{Sizing}
use Rattle.fut_meaning.specs.Telling.{is_function, tells}
use Rattle.fut_meaning.specs.Outcomes.{Out, Val, Fail, Wrong, Rel}
use Rattle.fut_meaning.specs.Values.{Scalar_value, Tuple_value, Record_value, Values, no_value, value_and, Fields, no_field, field_and, field}
use Rattle.fut_flat.specs.declared.prim.Ref.{Ref}
use Rattle.fut_scalar.specs.declared.place.BindId.{BindId}
use Rattle.sized_types.specs.Sizes.{Free, Dim, At, Bound, Size, Hole, Open, Level, Built, Fun, Sizes, no_size, size_and}
use Rattle.fut_sizes.specs.Suiting.{Each, Data}
use Rattle.fut_sizes.specs.Rules.{Any_free}
use Rattle.sized_meaning.specs.Worth.{Worth, Frames, push}
use Rattle.sized_meaning.specs.There.{There}
use Rattle.sized_meaning.specs.Shapes.{Meant, Record_names, Has_shape, Has_datum}

abbrev pub FlatValues : Type 0
FlatValues = Values Ref BindId (Unit {0})

abbrev pub FlatFields : Type 0
FlatFields = Fields Ref BindId (Unit {0})

-- each value that is given has the property, and each report has one too
abbrev pub Out_fits : (Report → Type 0) → {A : Type 0} → (A → Type 0) → Out A → Type 0
Out_fits quiet P (Val v) = P v
Out_fits quiet P (Fail r) = quiet r
Out_fits quiet P Wrong = Unit {0}

abbrev pub Gives : (Report → Type 0) → {A : Type 0} → (A → Type 0) → Rel A → Type 0
Gives quiet {A} P m = (o : Out A) (f : ℕ) → m o f → Out_fits quiet P o

-- the number of rows that a value says as a size: an integer below 0 says none
abbrev pub word_of : Scalar → ℕ
word_of (scalar.Int t n) = count_of (integer_of t n)
word_of (scalar.Bool b) = 0

unfoldable pub word : FlatValue → ℕ
word (Scalar_value s) = word_of s
word v = 0

-- data with a property
pub record Is_data (P : Datum → Type 0) (v : FlatValue) : Type 0 where
  pub datum : Datum
  pub is_datum : datum_of v ≡ Val datum
  pub fits : P datum

abbrev pub Is_scalar : ScalarType → FlatValue → Type 0
Is_scalar s (Scalar_value c) = type_of c ≡ s
Is_scalar s v = ⊥

abbrev pub On_tuple : (FlatValues → Type 0) → FlatValue → Type 0
On_tuple P (Tuple_value vs) = P vs
On_tuple P v = ⊥

abbrev pub On_record : (FlatFields → Type 0) → FlatValue → Type 0
On_record P (Record_value fs) = P fs
On_record P v = ⊥

abbrev pub No_value : FlatValues → Type 0
No_value no_value = Unit {0}
No_value (value_and v vs) = ⊥

abbrev pub First_value : (FlatValue → Type 0) → (FlatValues → Type 0) → FlatValues → Type 0
First_value P Q no_value = ⊥
First_value P Q (value_and v vs) = P v × Q vs

abbrev pub field_names : FlatFields → List Text
field_names no_field = []
field_names (field_and f v fs) = f ∷ field_names fs

-- by what a type is made of; a type of its own has no values
abbrev pub Of_head : Head → (FlatValues → Type 0) → (ℕ → FlatFields → Type 0) → FlatValue → Type 0
Of_head (head.Scalar s) P Q v = Is_scalar s v
Of_head head.Tuple P Q v = On_tuple P v
Of_head (head.Record n) P Q v = On_record (Q n) v
Of_head (head.Abstract n d) P Q v = ⊥
Of_head head.Array P Q v = ⊥
Of_head head.Fun P Q v = ⊥
Of_head (head.Rigid n k) P Q v = ⊥

-- ---- what a function tells without running

-- of the frames of the functions around, the nearest first, only what their callers choose, as many sizes as are given; of those
-- further out anything
unfoldable pub Chosen_in : List ℕ → ℕ → ℕ → Type 0
Chosen_in [] j i = Unit {0}
Chosen_in (k ∷ ks) zero i = i < k
Chosen_in (k ∷ ks) (suc j) i = Chosen_in ks j i

-- a size that is known before those functions run: of these by itself, or chosen by a caller
abbrev pub Known_size : (Free → Type 0) → List ℕ → Dim → Type 0
Known_size In ks (At d) = In d
Known_size In ks (Bound j i) = Chosen_in ks j i

abbrev pub Known_data : (Free → Type 0) → List ℕ → Size → Type 0
Known_data In ks t = Data t × Each (λ j d. Known_size In ks d) 0 t

-- data without arrays and type variables: its shape is one, whatever sizes are worth
unfoldable mutual
  pub Flat : Size → Type 0
  Flat (Hole v) = ⊥
  Flat (Open n v u) = ⊥
  Flat (Level d t) = ⊥
  Flat (Built h ts) = All_flat ts
  Flat (Fun k p r) = ⊥

  pub All_flat : Sizes → Type 0
  All_flat no_size = Unit {0}
  All_flat (size_and t ts) = Flat t × All_flat ts

-- what a function gives once it has all its arguments
unfoldable pub Flat_result : Size → Type 0
Flat_result (Hole v) = Flat (Hole v)
Flat_result (Open n v u) = Flat (Open n v u)
Flat_result (Level d t) = Flat (Level d t)
Flat_result (Built h ts) = Flat (Built h ts)
Flat_result (Fun k p r) = Flat_result r

-- what a function gives is such data; where it wants more arguments, these are too, and it gives no arrays in the end
unfoldable pub Known_result : (Free → Type 0) → List ℕ → Size → Type 0
Known_result In ks (Hole v) = Known_data In ks (Hole v)
Known_result In ks (Open n v u) = Known_data In ks (Open n v u)
Known_result In ks (Level d t) = Known_data In ks (Level d t)
Known_result In ks (Built h ts) = Known_data In ks (Built h ts)
Known_result In ks (Fun k p r) = Known_data In (k ∷ ks) p × Known_result In (k ∷ ks) r × Flat_result r

-- for arguments of these shapes it is told to be of a shape of the type
module _ (N : Names) (τ : Meant) where
  unfoldable pub Told_right : Worth → Frames → Size → (List Shape → Shape) → Type 0
  Told_right m φ (Hole v) tell = Has_shape N τ m φ (Hole v) (tell [])
  Told_right m φ (Open n v u) tell = Has_shape N τ m φ (Open n v u) (tell [])
  Told_right m φ (Level d t) tell = Has_shape N τ m φ (Level d t) (tell [])
  Told_right m φ (Built h ts) tell = Has_shape N τ m φ (Built h ts) (tell [])
  Told_right m φ (Fun k p r) tell = (F : ℕ → ℕ) (h : Shape) → Has_shape N τ m (push F φ) p h → Told_right m (push F φ) r (λ hs. tell (h ∷ hs))

-- it is a function, and what it tells of its results is right, where they name nothing that is met
abbrev pub Tells_right : Names → Meant → Sizing → Worth → Frames → ℕ → Size → Size → FlatValue → Type 0
Tells_right N τ Z m φ k p r f = (is_function f ≡ true) × (Known_result Any_free (k ∷ []) r → (F : ℕ → ℕ) (h : Shape) → Has_shape N τ m (push F φ) p h → Told_right N τ m (push F φ) r (λ hs. tells Z f (h ∷ hs)))

-- where a function called with a value means this, sizes are reported at these places, a sizing tells this, and type variables stand
-- for these data
module _ (N : Names) (τ : Meant) (Z : Sizing) (is_there : Place → Bool) (calls : FlatValue → FlatValue → Rel FlatValue) where
  unfoldable mutual
    pub Fits : Worth → Frames → Size → FlatValue → Type 0
    Fits m φ (Hole v) w = Is_data (Has_datum N τ m φ (Hole v)) w
    Fits m φ (Open n v u) w = ⊥
    Fits m φ (Level d t) w = Is_data (Has_datum N τ m φ (Level d t)) w
    Fits m φ (Built h ts) w = Of_head h (All_fit m φ ts) (λ n. Named_fit m φ n 0 ts) w
    Fits m φ (Fun k p r) f = Tells_right N τ Z m φ k p r f × ((F : ℕ → ℕ) (v : FlatValue) → F k ≡ word v → Fits m (push F φ) p v
        → Gives (There is_there) (λ w. (F' : ℕ → ℕ) × ((i : ℕ) → i ≤ k → F' i ≡ F i) × Fits m (push F' φ) r w) (calls f v))

    pub All_fit : Worth → Frames → Sizes → FlatValues → Type 0
    All_fit m φ no_size vs = No_value vs
    All_fit m φ (size_and t ts) vs = First_value (Fits m φ t) (All_fit m φ ts) vs

    -- the record with this number has its fields, from a part on, and no others
    pub Named_fit : Worth → Frames → ℕ → ℕ → Sizes → FlatFields → Type 0
    Named_fit m φ n i no_size fs = Record_names N n i (field_names fs)
    Named_fit m φ n i (size_and t ts) fs = ((f : Text) → place N.shapes (N.label f) (head.Record n) ≡ Some i → (v : FlatValue) × (field f fs ≡ Some v) × Fits m φ t v) × Named_fit m φ n (suc i) ts fs
