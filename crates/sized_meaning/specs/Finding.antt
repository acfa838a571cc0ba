-- What shapes fix of sizes and of type variables, and the shape that data of a sized type is told to have.
use Rattle.std.specs.Prelude.{◌≡◌, ℕ, suc, true, List, [], ◌∷◌, Some}
use Rattle.fut_ast.specs.Sorts.{Text}
use Rattle.fut_types.specs.declared.Head.{Head}
use Rattle.fut_types.specs.declared.Head.TheVariants as head
use Rattle.fut_types.specs.Shapes.{place}
use Rattle.fut_typing.specs.Names.{Names, AreNames}
use Rattle.fut_value.specs.Data.{Shape, Shapes, Named_shapes}
use Rattle.fut_meaning.specs.Found.{told_shape}
use Rattle.fut_meaning.specs.Places.{Path, size_place, type_place, size_of, at_path, field_shape}
use Rattle.sized_types.specs.Sizes.{Free, Dim, At, Variable, is_variable, Size, Hole, Open, Level, Built, Fun, Sizes, no_size, size_and}
use Rattle.sized_types.specs.Standing.{stands, has_hole}
use Rattle.fut_sizes.specs.Rules.{Each_hole}
use Rattle.fut_sizes.specs.Suiting.{Each}
use Rattle.sized_meaning.specs.Worth.{Worth, Frames, number}
use Rattle.sized_meaning.specs.Shapes.{Meant, exactly, On_array_shape, On_tuple_shape, On_record_shape, First_shape, Has_shape}

-- the names of a record's fields are in the order of its parts, from a part on
abbrev pub Fields_from : Names → ℕ → ℕ → List Text → Type 0
Fields_from N n i [] = Unit {0}
Fields_from N n i (f ∷ fs) = (place N.shapes (N.label f) (head.Record n) ≡ Some i) × Fields_from N n (suc i) fs

abbrev pub Fields_are : Names → (ℕ → List Text) → Type 0
Fields_are N fields = (n : ℕ) → Fields_from N n 0 (fields n)

-- type variables of one number stand for one shape
abbrev pub One_shape_each : (Variable → Shape) → Type 0
One_shape_each τ = (v w : Variable) → is_variable v w ≡ true → τ v ≡ τ w

-- and for data of the same shapes
abbrev pub One_kind_each : Meant → Type 0
One_kind_each τ = (v w : Variable) → is_variable v w ≡ true → (h : Shape) → (τ v).shape h → (τ w).shape h

-- ---- data whose values have a form: a record has a part for each field, a scalar has none, and a type of its own has no values

abbrev pub As_many : List Text → Sizes → Type 0
As_many [] no_size = Unit {0}
As_many [] (size_and t ts) = ⊥
As_many (f ∷ fs) no_size = ⊥
As_many (f ∷ fs) (size_and t ts) = As_many fs ts

abbrev pub Parts_of : (ℕ → List Text) → Head → Sizes → Type 0
Parts_of fields (head.Scalar s) ts = As_many [] ts
Parts_of fields head.Tuple ts = Unit {0}
Parts_of fields (head.Record n) ts = As_many (fields n) ts
Parts_of fields (head.Abstract n d) ts = ⊥
Parts_of fields head.Array ts = ⊥
Parts_of fields head.Fun ts = ⊥
Parts_of fields (head.Rigid n k) ts = ⊥

unfoldable mutual
  pub Formed : (ℕ → List Text) → Size → Type 0
  Formed fields (Hole v) = Unit {0}
  Formed fields (Open n v u) = ⊥
  Formed fields (Level d t) = Formed fields t
  Formed fields (Built k ts) = Parts_of fields k ts × All_formed fields ts
  Formed fields (Fun k p r) = ⊥

  pub All_formed : (ℕ → List Text) → Sizes → Type 0
  All_formed fields no_size = Unit {0}
  All_formed fields (size_and t ts) = Formed fields t × All_formed fields ts

-- the same of its parts that are data
unfoldable mutual
  pub Well_formed : (ℕ → List Text) → Size → Type 0
  Well_formed fields (Hole v) = Unit {0}
  Well_formed fields (Open n v u) = Unit {0}
  Well_formed fields (Level d t) = Well_formed fields t
  Well_formed fields (Built k ts) = Parts_of fields k ts × All_well_formed fields ts
  Well_formed fields (Fun k p r) = Well_formed fields p × Well_formed fields r

  pub All_well_formed : (ℕ → List Text) → Sizes → Type 0
  All_well_formed fields no_size = Unit {0}
  All_well_formed fields (size_and t ts) = Well_formed fields t × All_well_formed fields ts

-- ---- what shapes say, also of values with functions in them, of which nothing is said

abbrev pub Read_head : Head → (Shapes → Type 0) → (ℕ → Named_shapes → Type 0) → Shape → Type 0
Read_head head.Tuple P Q h = On_tuple_shape P h
Read_head (head.Record n) P Q h = On_record_shape (Q n) h
Read_head k P Q h = Unit {0}

module _ (N : Names) (τ : Meant) where
  unfoldable mutual
    pub Reads : Worth → Frames → Size → Shape → Type 0
    Reads m φ (Hole v) h = (τ v).shape h
    Reads m φ (Open n v u) h = Unit {0}
    Reads m φ (Level d t) h = On_array_shape (λ n row. (n ≡ number m φ d) × Reads m φ t row) h
    Reads m φ (Built k ts) h = Read_head k (All_read m φ ts) (λ n. Named_read m φ n 0 ts) h
    Reads m φ (Fun k p r) h = Unit {0}

    pub All_read : Worth → Frames → Sizes → Shapes → Type 0
    All_read m φ no_size hs = Unit {0}
    All_read m φ (size_and t ts) hs = First_shape (Reads m φ t) (All_read m φ ts) hs

    pub Named_read : Worth → Frames → ℕ → ℕ → Sizes → Named_shapes → Type 0
    Named_read m φ n i no_size hs = Unit {0}
    Named_read m φ n i (size_and t ts) hs = ((f : Text) → place N.shapes (N.label f) (head.Record n) ≡ Some i → (h : Shape) × (field_shape f hs ≡ Some h) × Reads m φ t h) × Named_read m φ n (suc i) ts hs

-- ---- what is found

-- at the place of a size the shape of a value says what it is worth there, and at that of a type variable what it stands for
abbrev pub FoundIsRight : Type 0
FoundIsRight = (N : Names) (fields : ℕ → List Text) (τ : Variable → Shape) (m : Worth) (φ : Frames) (t : Size) (h : Shape) → Fields_are N fields → Reads N (exactly τ) m φ t h
    → ((x : Dim) (p : Path) → size_place fields x t ≡ Some p → size_of (at_path p h) ≡ number m φ x) × (One_shape_each τ → (v : Variable) (p : Path) → type_place fields v t ≡ Some p → at_path p h ≡ τ v)

-- and what stands in the type of data has a place there
abbrev pub StandingIsFound : Type 0
StandingIsFound = (fields : ℕ → List Text) (t : Size) → Formed fields t
    → ((d : Free) → stands t d ≡ true → (p : Path) × (size_place fields (At d) t ≡ Some p)) × ((v : Variable) → has_hole t v ≡ true → (p : Path) × (type_place fields v t ≡ Some p))

-- where the numbers of sizes and the shapes of type variables are right, so is the shape that is told of data
abbrev pub ToldIsRight : Type 0
ToldIsRight = (N : Names) → AreNames N → (fields : ℕ → List Text) (τ : Variable → Shape) (m : Worth) (φ : Frames) (sizes : Dim → ℕ) (shapes : Variable → Shape) (t : Size) → Fields_are N fields → Formed fields t
    → Each (λ j d. sizes d ≡ number m φ d) 0 t → Each_hole (λ v. shapes v ≡ τ v) t → Has_shape N (exactly τ) m φ t (told_shape fields sizes shapes t)
