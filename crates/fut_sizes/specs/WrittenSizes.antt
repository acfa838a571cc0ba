-- Sizes that a program writes (Futhark Language Reference, "Size Types", "Size Coercion"): an ascription and a declared
-- result must agree with them, a coercion takes them. A size that is not written agrees with all.
use Rattle.std.specs.Prelude.{ℕ, Bool, true, false, zero, suc, ◌+◌, cond, nat_eq, nat_lt, List, ◌∷◌, Option, Some, None, Ok}
use Rattle.fut_ast.specs.Sorts.{Text}
use Rattle.fut_scalar.specs.declared.place.BindId.{BindId}
use Rattle.fut_flat.specs.declared.prim.Ref.{Ref}
use Rattle.fut_flat.specs.declared.prim.Ref.TheVariants as ref
use Rattle.fut_flat.specs.Terms.{Size_term, Size_use, Size_const, Size_blank, Array_type, Unique_type, Arrow_type, Tuple_type, Record_type, Type_terms, type_and}
use Rattle.fut_flat.specs.Erased.{FlatType}
use Rattle.fut_types.specs.Shapes.{place}
use Rattle.fut_typing.specs.Names.{Names}
use Rattle.sized_types.specs.Sizes.{Free, Const, Name, Own, Unknown, Dim, At, Bound, Size, Level, Built, Fun, Sizes, no_size, size_and, levels, opened, bound}
use Rattle.fut_sizes.specs.Agreeing.{Answer, then_do, compare}

-- ---- parts by their places

abbrev pub part : Option ℕ → Sizes → Option Size
part None ts = None
part (Some i) no_size = None
part (Some zero) (size_and t ts) = Some t
part (Some (suc i)) (size_and t ts) = part (Some i) ts

abbrev pub with_part : Option ℕ → (Size → Size) → Sizes → Sizes
with_part None change ts = ts
with_part (Some i) change no_size = no_size
with_part (Some zero) change (size_and t ts) = size_and (change t) ts
with_part (Some (suc i)) change (size_and t ts) = size_and t (with_part (Some i) change ts)

-- the part of a tuple or a record that a name names
unfoldable pub part_of : Names → Text → Size → Option Size
part_of N f (Built h ts) = part (place N.shapes (N.label f) h) ts
part_of N f t = None

-- a tuple or a record with that part changed
unfoldable pub changed_part : Names → Text → (Size → Size) → Size → Size
changed_part N f change (Built h ts) = Built h (with_part (place N.shapes (N.label f) h) change ts)
changed_part N f change t = t

-- ---- one size

-- the size that is written, if one is
abbrev pub written_dim : Size_term Ref BindId → Option Dim
written_dim (Size_use (ref.Bound b)) = Some (At (Name b.0))
written_dim (Size_use r) = None
written_dim (Size_const c) = Some (At (Const c))
written_dim (Size_blank b) = None

abbrev pub has_written : ℕ → Option Dim → Dim → Answer (Unit {0})
has_written at (Some d) e = compare at d e
has_written at None e = Ok tt

abbrev pub dim_or : Option Dim → Dim → Dim
dim_or (Some d) e = d
dim_or None e = e

-- ---- inside a function type: a parameter's name is the argument's value; a size that the caller chooses agrees with itself
-- alone, and so does one that is met

abbrev pub argument_value : ℕ → ℕ → Option BindId → Free
argument_value at k (Some b) = Name b.0
argument_value at k None = Own at k

abbrev pub inside : ℕ → ℕ → Option BindId → ℕ → Free
inside at k b i = cond (nat_eq i k) (argument_value at k b) (cond (nat_lt i k) (Own at i) (Unknown at i))

-- a parameter's name has the position of the argument's value
abbrev pub argument_place : ℕ → Option BindId → Free → Option ℕ
argument_place k (Some b) (Name c) = cond (nat_eq b.0 c) (Some k) None
argument_place k b d = None

abbrev pub same_dim : ℕ → Dim → Dim
same_dim i d = d

-- how many levels a part has, if it is there
abbrev pub levels_there : Option Size → ℕ
levels_there (Some t) = levels t
levels_there None = 0

-- ---- what is found at a node has the sizes that are written, everywhere or inside function types alone

abbrev pub if_there : Option Size → (Size → Answer (Unit {0})) → Answer (Unit {0})
if_there (Some t) test = test t
if_there None test = Ok tt

module _ (N : Names) where
  unfoldable mutual
    pub has_sizes : Bool → ℕ → FlatType → Size → Answer (Unit {0})
    has_sizes everywhere at (Array_type s e) (Level d t) = then_do (cond everywhere (has_written at (written_dim s) d) (Ok tt)) (λ z. has_sizes everywhere at e t)
    has_sizes everywhere at (Unique_type e) t = has_sizes everywhere at e t
    has_sizes everywhere at (Arrow_type b from to) (Fun k p r) = then_do (has_sizes true at from (opened (inside at k b) p)) (λ z. has_sizes true at to (opened (inside at k b) r))
    has_sizes everywhere at (Tuple_type es) (Built h ts) = all_have_sizes everywhere at es ts
    has_sizes everywhere at (Record_type fs es) t = fields_have_sizes everywhere at fs es t
    has_sizes everywhere at e t = Ok tt

    pub all_have_sizes : Bool → ℕ → Type_terms Ref BindId → Sizes → Answer (Unit {0})
    all_have_sizes everywhere at (type_and e es) (size_and t ts) = then_do (has_sizes everywhere at e t) (λ z. all_have_sizes everywhere at es ts)
    all_have_sizes everywhere at es ts = Ok tt

    pub fields_have_sizes : Bool → ℕ → List Text → Type_terms Ref BindId → Size → Answer (Unit {0})
    fields_have_sizes everywhere at (f ∷ fs) (type_and e es) t = then_do (if_there (part_of N f t) (λ u. has_sizes everywhere at e u)) (λ z. fields_have_sizes everywhere at fs es t)
    fields_have_sizes everywhere at fs es t = Ok tt

  -- ---- a sized type with the sizes that are written; where none is, the one that `blank` gives for a level and its own size.
  -- Function types take them too where it is told what is given for a level of their results. Each level has a number of its
  -- own: those of a record are counted in the order in which its fields are written.

  unfoldable mutual
    pub with_sizes : Option (ℕ → ℕ → Dim → Dim) → (ℕ → Dim → Dim) → ℕ → FlatType → Size → Size
    with_sizes results blank i (Array_type s e) (Level d t) = Level (dim_or (written_dim s) (blank i d)) (with_sizes results blank (suc i) e t)
    with_sizes results blank i (Unique_type e) t = with_sizes results blank i e t
    with_sizes results blank i (Tuple_type es) (Built h ts) = Built h (all_with_sizes results blank i es ts)
    with_sizes results blank i (Record_type fs es) t = fields_with_sizes results blank i fs es t
    with_sizes (Some given) blank i (Arrow_type b from to) (Fun k p r) = Fun k (with_sizes (Some given) same_dim 0 from p) (bound (argument_place k b) (with_sizes (Some given) (given k) 0 to r))
    with_sizes results blank i e t = t

    pub all_with_sizes : Option (ℕ → ℕ → Dim → Dim) → (ℕ → Dim → Dim) → ℕ → Type_terms Ref BindId → Sizes → Sizes
    all_with_sizes results blank i (type_and e es) (size_and t ts) = size_and (with_sizes results blank i e t) (all_with_sizes results blank (levels t + i) es ts)
    all_with_sizes results blank i es ts = ts

    pub fields_with_sizes : Option (ℕ → ℕ → Dim → Dim) → (ℕ → Dim → Dim) → ℕ → List Text → Type_terms Ref BindId → Size → Size
    fields_with_sizes results blank i (f ∷ fs) (type_and e es) t = fields_with_sizes results blank (levels_there (part_of N f t) + i) fs es (changed_part N f (with_sizes results blank i e) t)
    fields_with_sizes results blank i fs es t = t

  -- `e : t` keeps the sizes of e
  unfoldable pub ascribed : ℕ → FlatType → Size → Answer Size
  ascribed at e t = then_do (has_sizes true at e t) (λ z. Ok t)

  -- `e :> t` has the sizes of t, and those of e where none is written. No run can tell the sizes inside function types: there it
  -- is an ascription.
  unfoldable pub coerced : FlatType → Size → Size
  coerced e t = with_sizes None same_dim 0 e t

  unfoldable pub coercion : ℕ → FlatType → Size → Answer Size
  coercion at e t = then_do (has_sizes false at e t) (λ z. Ok (coerced e t))

  -- a parameter: its own sizes where none is written
  unfoldable pub parameter_size : (ℕ → Dim → Dim) → FlatType → Size → Size
  parameter_size own e t = with_sizes (Some (λ k i d. d)) own 0 e t

  -- a declared result: where no size is written, callers know none; those of a function's result are met when it runs
  unfoldable pub declared : ℕ → ℕ → FlatType → Size → Answer Size
  declared n at e t = then_do (has_sizes true at e t) (λ z. Ok (with_sizes (Some (λ k i d. Bound 0 (suc k + i))) (λ i d. At (Unknown n i)) 0 e t))
