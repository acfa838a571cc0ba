-- What is known of the names in scope, and how patterns bind (Futhark Language Reference, "Patterns", "Size Types").
use Rattle.std.specs.Prelude.{ℕ, suc, Bool, true, false, cond, nat_eq, List, [], ◌∷◌, ◌++◌, length, Option, Some, None, Ok, Err}
use Rattle.fut_ast.specs.Sorts.{Text}
use Rattle.fut_scalar.specs.declared.place.BindId.{BindId}
use Rattle.fut_scalar.specs.declared.scalar.ScalarType.TheVariants as scalar
use Rattle.fut_scalar.specs.declared.scalar.IntType.TheVariants as int
use Rattle.fut_flat.specs.declared.prim.Ref.{Ref}
use Rattle.fut_flat.specs.Terms.{Bound_pattern, Wild_pattern, Tuple_pattern, Record_pattern, Typed_pattern, Patterns, no_pattern, pattern_and}
use Rattle.fut_flat.specs.Erased.{FlatPattern}
use Rattle.fut_types.specs.declared.Head.TheVariants as head
use Rattle.fut_types.specs.Types.{Ty, Made, Tys, none, more}
use Rattle.fut_typing.specs.Names.{Names}
use Rattle.sized_types.specs.Sizes.{Free, Name, Slot, Variable, is_variable, Size, Hole, Open, Level, Built, Fun, Sizes, no_size, size_and, erased, renamed}
use Rattle.fut_sizes.specs.Primitives.{scalar_size}
use Rattle.fut_sizes.specs.Agreeing.{Answer, then_do, Escapes}
use Rattle.fut_sizes.specs.WrittenSizes.{part_of, has_sizes, coerced}
use Rattle.fut_sizes.specs.Matching.{Found, nothing_found, counted, data_way, meet, none_opened, found_size}

-- ---- names

-- of a name: its sized type, and whether each use chooses what its type variables stand for
pub record Known : Type 0 where
  pub size : Size
  pub is_general : Bool

abbrev pub Scope : Type 0
Scope = ℕ → Option Known

abbrev pub nothing : Scope
nothing b = None

abbrev pub with_known : ℕ → Known → Scope → Scope
with_known b k scope = λ c. cond (nat_eq b c) (Some k) (scope c)

abbrev pub with_name : ℕ → Size → Scope → Scope
with_name b t scope = with_known b (record { size = t; is_general = false }) scope

abbrev pub i64_size : Size
i64_size = scalar_size (scalar.Int int.I64)

abbrev pub with_size_names : List BindId → Scope → Scope
with_size_names [] scope = scope
with_size_names (b ∷ bs) scope = with_size_names bs (with_name b.0 i64_size scope)

-- ---- a use at a node: each variable of a generalised name's type is open, of the type that stands there in the use's type

abbrev pub or_else : Option Ty → Option Ty → Option Ty
or_else (Some t) o = Some t
or_else None o = o

unfoldable mutual
  pub type_of : Variable → Size → Ty → Option Ty
  type_of v (Hole w) u = cond (is_variable v w) (Some u) None
  type_of v (Open n w x) u = None
  type_of v (Level d t) (Made head.Array (more u none)) = type_of v t u
  type_of v (Built h ts) (Made g us) = type_in v ts us
  type_of v (Fun k p r) (Made head.Fun (more u (more x none))) = or_else (type_of v p u) (type_of v r x)
  type_of v t u = None

  pub type_in : Variable → Sizes → Tys → Option Ty
  type_in v (size_and t ts) (more u us) = or_else (type_of v t u) (type_in v ts us)
  type_in v ts us = None

abbrev pub or_variable : Variable → Option Ty → Ty
or_variable v (Some t) = t
or_variable v None = erased (Hole v)

unfoldable mutual
  pub instance : ℕ → (Variable → Ty) → Size → Size
  instance n types (Hole v) = Open n v (types v)
  instance n types (Open m v u) = Open m v u
  instance n types (Level d t) = Level d (instance n types t)
  instance n types (Built h ts) = Built h (instances n types ts)
  instance n types (Fun k p r) = Fun k (instance n types p) (instance n types r)

  pub instances : ℕ → (Variable → Ty) → Sizes → Sizes
  instances n types no_size = no_size
  instances n types (size_and t ts) = size_and (instance n types t) (instances n types ts)

unfoldable pub used : ℕ → Ty → Size → Size
used n u t = instance n (λ v. or_variable v (type_of v t u)) t

-- ---- the names of a pattern

abbrev mutual
  pub names : FlatPattern → List ℕ
  names (Bound_pattern b) = b.0 ∷ []
  names Wild_pattern = []
  names (Tuple_pattern ps) = all_names ps
  names (Record_pattern fs ps) = all_names ps
  names (Typed_pattern p e) = names p

  pub all_names : Patterns Ref BindId → List ℕ
  all_names no_pattern = []
  all_names (pattern_and p ps) = names p ++ all_names ps

-- ---- a pattern takes a value that is found at a node; size names take what their levels have

pub record Taken : Type 0 where
  pub scope : Scope
  pub found : Found

abbrev pub number_in : ℕ → List BindId → ℕ → Free
number_in i [] b = Name b
number_in i (x ∷ xs) b = cond (nat_eq x.0 b) (Slot i) (number_in (suc i) xs b)

-- a size name by the number of its slot
abbrev pub as_slot : List BindId → Free → Free
as_slot sizes (Name b) = number_in 0 sizes b
as_slot sizes d = d

-- and what it took
abbrev pub as_taken : List BindId → Found → Free → Free
as_taken sizes σ d = found_size σ (as_slot sizes d)

abbrev pub some_part : Option Size → (Size → Answer Taken) → Taken → Answer Taken
some_part (Some t) take k = take t
some_part None take k = Ok k

module _ (N : Names) (sizes : List BindId) (at : ℕ) where
  unfoldable mutual
    pub taken : FlatPattern → Size → Taken → Answer Taken
    taken (Bound_pattern b) t k = Ok (record { scope = with_name b.0 t k.scope; found = k.found })
    taken Wild_pattern t k = Ok k
    taken (Tuple_pattern ps) (Built h ts) k = all_taken ps ts k
    taken (Record_pattern fs ps) t k = fields_taken fs ps t k
    taken (Typed_pattern p e) t k = then_do (meet at data_way at none_opened (renamed (as_slot sizes) (coerced N e t)) none_opened t k.found)
        (λ found. then_do (has_sizes N true at e (coerced N e t)) (λ z. taken p (coerced N e t) (record { scope = k.scope; found = found })))
    taken p t k = Ok k

    pub all_taken : Patterns Ref BindId → Sizes → Taken → Answer Taken
    all_taken (pattern_and p ps) (size_and t ts) k = then_do (taken p t k) (λ next. all_taken ps ts next)
    all_taken ps ts k = Ok k

    pub fields_taken : List Text → Patterns Ref BindId → Size → Taken → Answer Taken
    fields_taken (f ∷ fs) (pattern_and p ps) t k = then_do (some_part (part_of N f t) (λ u. taken p u k) k) (λ next. fields_taken fs ps t next)
    fields_taken fs ps t k = Ok k

-- a size name that no level has is refused
abbrev pub is_still_open : Free → Bool
is_still_open (Slot i) = true
is_still_open d = false

abbrev pub all_met : ℕ → ℕ → List BindId → Found → Answer (Unit {0})
all_met at i [] σ = Ok tt
all_met at i (b ∷ bs) σ = cond (is_still_open (σ.size i)) (Err (Escapes at)) (all_met at (suc i) bs σ)

-- what a pattern binds in this scope, which takes a value at a node; a size name that no level has is refused at another
abbrev pub bound_at : Names → List BindId → ℕ → ℕ → FlatPattern → Size → Scope → Answer Taken
bound_at N sizes unmet at p t scope = then_do (taken N sizes at p t (record { scope = with_size_names sizes scope; found = counted (length sizes) nothing_found }))
    (λ k. then_do (all_met unmet 0 sizes k.found) (λ z. Ok k))

-- in a let it is refused at the value
unfoldable pub bound_by : Names → List BindId → ℕ → FlatPattern → Size → Scope → Answer Taken
bound_by N sizes at p t scope = bound_at N sizes at at p t scope
