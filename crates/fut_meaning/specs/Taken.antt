-- What a size is worth as an expression. Where nothing tells it that was entered, it is the size that a function takes which was
-- entered, as the function itself says it of its first parameter: so a size parameter that stands in function types alone has
-- the value of the size that it took at the call.
use Rattle.std.specs.Prelude.{ℕ, ◌-◌, Bool, true, false, ◌&&◌, ◌||◌, cond, List, [], ◌∷◌, Option, Some, None, pos}
use Rattle.fut_scalar.specs.declared.scalar.IntType.TheVariants.{I64}
use Rattle.fut_ast.specs.Sorts.{Text}
use Rattle.fut_flat.specs.Numbers.{all_pattern_numbers}
use Rattle.sized_types.specs.Sizes.{Free, Const, Name, Dim, At, Bound, Size, Level, Built, Fun, Sizes, no_size, size_and, is_dim}
use Rattle.sized_types.specs.Standing.{is_known, gives_chosen}
use Rattle.fut_meaning.specs.Values.{Value, Scalar_value, Tuple_value, Record_value, Array_value, Closure, Primitive_value, Env, base, bind, entered}
use Rattle.fut_meaning.specs.Operators.{integer}
use Rattle.fut_meaning.specs.Places.{Path, size_place, on_place, or_else}
use Rattle.fut_meaning.specs.Found.{Sizing, Found, count, named_worth}
use Rattle.fut_meaning.specs.Telling.{nodes_from, found}

-- ---- sizes that are told

-- where a size stands in what a function type tells of its results, and in what it takes
abbrev pub result_place : (ℕ → List Text) → Dim → Size → Option Path
result_place fields x (Fun k p r) = cond (is_known p && gives_chosen k r) (size_place fields x r) None
result_place fields x t = None

abbrev pub taken_place : (ℕ → List Text) → Dim → Size → Option Path
taken_place fields x (Fun k p r) = size_place fields x p
taken_place fields x t = None

-- what was entered at a node tells a size: as a name, where it stands in data, or in what a function tells
abbrev pub tells_size : Sizing → ℕ → Free → Bool → Bool
tells_size Z q d o = named_worth Z.home q (Z.size_at q) true d (on_place (size_place Z.fields (At d) (Z.size_at q)) (λ p. true) (on_place (result_place Z.fields (At d) (Z.size_at q)) (λ p. true) o))

abbrev pub takes_size : Sizing → ℕ → Free → Bool → Bool
takes_size Z q d o = on_place (taken_place Z.fields (At d) (Z.size_at q)) (λ p. true) o

module _ (Z : Sizing) {P B S : Type 0} where
  -- whether something that was entered tells a size, and whether a function takes it
  unfoldable pub told : Env P B S → Free → Bool
  told (base s) d = false
  told (bind b v env) d = told env d
  told (entered q v env) d = tells_size Z q d (told env d)

  unfoldable pub taken : Env P B S → Free → Bool
  taken (base s) d = false
  taken (bind b v env) d = taken env d
  taken (entered q v env) d = takes_size Z q d (taken env d)

-- ---- what functions say of the sizes that they take

-- the size in the second type that stands where one is in the first, level by level
unfoldable mutual
  pub beside : Size → Size → Dim → Option Dim
  beside (Level d t) (Level e u) x = cond (is_dim d x) (Some e) (beside t u x)
  beside (Built h ts) (Built k us) x = all_beside ts us x
  beside t u x = None

  pub all_beside : Sizes → Sizes → Dim → Option Dim
  all_beside (size_and t ts) (size_and u us) x = or_else (beside t u x) (all_beside ts us x)
  all_beside ts us x = None

-- in the type at the first of these nodes, for a size that a function type takes
abbrev pub own_size : Sizing → Size → List ℕ → Dim → Option Dim
own_size Z (Fun k p r) (q ∷ qs) x = beside p (Z.size_at q) x
own_size Z t qs x = None

-- a constant, or a size that a function's names tell or take: no size of its own
abbrev pub is_outer : (Free → Bool) → (Free → Bool) → Dim → Bool
is_outer told taken (At (Const c)) = true
is_outer told taken (At d) = told d || taken d
is_outer told taken (Bound j i) = false

abbrev pub outer_size : (Dim → Bool) → Option Dim → Option Dim
outer_size outer (Some e) = cond (outer e) (Some e) None
outer_size outer None = None

abbrev pub on_size : {A : Type 0} → Option Dim → (Dim → A) → A → A
on_size (Some e) there otherwise = there e
on_size None there otherwise = otherwise

-- a size where these are found and told, or else passed with functions
abbrev pub size_in : Found → (Free → Bool) → (Free → ℕ) → Dim → ℕ
size_in W told passed (At (Const c)) = c
size_in W told passed (At d) = cond (told d) (count (W.size d)) (passed d)
size_in W told passed (Bound j i) = 0

module _ (Z : Sizing) {P B S : Type 0} where
  unfoldable mutual
    -- by the newest function that was entered and says it
    pub passed : Env P B S → Free → ℕ
    passed (base s) d = 0
    passed (bind b v env) d = passed env d
    passed (entered q v env) d = says v (Z.size_at q) (At d) (passed env d)

    -- what a function of a sized type says of a size that it takes
    pub says : Value P B S → Size → Dim → ℕ → ℕ
    says (Closure ps body lo env) t x otherwise = on_size (outer_size (is_outer (told Z env) (taken Z env)) (own_size Z t (nodes_from ps (lo - all_pattern_numbers ps)) x)) (size_in (found Z env) (told Z env) (passed env)) otherwise
    says (Scalar_value s) t x otherwise = otherwise
    says (Tuple_value vs) t x otherwise = otherwise
    says (Record_value fs) t x otherwise = otherwise
    says (Array_value row ds) t x otherwise = otherwise
    says (Primitive_value p at vs) t x otherwise = otherwise

-- a size's name as an expression: what the size is under these names, and 0 where nothing tells it
unfoldable pub size_value : {P B S : Type 0} → Sizing → Env P B S → ℕ → Value P B S
size_value Z env b = Scalar_value (integer I64 (pos (size_in (found Z env) (told Z env) (passed Z env) (At (Name b)))))
