-- Applications (Futhark Language Reference, "Size Types"): a function's arguments are matched with its parameters, first those
-- that are no functions, then those that are, each from left to right. A lambda is sized last, with the sizes that are wanted
-- of its parameters.
use Rattle.std.specs.Prelude.{ℕ, suc, ◌+◌, Bool, true, false, cond, nat_eq, nat_lt, List, [], ◌∷◌, ◌++◌, length, Option, Some, None, Ok}
use Rattle.fut_flat.specs.declared.prim.Ref.TheVariants as ref
use Rattle.fut_flat.specs.Terms.{Integer, Use, Strict, no_term}
use Rattle.fut_flat.specs.Erased.{FlatTerm}
use Rattle.fut_types.specs.Types.{Ty, Made}
use Rattle.fut_types.specs.declared.Head.TheVariants as head
use Rattle.sized_types.specs.Sizes.{Free, Const, Name, Unknown, Slot, Dim, At, Variable, Size, Hole, Open, Level, Built, Fun, Sizes, no_size, size_and, renamed}
use Rattle.fut_sizes.specs.Levels.{levels_within}
use Rattle.fut_sizes.specs.Agreeing.{fits_i64, type_levels, of_type, Answer, then_do}
use Rattle.fut_sizes.specs.Matching.{Found, found_size, type_found, counted, made_at, read, Opened, none_opened, inside, in_opened, meet, data_way, function_way}
use Rattle.fut_sizes.specs.Steps.{Step, give, ask, and_then}

-- what an application at a node wants of a lambda
pub record Want : Type 0 where
  pub node : ℕ
  pub is_regular : Bool
  pub size : Size

-- a node whose sized type is known once all is matched
pub record Later : Type 0 where
  pub node : ℕ
  pub size : Size

pub record Met : Type 0 where
  pub size : Size
  pub found : Found
  pub later : List Later
  -- whether what is still open is chosen again: the arrow that was applied is not the function's last
  pub goes_on : Bool

-- a term that may be a part of an application: applied to arguments so far, or a lambda, which waits for what is wanted of it
pub data Argument : Type 0 where
  -- its node, its value as a size if it is a name or a constant, whether it is the use of a name, and its sized type
  Early : ℕ → Option Free → Bool → Size → Argument
  Late : ℕ → (Option Want → Found → Step Met) → Argument

pub data Part : Type 0 where
  Applied : Size → Bool → List Argument → Part
  Waiting : (Option Want → Found → Step Met) → Part

abbrev pub whole : Size → Part
whole t = Applied t false []

-- the value of a term as a size, if it is a name or a constant that an i64 holds
abbrev pub named_value : FlatTerm → Option Free
named_value (Use (ref.Bound b) at k) = Some (Name b.0)
named_value (Strict (Integer c t) mark no_term) = cond (fits_i64 c) (Some (Const c)) None
named_value e = None

abbrev pub is_use : FlatTerm → Bool
is_use (Use r at k) = true
is_use e = false

abbrev pub is_function_type : Ty → Bool
is_function_type (Made head.Fun ts) = true
is_function_type t = false

abbrev pub is_function : Size → Bool
is_function (Fun k p r) = true
is_function (Open n v u) = is_function_type u
is_function t = false

-- ---- variables that are still open get sizes of their own, made at the use that opened them

abbrev pub own_type : ℕ → Variable → Ty → Found → Found
own_type n v u σ = type_found n v (renamed (found_size σ) (of_type (λ i. At (Slot (σ.next + i))) 0 u)) (counted (type_levels u) (made_at n σ))

abbrev pub still_open : ℕ → Variable → Size → Found → Found
still_open n v (Open m w u) σ = own_type m w u σ
still_open n v t σ = σ

unfoldable mutual
  pub all_settled : Size → Found → Found
  all_settled (Hole v) σ = σ
  all_settled (Open n v u) σ = still_open n v (σ.type n v u) σ
  all_settled (Level d t) σ = all_settled t σ
  all_settled (Built h ts) σ = parts_settled ts σ
  all_settled (Fun k p r) σ = all_settled r (all_settled p σ)

  pub parts_settled : Sizes → Found → Found
  parts_settled no_size σ = σ
  parts_settled (size_and t ts) σ = parts_settled ts (all_settled t σ)

abbrev pub is_arrow : Size → Bool
is_arrow (Fun k p r) = true
is_arrow t = false

-- ---- one argument after another

pub record Wanting : Type 0 where
  -- the node of its application
  pub node : ℕ
  pub argument : Argument
  pub opened : Opened
  pub wanted : Size

abbrev pub value_or : Option Free → Free → Dim
value_or (Some d) e = At d
value_or None e = At e

abbrev pub argument_value : Argument → Free → Dim
argument_value (Early at value named t) e = value_or value e
argument_value (Late at f) e = At e

-- the use of a name that is an argument has the sized type that is wanted of it
abbrev pub with_use : Argument → Opened → Size → List Later → List Later
with_use (Early at value true t) φ wanted ls = record { node = at; size = in_opened φ wanted } ∷ ls
with_use a φ wanted ls = ls

abbrev pub uses : List Wanting → List Later
uses [] = []
uses (w ∷ ws) = with_use w.argument w.opened w.wanted (uses ws)

-- the positions of a function that is applied at a node: slots, the argument's value, and what is met there
abbrev pub applied_frame : ℕ → ℕ → ℕ → Argument → ℕ → Dim
applied_frame n next k a i = cond (nat_lt i k) (At (Slot (next + i))) (cond (nat_eq i k) (argument_value a (Unknown n (next + k))) (At (Unknown n (next + i))))

-- each argument is matched by its own application, which makes what is new
unfoldable pub data_met : List Wanting → Found → Answer Found
data_met [] σ = Ok σ
data_met (w ∷ ws) σ = then_do (one w.argument) (λ found. data_met ws found)
  where
    one : Argument → Answer Found
    one (Early at value named t) = cond (is_function t) (Ok σ) (meet w.node data_way at w.opened w.wanted none_opened t (made_at w.node σ))
    one (Late at f) = Ok σ

unfoldable pub functions_met : Bool → List Wanting → Found → Step Found
functions_met regular [] σ = give σ
functions_met regular (w ∷ ws) σ = and_then (one w.argument) (λ found. functions_met regular ws found)
  where
    one : Argument → Step Found
    one (Early at value named t) = cond (is_function t) (ask (meet w.node (function_way regular) at w.opened w.wanted none_opened t (made_at w.node σ))) (give σ)
    one (Late at f) = and_then (f (Some (record { node = w.node; is_regular = regular; size = read σ (in_opened w.opened w.wanted) })) (made_at w.node σ)) (λ m. give m.found)

unfoldable pub all_matched : Bool → List Wanting → Found → Step Found
all_matched regular ws σ = and_then (ask (data_met ws σ)) (λ found. functions_met regular ws found)

module _ (n : ℕ) where
  -- the rest of the arguments; those that wait are matched where no arrow is left. The node of a function is so many behind n
  -- as arguments are left, that of its application one less.
  unfoldable pub applied : Bool → List Argument → List Wanting → Opened → Bool → Size → List Later → Found → Step Met
  applied regular [] ws φ goes_on t ls σ = and_then (all_matched regular ws σ) (λ found. give (record { size = read found (in_opened φ t); found = found; later = ls ++ uses ws; goes_on = goes_on }))
  applied regular (a ∷ rest) ws φ goes_on (Fun k p r) ls σ = applied regular rest
      (ws ++ record { node = n + length rest; argument = a; opened = inside (applied_frame (n + length rest) σ.next k a) φ; wanted = p } ∷ [])
      (inside (applied_frame (n + length rest) σ.next k a) φ) (is_arrow r) r
      (ls ++ record { node = suc (n + length rest); size = in_opened φ (Fun k p r) } ∷ []) (counted (suc k + levels_within r) (made_at (n + length rest) σ))
  applied regular (a ∷ rest) ws φ goes_on t ls σ = and_then (all_matched regular ws σ) (λ found. again (read found (in_opened φ t)) found (applied regular rest))
    where
      again : Size → Found → (List Wanting → Opened → Bool → Size → List Later → Found → Step Met) → Step Met
      again (Fun k p r) found go = go (record { node = n + length rest; argument = a; opened = inside (applied_frame (n + length rest) found.next k a) none_opened; wanted = p } ∷ [])
          (inside (applied_frame (n + length rest) found.next k a) none_opened) (is_arrow r) r
          (ls ++ uses ws ++ record { node = suc (n + length rest); size = Fun k p r } ∷ []) (counted (suc k + levels_within r) (made_at (n + length rest) found))
      again u found go = give (record { size = u; found = found; later = ls ++ uses ws; goes_on = false })
