-- The sized types of functions (Futhark Language Reference, "Size Types"): each size of a parameter that nothing around has is
-- chosen by the caller, a parameter's name is the argument's value, and what the body's nodes meet is met when the function
-- runs.
use Rattle.std.specs.Prelude.{ℕ, suc, ◌+◌, ◌-◌, Bool, true, false, ◌||◌, ◌&&◌, not, cond, nat_eq, nat_lt, nat_le, List, [], ◌∷◌, ◌++◌, length, Option, Some, None}
use Rattle.fut_scalar.specs.declared.place.BindId.{BindId}
use Rattle.fut_flat.specs.Terms.{Bound_pattern, Typed_pattern, Parameter, Size_parameter, Type_parameter}
use Rattle.fut_flat.specs.Erased.{FlatPattern}
use Rattle.sized_types.specs.Sizes.{Free, Name, Own, Unknown, Slot, Dim, At, Bound, Size, Hole, Open, Level, Built, Fun, Sizes, no_size, size_and, is_free, replaced, bound, renamed}
use Rattle.fut_sizes.specs.Agreeing.{is_among}

-- ---- the sizes of some property that stand in a sized type, each once, as they are read

abbrev pub stands_among : List Free → Free → Bool
stands_among [] d = false
stands_among (e ∷ es) d = is_free e d || stands_among es d

abbrev pub with_free : (Free → Bool) → Dim → List Free → List Free
with_free q (At d) ds = cond (q d && not (stands_among ds d)) (ds ++ d ∷ []) ds
with_free q (Bound j i) ds = ds

unfoldable mutual
  pub collected : (Free → Bool) → Size → List Free → List Free
  collected q (Hole v) ds = ds
  collected q (Open n v u) ds = ds
  collected q (Level d t) ds = collected q t (with_free q d ds)
  collected q (Built h ts) ds = all_collected q ts ds
  collected q (Fun k p r) ds = collected q r (collected q p ds)

  pub all_collected : (Free → Bool) → Sizes → List Free → List Free
  all_collected q no_size ds = ds
  all_collected q (size_and t ts) ds = all_collected q ts (collected q t ds)

unfoldable pub sizes_in : (Free → Bool) → Size → List Free
sizes_in q t = collected q t []

abbrev pub position_from : ℕ → List Free → Free → Option ℕ
position_from i [] d = None
position_from i (e ∷ es) d = cond (is_free e d) (Some i) (position_from (suc i) es d)

abbrev pub or_position : Option ℕ → Option ℕ → Option ℕ
or_position (Some i) j = Some i
or_position None j = j

-- ---- one parameter

-- the name that is the argument's value
abbrev pub value_name : FlatPattern → Option ℕ
value_name (Bound_pattern b) = Some b.0
value_name (Typed_pattern p e) = value_name p
value_name p = None

-- of a pattern at a node that is no name, it is a size of that node's own which stands in no level of the parameter
abbrev pub value_position : ℕ → ℕ → Option ℕ → Free → Option ℕ
value_position k q (Some b) (Name c) = cond (nat_eq b c) (Some k) None
value_position k q None (Own n i) = cond (nat_eq n q) (Some k) None
value_position k q b d = None

-- what a parameter at a node chooses, where these are the size names that nothing has chosen before
abbrev pub is_own : List ℕ → ℕ → Free → Bool
is_own bs q (Own n i) = nat_eq n q
is_own bs q (Name b) = is_among bs b
is_own bs q d = false

abbrev pub without : List Free → List ℕ → List ℕ
without ds [] = []
without ds (b ∷ bs) = cond (stands_among ds (Name b)) (without ds bs) (b ∷ without ds bs)

-- a parameter of a function: its pattern, its node, and its sized type inside the function
pub record Taking : Type 0 where
  pub pattern : FlatPattern
  pub node : ℕ
  pub size : Size

abbrev pub chosen_by : List ℕ → Taking → List Free
chosen_by bs p = sizes_in (is_own bs p.node) p.size

-- made by a node from one on, up to another
abbrev pub is_met : ℕ → ℕ → Free → Bool
is_met from to (Unknown n i) = nat_le from n && nat_lt n to
is_met from to d = false

-- the function type of one parameter: what it chooses, its value, what is met
abbrev pub frame_of : List Free → Taking → List Free → Free → Option ℕ
frame_of chosen p met d = or_position (position_from 0 chosen d) (or_position (value_position (length chosen) p.node (value_name p.pattern) d) (position_from (suc (length chosen)) met d))

abbrev pub arrow : List Free → Taking → List Free → Size → Size
arrow chosen p met r = Fun (length chosen) (bound (frame_of chosen p met) p.size) (bound (frame_of chosen p met) r)

-- the type of a function of these parameters, whose body has the nodes from one on, up to another, and gives this; the last
-- arrow has what is met
unfoldable pub function_size : List ℕ → ℕ → ℕ → List Taking → Size → Size
function_size bs from to [] r = r
function_size bs from to (p ∷ []) r = arrow (chosen_by bs p) p (sizes_in (is_met from to) r) r
function_size bs from to (p ∷ ps) r = arrow (chosen_by bs p) p [] (function_size (without (chosen_by bs p) bs) from to ps r)

-- the size names of a head that no parameter chooses
abbrev pub unchosen : List ℕ → List Taking → List ℕ
unchosen bs [] = bs
unchosen bs (p ∷ ps) = unchosen (without (chosen_by bs p) bs) ps

abbrev pub size_names : List (Parameter BindId) → List ℕ
size_names [] = []
size_names (Size_parameter b ∷ ps) = b.0 ∷ size_names ps
size_names (Type_parameter b lifted ∷ ps) = size_names ps

-- ---- what is still open once an application is matched: where it stands in the parameter of a function, that function's
-- caller chooses it; else it is an unknown of the node that made it, so that no function knows of the nodes around it

abbrev pub is_slot : Free → Bool
is_slot (Slot i) = true
is_slot d = false

abbrev pub unknown_slot : (ℕ → ℕ) → Free → Free
unknown_slot maker (Slot i) = Unknown (maker i) i
unknown_slot maker d = d

-- new positions stand behind the k that the caller chooses already
abbrev pub at_slot : ℕ → ℕ → Option ℕ → Free → Dim
at_slot j k (Some i) d = Bound j (k + i)
at_slot j k None d = At d

abbrev pub chosen_again : ℕ → List Free → ℕ → Dim → Dim
chosen_again k ds j (At d) = at_slot j k (position_from 0 ds d) d
chosen_again k ds j (Bound l i) = Bound l (cond (nat_eq l j) (cond (nat_lt i k) i (length ds + i)) i)

-- behind what the function types around have chosen, j of them
abbrev pub behind : ℕ → ℕ → List Free → (ℕ → Dim → Dim) → ℕ → Dim → Dim
behind k j ds outer i d = chosen_again k ds (i - suc j) (outer i d)

unfoldable pub chosen_in : (ℕ → ℕ) → (ℕ → Dim → Dim) → ℕ → Size → Size
chosen_in maker outer j (Fun k p r) = Fun (length (sizes_in is_slot (replaced outer (suc j) p)) + k)
    (replaced (behind k j (sizes_in is_slot (replaced outer (suc j) p)) outer) (suc j) p)
    (chosen_in maker (behind k j (sizes_in is_slot (replaced outer (suc j) p)) outer) (suc j) r)
chosen_in maker outer j t = renamed (unknown_slot maker) (replaced outer j t)

unfoldable pub quantified : (ℕ → ℕ) → Size → Size
quantified maker t = chosen_in maker (λ j d. d) 0 t

-- after a function's last arrow nothing is chosen again
unfoldable pub closed : Bool → (ℕ → ℕ) → Size → Size
closed true maker t = quantified maker t
closed false maker t = renamed (unknown_slot maker) t
