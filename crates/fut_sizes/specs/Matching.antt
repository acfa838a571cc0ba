-- How an application matches what it finds with what is wanted (Futhark Language Reference, "Size Types"). A slot, for a size
-- that a function's caller chooses, takes the first size that it meets, and an open type variable the first sized type; a
-- later one has to agree.
use Rattle.std.specs.Prelude.{ℕ, zero, suc, ◌+◌, ◌-◌, Bool, true, false, not, ◌&&◌, cond, nat_eq, nat_lt, Ok, Err}
use Rattle.fut_types.specs.Types.{Ty}
use Rattle.sized_types.specs.Sizes.{Free, Unknown, Slot, Dim, At, Bound, Variable, is_variable, Size, Hole, Open, Level, Built, Fun, Sizes, no_size, size_and, is_free, replaced, renamed, has}
use Rattle.fut_sizes.specs.Levels.{levels_within}
use Rattle.fut_sizes.specs.Agreeing.{Mismatch, Irregular, Answer, then_do, agree}

-- ---- what has been found: a substitution, which leaves what it gives as it is

pub record Found : Type 0 where
  pub size : ℕ → Free
  pub type : ℕ → Variable → Ty → Size
  -- the next number of a slot, and of an unknown of an application's node
  pub next : ℕ
  -- the node at which a number was made
  pub maker : ℕ → ℕ

abbrev pub nothing_found : Found
nothing_found = record { size = Slot; type = Open; next = 0; maker = λ i. 0 }

abbrev pub put : ℕ → Free → Free → Free
put i d (Slot j) = cond (nat_eq i j) d (Slot j)
put i d e = e

abbrev pub size_found : ℕ → Free → Found → Found
size_found i d σ = record { size = λ j. put i d (σ.size j); type = λ n v u. renamed (put i d) (σ.type n v u); next = σ.next; maker = σ.maker }

abbrev pub is_open : ℕ → Variable → ℕ → Variable → Bool
is_open n v m w = nat_eq n m && is_variable v w

unfoldable mutual
  pub filled : ℕ → Variable → Size → Size → Size
  filled n v u (Hole w) = Hole w
  filled n v u (Open m w t) = cond (is_open n v m w) u (Open m w t)
  filled n v u (Level d t) = Level d (filled n v u t)
  filled n v u (Built h ts) = Built h (all_filled n v u ts)
  filled n v u (Fun k p r) = Fun k (filled n v u p) (filled n v u r)

  pub all_filled : ℕ → Variable → Size → Sizes → Sizes
  all_filled n v u no_size = no_size
  all_filled n v u (size_and t ts) = size_and (filled n v u t) (all_filled n v u ts)

abbrev pub type_found : ℕ → Variable → Size → Found → Found
type_found n v u σ = record { size = σ.size; type = λ m w t. filled n v u (σ.type m w t); next = σ.next; maker = σ.maker }

abbrev pub counted : ℕ → Found → Found
counted i σ = record { size = σ.size; type = σ.type; next = i + σ.next; maker = σ.maker }

-- from the next number on they are made at a node
abbrev pub made_at : ℕ → Found → Found
made_at n σ = record { size = σ.size; type = σ.type; next = σ.next; maker = λ i. cond (nat_lt i σ.next) (σ.maker i) n }

-- what is found, read in a sized type
abbrev pub found_size : Found → Free → Free
found_size σ (Slot i) = σ.size i
found_size σ d = d

abbrev pub found_dim : Found → ℕ → Dim → Dim
found_dim σ j (At d) = At (found_size σ d)
found_dim σ j (Bound k i) = Bound k i

unfoldable mutual
  pub read : Found → Size → Size
  read σ (Hole v) = Hole v
  read σ (Open n v u) = σ.type n v u
  read σ (Level d t) = Level (found_dim σ 0 d) (read σ t)
  read σ (Built h ts) = Built h (all_read σ ts)
  read σ (Fun k p r) = Fun k (read σ p) (read σ r)

  pub all_read : Found → Sizes → Sizes
  all_read σ no_size = no_size
  all_read σ (size_and t ts) = size_and (read σ t) (all_read σ ts)

-- ---- the function types around, which are opened: what their positions stand for, the nearest first

abbrev pub Opened : Type 0
Opened = ℕ → ℕ → Dim

abbrev pub none_opened : Opened
none_opened j i = Bound j i

unfoldable pub inside : (ℕ → Dim) → Opened → Opened
inside δ φ zero = δ
inside δ φ (suc j) = φ j

-- what stands outside of j function types, inside them
abbrev pub lifted : ℕ → Dim → Dim
lifted j (At d) = At d
lifted j (Bound k i) = Bound (j + k) i

abbrev pub dim_in : Opened → ℕ → Dim → Dim
dim_in φ j (At d) = At d
dim_in φ j (Bound k i) = cond (nat_lt k j) (Bound k i) (lifted j (φ (k - j) i))

abbrev pub in_opened : Opened → Size → Size
in_opened φ t = replaced (dim_in φ) 0 t

-- ---- in which way two sized types are matched

pub record Way : Type 0 where
  -- the left one is wanted and the right one found, or the other way round, as in what a function takes
  pub left_wanted : Bool
  -- in the result of a function that is an argument
  pub in_result : Bool
  -- of a function all of whose results have to have one shape
  pub regular : Bool

abbrev pub turned : Way → Way
turned w = record { left_wanted = not w.left_wanted; in_result = false; regular = w.regular }

abbrev pub to_result : Way → Way
to_result w = record { left_wanted = w.left_wanted; in_result = true; regular = w.regular }

abbrev pub is_unknown : Dim → Bool
is_unknown (At (Unknown n i)) = true
is_unknown d = false

-- a slot of the wanted type takes no unknown size of a function's results, for they could differ
abbrev pub slot_takes : Way → ℕ → ℕ → Free → Found → Answer Found
slot_takes w at i d σ = cond (w.in_result && is_unknown (At d)) (Err (Irregular at)) (Ok (size_found i d σ))

abbrev pub linked : ℕ → ℕ → Found → Found
linked i j σ = cond (nat_eq i j) σ (cond (nat_lt i j) (size_found j (Slot i) σ) (size_found i (Slot j) σ))

-- a size that is wanted and one that is found, both read
abbrev pub meet_size : Way → ℕ → Free → Free → Found → Answer Found
meet_size w at (Slot i) (Slot j) σ = Ok (linked i j σ)
meet_size w at (Slot i) d σ = slot_takes w at i d σ
meet_size w at d (Slot j) σ = Ok (size_found j d σ)
meet_size w at d e σ = cond (is_free d e) (Ok σ) (Err (Mismatch at (At d) (At e)))

-- what is met when the wanted function runs agrees with all
abbrev pub meet_dim : Way → ℕ → Dim → Dim → Found → Answer Found
meet_dim w at (At d) (At e) σ = meet_size w at (found_size σ d) (found_size σ e) σ
meet_dim w at d e σ = Ok σ

abbrev pub meet_dims : Way → ℕ → Dim → Dim → Found → Answer Found
meet_dims w at d e σ = cond w.left_wanted (meet_dim w at d e σ) (meet_dim w at e d σ)

-- ---- open variables

-- what is met when a wanted function runs is any size: a variable that takes it has slots there
abbrev pub any_size : ℕ → Dim → Dim
any_size j (At d) = At d
any_size j (Bound k i) = cond (nat_lt k j) (Bound k i) (At (Slot i))

abbrev pub with_any_sizes : Found → Size → Size
with_any_sizes σ t = renamed (found_size σ) (replaced any_size 0 t)

-- a variable that is open, which is wanted or found, takes a sized type that is read. One of the wanted type takes none with an
-- unknown size of a function's results.
abbrev pub open_takes : Bool → Way → ℕ → ℕ → Variable → Size → Found → Answer Found
open_takes wanted w at n v (Open m x u) σ = cond (is_open n v m x) (Ok σ) (Ok (type_found n v (Open m x u) σ))
open_takes wanted w at n v t σ = cond (wanted && (w.in_result && has is_unknown t)) (Err (Irregular at)) (Ok (type_found n v (with_any_sizes σ t) σ))

-- what stands for a variable in a sized type that another variable has taken
abbrev pub variable_compared : Bool → Way → ℕ → Size → Size → Found → Answer Found
variable_compared wanted w at (Open n v u) t σ = open_takes wanted w at n v t σ
variable_compared wanted w at taken t σ = then_do (agree at taken t) (λ z. Ok σ)

-- a sized type that a variable has taken, and one that is read. Function types have to have one and the same sizes.
unfoldable mutual
  pub compared : Way → ℕ → Size → Size → Found → Answer Found
  compared w at (Level d t) (Level e u) σ = then_do (meet_dims w at d e σ) (λ found. compared w at t u found)
  compared w at (Built h ts) (Built g us) σ = all_compared w at ts us σ
  compared w at (Fun k p r) (Fun l q s) σ = then_do (agree at (Fun k p r) (Fun l q s)) (λ z. Ok σ)
  compared w at (Open n v x) u σ = variable_compared w.left_wanted w at (σ.type n v x) (read σ u) σ
  compared w at t (Open n v x) σ = variable_compared (not w.left_wanted) w at (σ.type n v x) (read σ t) σ
  compared w at t u σ = Ok σ

  pub all_compared : Way → ℕ → Sizes → Sizes → Found → Answer Found
  all_compared w at (size_and t ts) (size_and u us) σ = then_do (compared w at t u σ) (λ found. all_compared w at ts us found)
  all_compared w at ts us σ = Ok σ

-- what an open variable stands for so far, which is wanted or found, and what it meets
abbrev pub meet_variable : Bool → Way → ℕ → Size → Size → Found → Answer Found
meet_variable wanted w at (Open n v u) t σ = open_takes wanted w at n v t σ
meet_variable wanted w at taken t σ = compared (record { left_wanted = wanted; in_result = w.in_result; regular = w.regular }) at taken t σ

-- ---- matching

-- the positions of the wanted function type, at the next numbers: its caller chooses sizes and an argument that nothing is known
-- of; what is met stays so, outside of all function types, at numbers that no other has
abbrev pub wanted_frame : ℕ → ℕ → ℕ → ℕ → Dim
wanted_frame lo next k i = cond (nat_lt k i) (Bound 0 (next + i)) (At (Unknown lo (next + i)))

-- those of the found one, at the numbers behind: slots, the argument that has this number, and what is met
abbrev pub found_frame : ℕ → ℕ → ℕ → ℕ → ℕ → Dim
found_frame lo next argument l i = cond (nat_lt i l) (At (Slot (next + i))) (At (Unknown lo (cond (nat_eq i l) argument (next + i))))

-- the numbers behind those of the positions of a function type
abbrev pub past_frame : ℕ → ℕ → Size → ℕ
past_frame next k r = next + suc k + levels_within r

abbrev pub left_frame : Way → ℕ → ℕ → ℕ → ℕ → Size → ℕ → Dim
left_frame w lo next k l s = cond w.left_wanted (wanted_frame lo next k) (found_frame lo (past_frame next l s) (next + l) k)

abbrev pub right_frame : Way → ℕ → ℕ → ℕ → ℕ → Size → ℕ → Dim
right_frame w lo next k l r = cond w.left_wanted (found_frame lo (past_frame next k r) (next + k) l) (wanted_frame lo next l)

-- how many numbers the two take
abbrev pub frame_numbers : ℕ → ℕ → Size → Size → ℕ
frame_numbers k l r s = suc k + levels_within r + (suc l + levels_within s)

-- the found function's results have one shape where that is asked for
abbrev pub is_irregular : Way → Size → Size → Bool
is_irregular w r s = w.regular && has is_unknown (cond w.left_wanted s r)

module _ (lo : ℕ) where
  unfoldable mutual
    pub meet : Way → ℕ → Opened → Size → Opened → Size → Found → Answer Found
    meet w at φ (Level d t) ψ (Level e u) σ = then_do (meet_dims w at (dim_in φ 0 d) (dim_in ψ 0 e) σ) (λ found. meet w at φ t ψ u found)
    meet w at φ (Built h ts) ψ (Built g us) σ = all_meet w at φ ts ψ us σ
    meet w at φ (Fun k p r) ψ (Fun l q s) σ =
        then_do (meet (turned w) at (inside (left_frame w lo σ.next k l s) φ) p (inside (right_frame w lo σ.next k l r) ψ) q (counted (frame_numbers k l r s) σ))
        (λ found. cond (is_irregular w (read found (in_opened (inside (left_frame w lo σ.next k l s) φ) r)) (read found (in_opened (inside (right_frame w lo σ.next k l r) ψ) s))) (Err (Irregular at))
        (meet (to_result w) at (inside (left_frame w lo σ.next k l s) φ) r (inside (right_frame w lo σ.next k l r) ψ) s found))
    meet w at φ (Open n v x) ψ u σ = meet_variable w.left_wanted w at (σ.type n v x) (read σ (in_opened ψ u)) σ
    meet w at φ t ψ (Open n v x) σ = meet_variable (not w.left_wanted) w at (σ.type n v x) (read σ (in_opened φ t)) σ
    meet w at φ t ψ u σ = Ok σ

    pub all_meet : Way → ℕ → Opened → Sizes → Opened → Sizes → Found → Answer Found
    all_meet w at φ (size_and t ts) ψ (size_and u us) σ = then_do (meet w at φ t ψ u σ) (λ found. all_meet w at φ ts ψ us found)
    all_meet w at φ ts ψ us σ = Ok σ

-- an argument that is no function, and one that is, where the function is a regular one or not
abbrev pub data_way : Way
data_way = record { left_wanted = true; in_result = false; regular = false }

abbrev pub function_way : Bool → Way
function_way regular = record { left_wanted = true; in_result = false; regular = regular }
