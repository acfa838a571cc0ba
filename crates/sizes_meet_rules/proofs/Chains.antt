-- What the pass does where a function is applied to arguments of data: each has its parameter, and all are matched at the end.
use Rattle.sizes_meet_rules.proofs.Forming.{is_i64_ty, number_typed}
use Rattle.std.proofs.Common.{◌≡◌, ℕ, suc, ◌+◌, ◌<◌, ◌≤◌, List, [], ◌∷◌, ◌++◌, Bool, true, false, cond, nat_eq, Option, Some, None, Ok, refl, sym, ap, ◌∙◌, subst, arith, ◌⊎◌, inl, inr}
use Rattle.std.specs.Prelude.{nat_lt, length}
use Rattle.std.proofs.lemmas.Bool.{lt-ltb, le-ltb, ne_eqb}
use Rattle.std.proofs.lemmas.List.{append-nil, append_assoc}
use Rattle.fut_flat.specs.Erased.{FlatTerm}
use Rattle.fut_types.specs.Types.{Ty, fun_ty, Sub}
use Rattle.fut_typing.specs.Names.{Names}
use Rattle.sized_types.specs.Sizes.{Free, Unknown, Slot, At, Size, Hole, Open, Level, Built, Fun, Sizes, no_size, size_and, erased, Dim, Bound, replaced, all_replaced}
use Rattle.fut_sizes.specs.Agreeing.{Answer, then_do}
use Rattle.fut_sizes.specs.Applications.{Want, Met, Later, Argument, Early, Late, Applied, is_function, is_arrow, Wanting, value_or, with_use, uses, applied_frame, data_met, functions_met, all_matched, applied}
use Rattle.fut_sizes.specs.Functions.{is_slot}
use Rattle.fut_sizes.specs.Levels.{levels_within}
use Rattle.fut_sizes.specs.Matching.{Found, nothing_found, counted, made_at, read, Opened, none_opened, inside, dim_in, in_opened, data_way, function_way, meet}
use Rattle.fut_sizes.specs.Rules.{Each_hole}
use Rattle.fut_sizes.specs.Sizing.{finished, met_noted}
use Rattle.fut_sizes.specs.Steps.{State, Done, Step, give, ask, and_then}
use Rattle.fut_sizes.specs.Suiting.{Each, Each_all, Scoped, Data, Of_positions}
use Rattle.sizes_meet_rules.specs.Known.{is_i64_size, Formed}
use Rattle.sizes_meet_rules.proofs.Replacing.{each_as}
use Rattle.sizes_meet_rules.proofs.Applying.{Slots, Stays, met_stays, no_function, or_unknown, read_settled}
use Rattle.sizes_meet_rules.proofs.Frames.{Frames, pushed, Framed, push_framed, opens, Okay, more, entered}
use Rattle.sizes_meet_rules.proofs.Meeting.{then_ok, asked, same_ok, each_scoped}
use Rattle.sizes_meet_rules.proofs.Reading.{Extends, met_reads, read_still}
use Rattle.sizes_meet_rules.proofs.Settling.{Is_settled, Any_variable}

-- an argument that is sized: its node, its value as a size, whether it is a name, its sized type and its term
pub record Given : Type 0 where
  pub node : ℕ
  pub value : Option Free
  pub named : Bool
  pub size : Size
  -- the sized type of its node, where it is no name
  pub own : Size
  pub term : FlatTerm
  -- how many numbers are kept for what the function gives behind it
  pub width : ℕ
  -- as which it is matched, where its sized type is that which is wanted: a lambda that waits, or the use of a name
  pub waits : Option Argument

abbrev pub early : Given → Argument
early g = Early g.node g.value g.named g.size

abbrev pub argument_by : Option Argument → Given → Argument
argument_by None g = early g
argument_by (Some a) g = a

abbrev pub arguments : List Given → List Argument
arguments [] = []
arguments (g ∷ gs) = argument_by g.waits g ∷ arguments gs

-- a size by itself, of no frame
abbrev pub Alone : (Free → Type 0) → ℕ → Dim → Type 0
Alone P j (At d) = P d
Alone P j (Bound k i) = ⊥

alone_scoped_dim : (P : Free → Type 0) (j : ℕ) (d : Dim) → Alone P j d → Scoped P j d
alone_scoped_dim P j (At x) h = h
alone_scoped_dim P j (Bound k i) h = absurd h

pub alone_scoped : (P : Free → Type 0) (t : Size) (j : ℕ) → Each (Alone P) j t → Each (Scoped P) j t
alone_scoped P t j h = each_as (Alone P) (Scoped P) (alone_scoped_dim P) t j h

mutual
  unfolding Each Each_all

  pub alone_at : (P : Free → Type 0) (t : Size) (i j : ℕ) → Each (Alone P) i t → Each (Alone P) j t
  alone_at P (Hole v) i j h = tt
  alone_at P (Open m v u) i j h = tt
  alone_at P (Level (At x) t) i j h = (h.0, alone_at P t i j h.1)
  alone_at P (Level (Bound k m) t) i j h = absurd h.0
  alone_at P (Built k ts) i j h = all_alone_at P ts i j h
  alone_at P (Fun k p r) i j h = (alone_at P p (suc i) (suc j) h.0, alone_at P r (suc i) (suc j) h.1)

  all_alone_at : (P : Free → Type 0) (ts : Sizes) (i j : ℕ) → Each_all (Alone P) i ts → Each_all (Alone P) j ts
  all_alone_at P no_size i j h = tt
  all_alone_at P (size_and t ts) i j h = (alone_at P t i j h.0, all_alone_at P ts i j h.1)

module _ (P : Free → Type 0) (g : ℕ → Dim → Dim) (stays : (j : ℕ) (x : Free) → g j (At x) ≡ At x) where
  mutual
    unfolding replaced all_replaced Each Each_all

    pub alone_replaced : (t : Size) (i j : ℕ) → Each (Alone P) i t → replaced g j t ≡ t
    alone_replaced (Hole v) i j h = refl
    alone_replaced (Open n v u) i j h = refl
    alone_replaced (Level (At x) t) i j h = ap (λ e. Level e (replaced g j t)) (stays j x) ∙ ap (Level (At x)) (alone_replaced t i j h.1)
    alone_replaced (Level (Bound k m) t) i j h = absurd h.0
    alone_replaced (Built k ts) i j h = ap (Built k) (all_alone_replaced ts i j h)
    alone_replaced (Fun k p r) i j h = ap (λ x. Fun k x (replaced g (suc j) r)) (alone_replaced p (suc i) (suc j) h.0) ∙ ap (Fun k p) (alone_replaced r (suc i) (suc j) h.1)

    all_alone_replaced : (ts : Sizes) (i j : ℕ) → Each_all (Alone P) i ts → all_replaced g j ts ≡ ts
    all_alone_replaced no_size i j h = refl
    all_alone_replaced (size_and t ts) i j h = ap (λ x. size_and x (all_replaced g j ts)) (alone_replaced t i j h.0) ∙ ap (size_and t) (all_alone_replaced ts i j h.1)

-- data of the parameter's type, or a function that has the parameter's sized type, in which are no sizes of frames
abbrev pub Data_taken : Size → Size → Type 0
Data_taken p t = (Data p × (erased p ≡ erased t)) × Data t

pub record Function_taken (p t : Size) : Type 0 where
  pub same : p ≡ t
  pub is_fun : is_function t ≡ true
  pub alone : Each (Alone Is_settled) 0 p
  pub closed : Each_hole Any_variable p

abbrev pub Taken_by : Size → Size → Type 0
Taken_by p t = Data_taken p t ⊎ Function_taken p t

pub taken_typed : (p t : Size) → Taken_by p t → erased p ≡ erased t
taken_typed p t (inl d) = d.0.1
taken_typed p t (inr f) = ap erased f.same

pub function_opened : (φ : Opened) (p t : Size) → Function_taken p t → in_opened φ p ≡ p
function_opened φ p t f = alone_replaced Is_settled (dim_in φ) (λ j x. refl) p 0 0 f.alone

pub function_read : (τ : Found) (φ : Opened) (p t : Size) → Function_taken p t → read τ (in_opened φ p) ≡ t
function_read τ φ p t f = ap (read τ) (function_opened φ p t f) ∙ read_settled τ p 0 (alone_scoped Is_settled p 0 f.alone) f.closed ∙ f.same

-- a function of that many arguments, of these types
abbrev pub Takes_all : List Given → Size → Type 0
Takes_all [] t = Unit {0}
Takes_all (g ∷ gs) (Fun k p r) = Taken_by p g.size × Takes_all gs r
Takes_all (g ∷ gs) t = ⊥

-- the type of a function of these arguments
abbrev pub arrows_of : Sub → List Given → Ty → Ty
arrows_of types [] u = u
arrows_of types (g ∷ gs) u = fun_ty (types g.node) (arrows_of types gs u)

-- a function of that many arguments
abbrev pub Has_arrows : List Given → Size → Type 0
Has_arrows [] t = Unit {0}
Has_arrows (g ∷ gs) (Fun k p r) = (levels_within r ≡ g.width) × Has_arrows gs r
Has_arrows (g ∷ gs) t = ⊥

-- as many numbers are kept as it may take
abbrev pub Widths : List Given → Size → Type 0
Widths (g ∷ gs) (Fun k p r) = (levels_within r ≡ g.width) × Widths gs r
Widths gs t = Unit {0}

abbrev pub widened : List Given → Size → List Given
widened (g ∷ gs) (Fun k p r) = record { node = g.node; value = g.value; named = g.named; size = g.size; own = g.own; term = g.term; width = levels_within r; waits = g.waits } ∷ widened gs r
widened gs t = gs

pub widened_widths : (gs : List Given) (t : Size) → Widths (widened gs t) t
widened_widths [] t = tt
widened_widths (g ∷ gs) (Fun k p r) = (refl, widened_widths gs r)
widened_widths (g ∷ gs) (Hole v) = tt
widened_widths (g ∷ gs) (Open m v u) = tt
widened_widths (g ∷ gs) (Level d t) = tt
widened_widths (g ∷ gs) (Built f ts) = tt

pub takes_arrows : (gs : List Given) (t : Size) → Takes_all gs t → Widths gs t → Has_arrows gs t
takes_arrows [] t h w = tt
takes_arrows (g ∷ gs) (Fun k p r) h w = (w.0, takes_arrows gs r h.1 w.1)
takes_arrows (g ∷ gs) (Hole v) h w = absurd h
takes_arrows (g ∷ gs) (Open m v u) h w = absurd h
takes_arrows (g ∷ gs) (Level d t) h w = absurd h
takes_arrows (g ∷ gs) (Built f ts) h w = absurd h

-- what the positions of a function stand for that is applied at a node, whose numbers begin at the next
abbrev pub frame : ℕ → ℕ → ℕ → Option Free → ℕ → Free
frame lo next k value i = cond (nat_lt i k) (Slot (next + i)) (cond (nat_eq i k) (or_unknown value (Unknown lo (next + k))) (Unknown lo (next + i)))

-- of an argument, its value as a size where it is a number
abbrev pub number_value : Given → Option Free
number_value g = cond (is_i64_size g.size) g.value None

-- the argument's position is meant only where that is a number
abbrev pub Meant : ℕ → Given → ℕ → Type 0
Meant k g i = (is_i64_size g.size ≡ true) ⊎ (i ≡ k → ⊥)

pub framed_as : (lo next k : ℕ) (g : Given) (i : ℕ) → Meant k g i → applied_frame lo next k (early g) i ≡ At (frame lo next k (number_value g) i)
framed_as lo next k g i (inl e) = two (nat_lt i k) (nat_eq i k) g.value ∙ ap (λ v. At (frame lo next k v i)) (sym (ap (λ b. cond b g.value None) e))
  where
    two : (b c : Bool) (v : Option Free) → cond b (At (Slot (next + i))) (cond c (value_or v (Unknown lo (next + k))) (At (Unknown lo (next + i)))) ≡ At (cond b (Slot (next + i)) (cond c (or_unknown v (Unknown lo (next + k))) (Unknown lo (next + i))))
    two true c v = refl
    two false false v = refl
    two false true (Some d) = refl
    two false true None = refl
framed_as lo next k g i (inr n) = ap (λ c. cond (nat_lt i k) (At (Slot (next + i))) (cond c (value_or g.value (Unknown lo (next + k))) (At (Unknown lo (next + i))))) (ne_eqb i k n) ∙ one (nat_lt i k)
    ∙ sym (ap (λ c. At (cond (nat_lt i k) (Slot (next + i)) (cond c (or_unknown (number_value g) (Unknown lo (next + k))) (Unknown lo (next + i))))) (ne_eqb i k n))
  where
    one : (b : Bool) → cond b (At (Slot (next + i))) (At (Unknown lo (next + i))) ≡ At (cond b (Slot (next + i)) (Unknown lo (next + i)))
    one true = refl
    one false = refl

-- what a function takes and gives, once it is applied
module _ (In : Free → Type 0) (ok : ℕ → ℕ → Type 0) (k : ℕ) (p r : Size) (g : Given) where
  meant_low : (j : ℕ) (d : Dim) → Of_positions (λ i. i < k) j d → Of_positions (Meant k g) j d
  meant_low j (At x) h = tt
  meant_low j (Bound m i) h = λ z. let l = h z in inr (λ y. omega (arith, y, l))

  meant_other : (j : ℕ) (d : Dim) → Of_positions (λ i. i ≡ k → ⊥) j d → Of_positions (Meant k g) j d
  meant_other j (At x) h = tt
  meant_other j (Bound m i) h = λ z. inr (h z)

  meant_all : is_i64_size g.size ≡ true → (j : ℕ) (d : Dim) → Okay In ok j d → Of_positions (Meant k g) j d
  meant_all e j (At x) h = tt
  meant_all e j (Bound m i) h = λ z. inl e

  pub step_in : Formed (Fun k p r) → Formed g.size → erased p ≡ erased g.size → Each (Okay In ok) 0 (Fun k p r) → Each (Okay In (more (Meant k g) ok)) 0 p × Each (Okay In (more (Meant k g) ok)) 0 r
  unfolding Each Formed
  step_in f fg same e = (
    entered In (Meant k g) ok p 0 e.0 (each_as (Of_positions (λ i. i < k)) (Of_positions (Meant k g)) meant_low p 1 f.2),
    entered In (Meant k g) ok r 0 e.1 (by_number (is_i64_size g.size) refl),
  )
    where
      by_number : (c : Bool) → is_i64_size g.size ≡ c → Each (Of_positions (Meant k g)) 1 r
      by_number true z = each_as (Okay In ok) (Of_positions (Meant k g)) (meant_all z) r 1 e.1
      by_number false z = each_as (Of_positions (λ i. i ≡ k → ⊥)) (Of_positions (Meant k g)) meant_other r 1 (f.3 (number_typed p f.0 ∙ ap is_i64_ty same ∙ sym (number_typed g.size fg) ∙ z))

-- an argument whose sized type is known, or a lambda that waits
pub record Waiting_given (g : Given) : Type 0 where
  pub waiting : Option Want → Found → Step Met
  pub waits : g.waits ≡ Some (Late g.node waiting)
  pub value : g.value ≡ None
  pub named : g.named ≡ false
  pub is_fun : is_function g.size ≡ true

-- a function that is used at the sized type which is wanted of it
pub record Named_given (g : Given) : Type 0 where
  pub own : Size
  pub waits : g.waits ≡ Some (Early g.node g.value g.named own)
  pub own_fun : is_function own ≡ true
  pub is_fun : is_function g.size ≡ true

abbrev pub Kind_of : Given → Type 0
Kind_of g = (g.waits ≡ None) ⊎ (Waiting_given g ⊎ Named_given g)

abbrev pub All_kinds : List Given → Type 0
All_kinds [] = Unit {0}
All_kinds (g ∷ gs) = Kind_of g × All_kinds gs

frame_same : (m next k : ℕ) (g : Given) → Kind_of g → applied_frame m next k (argument_by g.waits g) ≡ applied_frame m next k (early g)
frame_same m next k g (inl d) = ap (λ o. applied_frame m next k (argument_by o g)) d
frame_same m next k g (inr (inr W)) = ap (λ o. applied_frame m next k (argument_by o g)) W.waits
frame_same m next k g (inr (inl W)) = ap (λ o. applied_frame m next k (argument_by o g)) W.waits ∙ ap {B = ℕ → Dim} (λ (v : Option Free) (i : ℕ). cond (nat_lt i k) (At (Slot (next + i))) (cond (nat_eq i k) (value_or v (Unknown m (next + k))) (At (Unknown m (next + i))))) (sym W.value)

use_any : (g : Given) (t : Size) (φ : Opened) (p : Size) (ls : List Later) (b : Bool) → with_use (Early g.node g.value b t) φ p ls ≡ with_use (Early g.node g.value b g.size) φ p ls
use_any g t φ p ls true = refl
use_any g t φ p ls false = refl

use_same : (g : Given) (φ : Opened) (p : Size) (ls : List Later) → Kind_of g → with_use (argument_by g.waits g) φ p ls ≡ with_use (early g) φ p ls
use_same g φ p ls (inl d) = ap (λ o. with_use (argument_by o g) φ p ls) d
use_same g φ p ls (inr (inr W)) = ap (λ o. with_use (argument_by o g) φ p ls) W.waits ∙ use_any g W.own φ p ls g.named
use_same g φ p ls (inr (inl W)) = ap (λ o. with_use (argument_by o g) φ p ls) W.waits ∙ ap (λ b. with_use (Early g.node g.value b g.size) φ p ls) (sym W.named)

module _ (n : ℕ) where
  -- ---- the steps: the node of an application is so many behind the last one's as arguments are left

  abbrev pub here : List Given → ℕ
  here gs = n + length (arguments gs)

  abbrev pub opened_by : List Given → Given → Found → ℕ → Opened → Opened
  opened_by gs g σ k φ = inside (applied_frame (here gs) σ.next k (early g)) φ

  abbrev pub after : List Given → Given → Found → ℕ → Found
  after gs g σ k = counted (suc k + g.width) (made_at (here gs) σ)

  abbrev pub wants : List Given → Opened → Size → Found → List Wanting
  wants (g ∷ gs) φ (Fun k p r) σ = record { node = here gs; argument = early g; opened = opened_by gs g σ k φ; wanted = p } ∷ wants gs (opened_by gs g σ k φ) r (after gs g σ k)
  wants gs φ t σ = []

  abbrev pub laters : List Given → Opened → Size → Found → List Later
  laters (g ∷ gs) φ (Fun k p r) σ = record { node = suc (here gs); size = in_opened φ (Fun k p r) } ∷ laters gs (opened_by gs g σ k φ) r (after gs g σ k)
  laters gs φ t σ = []

  abbrev pub last_opened : List Given → Opened → Size → Found → Opened
  last_opened (g ∷ gs) φ (Fun k p r) σ = last_opened gs (opened_by gs g σ k φ) r (after gs g σ k)
  last_opened gs φ t σ = φ

  abbrev pub last_size : List Given → Size → Size
  last_size (g ∷ gs) (Fun k p r) = last_size gs r
  last_size gs t = t

  abbrev pub last_goes : List Given → Bool → Size → Bool
  last_goes (g ∷ gs) b (Fun k p r) = last_goes gs (is_arrow r) r
  last_goes gs b t = b

  abbrev pub last_found : List Given → Size → Found → Found
  last_found (g ∷ gs) (Fun k p r) σ = last_found gs r (after gs g σ k)
  last_found gs t σ = σ

  -- as they are given, some of which wait
  abbrev pub given_wants : List Given → Opened → Size → Found → List Wanting
  given_wants (g ∷ gs) φ (Fun k p r) σ = record { node = here gs; argument = argument_by g.waits g; opened = opened_by gs g σ k φ; wanted = p } ∷ given_wants gs (opened_by gs g σ k φ) r (after gs g σ k)
  given_wants gs φ t σ = []

  applied_is : (reg : Bool) (gs : List Given) (ws : List Wanting) (φ : Opened) (b : Bool) (t : Size) (ls : List Later) (σ : Found) → Has_arrows gs t → All_kinds gs
      → applied n reg (arguments gs) ws φ b t ls σ ≡ applied n reg [] (ws ++ given_wants gs φ t σ) (last_opened gs φ t σ) (last_goes gs b t) (last_size gs t) (ls ++ laters gs φ t σ) (last_found gs t σ)
  unfolding applied
  applied_is reg [] ws φ b t ls σ h kinds = ap (λ x. applied n reg [] x φ b t ls σ) (sym (append-nil ws)) ∙ ap (λ x. applied n reg [] (ws ++ []) φ b t x σ) (sym (append-nil ls))
  applied_is reg (g ∷ gs) ws φ b (Fun k p r) ls σ h kinds =
      ap (λ (fr : ℕ → Dim). applied n reg (arguments gs) (ws ++ record { node = here gs; argument = argument_by g.waits g; opened = inside fr φ; wanted = p } ∷ []) (inside fr φ) (is_arrow r) r (ls ++ l ∷ []) (counted (suc k + levels_within r) (made_at (here gs) σ))) (frame_same (here gs) σ.next k g kinds.0)
      ∙ ap (λ m. applied n reg (arguments gs) (ws ++ w ∷ []) (opened_by gs g σ k φ) (is_arrow r) r (ls ++ l ∷ []) (counted (suc k + m) (made_at (here gs) σ))) h.0
      ∙ applied_is reg gs (ws ++ w ∷ []) (opened_by gs g σ k φ) (is_arrow r) r (ls ++ l ∷ []) (after gs g σ k) h.1 kinds.1
      ∙ ap (λ x. applied n reg [] x (last_opened gs (opened_by gs g σ k φ) r (after gs g σ k)) (last_goes gs (is_arrow r) r) (last_size gs r) ((ls ++ l ∷ []) ++ laters gs (opened_by gs g σ k φ) r (after gs g σ k)) (last_found gs r (after gs g σ k))) (append_assoc ws (w ∷ []) (given_wants gs (opened_by gs g σ k φ) r (after gs g σ k)))
      ∙ ap (λ x. applied n reg [] (ws ++ (w ∷ given_wants gs (opened_by gs g σ k φ) r (after gs g σ k))) (last_opened gs (opened_by gs g σ k φ) r (after gs g σ k)) (last_goes gs (is_arrow r) r) (last_size gs r) x (last_found gs r (after gs g σ k))) (append_assoc ls (l ∷ []) (laters gs (opened_by gs g σ k φ) r (after gs g σ k)))
    where
      w : Wanting
      w = record { node = here gs; argument = argument_by g.waits g; opened = opened_by gs g σ k φ; wanted = p }

      l : Later
      l = record { node = suc (here gs); size = in_opened φ (Fun k p r) }
  applied_is reg (g ∷ gs) ws φ b (Hole v) ls σ h kinds = absurd h
  applied_is reg (g ∷ gs) ws φ b (Open m v u) ls σ h kinds = absurd h
  applied_is reg (g ∷ gs) ws φ b (Level d t) ls σ h kinds = absurd h
  applied_is reg (g ∷ gs) ws φ b (Built f ts) ls σ h kinds = absurd h

  uses_same : (gs : List Given) (φ : Opened) (t : Size) (σ : Found) → All_kinds gs → uses (given_wants gs φ t σ) ≡ uses (wants gs φ t σ)
  uses_same [] φ t σ kinds = refl
  uses_same (g ∷ gs) φ (Fun k p r) σ kinds = ap (with_use (argument_by g.waits g) (opened_by gs g σ k φ) p) (uses_same gs (opened_by gs g σ k φ) r (after gs g σ k) kinds.1) ∙ use_same g (opened_by gs g σ k φ) p (uses (wants gs (opened_by gs g σ k φ) r (after gs g σ k))) kinds.0
  uses_same (g ∷ gs) φ (Hole v) σ kinds = refl
  uses_same (g ∷ gs) φ (Open m v u) σ kinds = refl
  uses_same (g ∷ gs) φ (Level d t) σ kinds = refl
  uses_same (g ∷ gs) φ (Built f ts) σ kinds = refl

  -- what is no data is matched later
  abbrev one_data : List Given → Given → Opened → Size → Argument → Found → Answer Found
  one_data gs g ψ p (Early at value named t) σ = cond (is_function t) (Ok σ) (meet (here gs) data_way at ψ p none_opened t (made_at (here gs) σ))
  one_data gs g ψ p (Late at f) σ = Ok σ

  one_same : (gs : List Given) (g : Given) (ψ : Opened) (p : Size) (σ : Found) → Kind_of g → one_data gs g ψ p (argument_by g.waits g) σ ≡ one_data gs g ψ p (early g) σ
  one_same gs g ψ p σ (inl d) = ap (λ o. one_data gs g ψ p (argument_by o g) σ) d
  one_same gs g ψ p σ (inr (inr W)) = ap (λ o. one_data gs g ψ p (argument_by o g) σ) W.waits ∙ ap (λ b. cond b (Ok σ) (meet (here gs) data_way g.node ψ p none_opened W.own (made_at (here gs) σ))) W.own_fun
      ∙ ap (λ b. cond b (Ok σ) (meet (here gs) data_way g.node ψ p none_opened g.size (made_at (here gs) σ))) (sym W.is_fun)
  one_same gs g ψ p σ (inr (inl W)) = ap (λ o. one_data gs g ψ p (argument_by o g) σ) W.waits ∙ ap (λ b. cond b (Ok σ) (meet (here gs) data_way g.node ψ p none_opened g.size (made_at (here gs) σ))) (sym W.is_fun)

  data_step : (gs : List Given) (g : Given) (φ : Opened) (k : ℕ) (p r : Size) (σ before : Found) → data_met (wants (g ∷ gs) φ (Fun k p r) σ) before ≡ then_do (one_data gs g (opened_by gs g σ k φ) p (early g) before) (λ found. data_met (wants gs (opened_by gs g σ k φ) r (after gs g σ k)) found)
  unfolding data_met
  data_step gs g φ k p r σ before = refl

  given_step : (gs : List Given) (g : Given) (φ : Opened) (k : ℕ) (p r : Size) (σ before : Found) (a : Argument) (ws : List Wanting) → data_met (record { node = here gs; argument = a; opened = opened_by gs g σ k φ; wanted = p } ∷ ws) before ≡ then_do (one_data gs g (opened_by gs g σ k φ) p a before) (λ found. data_met ws found)
  unfolding data_met
  given_step gs g φ k p r σ before (Early at value named t) ws = refl
  given_step gs g φ k p r σ before (Late at f) ws = refl

  data_same : (gs : List Given) (φ : Opened) (t : Size) (σ : Found) → All_kinds gs → (before τ : Found) → data_met (given_wants gs φ t σ) before ≡ Ok τ → data_met (wants gs φ t σ) before ≡ Ok τ
  data_same [] φ t σ kinds before τ q = q
  data_same (g ∷ gs) φ (Fun k p r) σ kinds before τ q =
      let x = then_ok (one_data gs g (opened_by gs g σ k φ) p (argument_by g.waits g) before) (sym (given_step gs g φ k p r σ before (argument_by g.waits g) (given_wants gs (opened_by gs g σ k φ) r (after gs g σ k))) ∙ q) in
      data_step gs g φ k p r σ before ∙ ap (λ y. then_do y (λ found. data_met (wants gs (opened_by gs g σ k φ) r (after gs g σ k)) found)) (sym (one_same gs g (opened_by gs g σ k φ) p before kinds.0) ∙ x.done) ∙ data_same gs (opened_by gs g σ k φ) r (after gs g σ k) kinds.1 x.first τ x.rest
  data_same (g ∷ gs) φ (Hole v) σ kinds before τ q = q
  data_same (g ∷ gs) φ (Open m v u) σ kinds before τ q = q
  data_same (g ∷ gs) φ (Level d t) σ kinds before τ q = q
  data_same (g ∷ gs) φ (Built f ts) σ kinds before τ q = q

  -- arguments of data alone
  abbrev pub All_data : List Given → Type 0
  All_data [] = Unit {0}
  All_data (g ∷ gs) = (Data g.size × (g.waits ≡ None)) × All_data gs

  pub data_kinds : (gs : List Given) → All_data gs → All_kinds gs
  data_kinds [] d = tt
  data_kinds (g ∷ gs) d = (inl d.0.1, data_kinds gs d.1)

  abbrev pub one_function : Bool → List Given → Opened → Size → Argument → Found → Step Found
  one_function reg gs ψ p (Early at value named t) σ = cond (is_function t) (ask (meet (here gs) (function_way reg) at ψ p none_opened t (made_at (here gs) σ))) (give σ)
  one_function reg gs ψ p (Late at f) σ = and_then (f (Some (record { node = here gs; is_regular = reg; size = read σ (in_opened ψ p) })) (made_at (here gs) σ)) (λ m. give m.found)

  pub function_step : (reg : Bool) (gs : List Given) (ψ : Opened) (p : Size) (a : Argument) (ws : List Wanting) (σ : Found) (st : State) → functions_met reg (record { node = here gs; argument = a; opened = ψ; wanted = p } ∷ ws) σ st ≡ and_then (one_function reg gs ψ p a σ) (λ found. functions_met reg ws found) st
  unfolding functions_met
  function_step reg gs ψ p (Early at value named t) ws σ st = refl
  function_step reg gs ψ p (Late at f) ws σ st = refl

  -- data is matched already
  pub data_passed : (reg : Bool) (gs : List Given) (g : Given) (ψ : Opened) (p : Size) (ws : List Wanting) (σ : Found) (st : State) → Data g.size × (g.waits ≡ None) → functions_met reg (record { node = here gs; argument = argument_by g.waits g; opened = ψ; wanted = p } ∷ ws) σ st ≡ functions_met reg ws σ st
  data_passed reg gs g ψ p ws σ st d = function_step reg gs ψ p (argument_by g.waits g) ws σ st ∙ ap (λ o. and_then (one_function reg gs ψ p (argument_by o g) σ) (λ found. functions_met reg ws found) st) d.1
      ∙ ap (λ b. and_then (cond b (ask (meet (here gs) (function_way reg) g.node ψ p none_opened g.size (made_at (here gs) σ))) (give σ)) (λ found. functions_met reg ws found) st) (no_function g.size d.0)

  pub no_function_met : (reg : Bool) (gs : List Given) (φ : Opened) (t : Size) (σ : Found) → Has_arrows gs t → All_data gs → (τ : Found) (st : State) → functions_met reg (given_wants gs φ t σ) τ st ≡ Ok (record { result = τ; state = st })
  unfolding functions_met
  no_function_met reg [] φ t σ h d τ st = refl
  no_function_met reg (g ∷ gs) φ (Fun k p r) σ h d τ st = data_passed reg gs g (opened_by gs g σ k φ) p (given_wants gs (opened_by gs g σ k φ) r (after gs g σ k)) τ st d.0 ∙ no_function_met reg gs (opened_by gs g σ k φ) r (after gs g σ k) h.1 d.1 τ st
  no_function_met reg (g ∷ gs) φ (Hole v) σ h d τ st = absurd h
  no_function_met reg (g ∷ gs) φ (Open m v u) σ h d τ st = absurd h
  no_function_met reg (g ∷ gs) φ (Level e t) σ h d τ st = absurd h
  no_function_met reg (g ∷ gs) φ (Built f ts) σ h d τ st = absurd h

  module _ (N : Names) (types : Sub) where
    abbrev pub Noted_with : List Given → Size → Found → State → Done Size → Type 0
    Noted_with gs t found st u = met_noted N types n (record { size = read found (in_opened (last_opened gs none_opened t nothing_found) (last_size gs t)); found = found; later = laters gs none_opened t nothing_found ++ uses (wants gs none_opened t nothing_found); goes_on = last_goes gs true t }) st ≡ Ok u

    -- data is matched, then functions, and then all nodes are noted
    pub record Steps_ran (reg : Bool) (gs : List Given) (t : Size) (st : State) (u : Done Size) : Type 0 where
      pub first : Found
      pub met : data_met (wants gs none_opened t nothing_found) (last_found gs t nothing_found) ≡ Ok first
      pub last : Done Found
      pub functions : functions_met reg (given_wants gs none_opened t nothing_found) first st ≡ Ok last
      pub noted : Noted_with gs t last.result last.state u

    -- behind data functions find sizes of these, and change none that is found
    pub record Matched_ran (P : Free → Type 0) (gs : List Given) (t : Size) (u : Done Size) : Type 0 where
      pub first : Found
      pub met : data_met (wants gs none_opened t nothing_found) (last_found gs t nothing_found) ≡ Ok first
      pub last : Found
      pub extends : Extends first last
      pub slots : (i : ℕ) → (last.size i ≡ first.size i) ⊎ P (last.size i)
      pub later : first.next ≤ last.next
      pub makers : (i : ℕ) → i < first.next → last.maker i ≡ first.maker i
      pub after : State
      pub noted : Noted_with gs t last after u

    matched_at : (reg : Bool) (ws : List Wanting) (σ : Found) (st : State) (d : Done Found) → all_matched reg ws σ st ≡ Ok d → (τ : Found) × (data_met ws σ ≡ Ok τ) × (functions_met reg ws τ st ≡ Ok d)
    unfolding all_matched
    matched_at reg ws σ st d q =
        let x = then_ok (ask (data_met ws σ) st) q in
        let a = asked (data_met ws σ) st x.first x.done in
        (x.first.result, a.answer, ap (functions_met reg ws x.first.result) (sym a.state) ∙ x.rest)

    applied_at : (reg : Bool) (ws : List Wanting) (φ : Opened) (b : Bool) (t : Size) (ls : List Later) (σ : Found) (st : State) (m : Done Met) → applied n reg [] ws φ b t ls σ st ≡ Ok m
        → (d : Done Found) × (all_matched reg ws σ st ≡ Ok d) × (m ≡ record { result = record { size = read d.result (in_opened φ t); found = d.result; later = ls ++ uses ws; goes_on = b }; state = d.state })
    unfolding applied
    applied_at reg ws φ b t ls σ st m q = let x = then_ok (all_matched reg ws σ st) q in (x.first, x.done, sym (same_ok x.rest))

    finished_at : (reg : Bool) (xs : List Argument) (t : Size) (st : State) (u : Done Size) → finished N types n (Applied t reg xs) st ≡ Ok u → (m : Done Met) × (applied n reg xs [] none_opened true t [] nothing_found st ≡ Ok m) × (met_noted N types n m.result m.state ≡ Ok u)
    finished_at reg xs t st u q = let x = then_ok (applied n reg xs [] none_opened true t [] nothing_found st) q in (x.first, x.done, x.rest)

    pub steps_ran : (reg : Bool) (gs : List Given) (t : Size) (st : State) (u : Done Size) → Has_arrows gs t → All_kinds gs → finished N types n (Applied t reg (arguments gs)) st ≡ Ok u → Steps_ran reg gs t st u
    steps_ran reg gs t st u h kinds q = record { first = C.0; met = data_same gs none_opened t nothing_found kinds (last_found gs t nothing_found) C.0 C.1; last = B.0; functions = C.2; noted = ap (λ (m : Done Met). met_noted N types n m.result m.state) (sym now) ∙ A.2 }
      where
        A : (m : Done Met) × (applied n reg (arguments gs) [] none_opened true t [] nothing_found st ≡ Ok m) × (met_noted N types n m.result m.state ≡ Ok u)
        A = finished_at reg (arguments gs) t st u q

        B : (d : Done Found) × (all_matched reg (given_wants gs none_opened t nothing_found) (last_found gs t nothing_found) st ≡ Ok d) × (A.0 ≡ record { result = record { size = read d.result (in_opened (last_opened gs none_opened t nothing_found) (last_size gs t)); found = d.result; later = (laters gs none_opened t nothing_found) ++ uses (given_wants gs none_opened t nothing_found); goes_on = last_goes gs true t }; state = d.state })
        B = applied_at reg (given_wants gs none_opened t nothing_found) (last_opened gs none_opened t nothing_found) (last_goes gs true t) (last_size gs t) (laters gs none_opened t nothing_found) (last_found gs t nothing_found) st A.0 (ap (λ (f : Step Met). f st) (sym (applied_is reg gs [] none_opened true t [] nothing_found h kinds)) ∙ A.1)

        C : (τ : Found) × (data_met (given_wants gs none_opened t nothing_found) (last_found gs t nothing_found) ≡ Ok τ) × (functions_met reg (given_wants gs none_opened t nothing_found) τ st ≡ Ok B.0)
        C = matched_at reg (given_wants gs none_opened t nothing_found) (last_found gs t nothing_found) st B.0 B.1

        now : A.0 ≡ record { result = record { size = read B.0.result (in_opened (last_opened gs none_opened t nothing_found) (last_size gs t)); found = B.0.result; later = (laters gs none_opened t nothing_found) ++ uses (wants gs none_opened t nothing_found); goes_on = last_goes gs true t }; state = B.0.state }
        now = B.2 ∙ ap (λ ls. record { result = record { size = read B.0.result (in_opened (last_opened gs none_opened t nothing_found) (last_size gs t)); found = B.0.result; later = (laters gs none_opened t nothing_found) ++ ls; goes_on = last_goes gs true t }; state = B.0.state }) (uses_same gs none_opened t nothing_found kinds)

    -- arguments of data alone leave the state as it is
    pub data_ran : (P : Free → Type 0) (reg : Bool) (gs : List Given) (t : Size) (st : State) (u : Done Size) → Has_arrows gs t → All_data gs → Steps_ran reg gs t st u → (M : Matched_ran P gs t u) × (M.after ≡ st)
    data_ran P reg gs t st u h d R = (record { first = R.first; met = R.met; last = R.first; extends = λ j d s z. z; slots = λ i. inl refl; later = omega arith; makers = λ i l. refl; after = st; noted = ap (λ (x : Done Found). met_noted N types n (record { size = read x.result (in_opened (last_opened gs none_opened t nothing_found) (last_size gs t)); found = x.result; later = laters gs none_opened t nothing_found ++ uses (wants gs none_opened t nothing_found); goes_on = last_goes gs true t }) x.state) same ∙ R.noted }, refl)
      where
        same : record { result = R.first; state = st } ≡ R.last
        same = same_ok (sym (no_function_met reg gs none_opened t nothing_found h d R.first st) ∙ R.functions)

  -- ---- numbers, and who made them

  pub last_next : (gs : List Given) (t : Size) (σ : Found) → σ.next ≤ (last_found gs t σ).next
  last_next [] t σ = omega arith
  last_next (g ∷ gs) (Fun k p r) σ = let l = last_next gs r (after gs g σ k) in omega (arith, l)
  last_next (g ∷ gs) (Hole v) σ = omega arith
  last_next (g ∷ gs) (Open m v u) σ = omega arith
  last_next (g ∷ gs) (Level d t) σ = omega arith
  last_next (g ∷ gs) (Built f ts) σ = omega arith

  pub kept_maker : (m : ℕ) (σ : Found) (i : ℕ) → i < σ.next → (made_at m σ).maker i ≡ σ.maker i
  kept_maker m σ i l = ap (λ b. cond b (σ.maker i) m) (lt-ltb i σ.next l)

  pub last_maker : (gs : List Given) (t : Size) (σ : Found) (i : ℕ) → i < σ.next → (last_found gs t σ).maker i ≡ σ.maker i
  last_maker [] t σ i l = refl
  last_maker (g ∷ gs) (Fun k p r) σ i l = last_maker gs r (after gs g σ k) i (omega (arith, l)) ∙ kept_maker (here gs) σ i l
  last_maker (g ∷ gs) (Hole v) σ i l = refl
  last_maker (g ∷ gs) (Open m v u) σ i l = refl
  last_maker (g ∷ gs) (Level d t) σ i l = refl
  last_maker (g ∷ gs) (Built f ts) σ i l = refl

  -- the positions of a function are made where it is applied
  pub own_maker : (gs : List Given) (g : Given) (k : ℕ) (r : Size) (σ : Found) (i : ℕ) → i < k → (last_found gs r (after gs g σ k)).maker (σ.next + i) ≡ here gs
  own_maker gs g k r σ i l = last_maker gs r (after gs g σ k) (σ.next + i) (omega (arith, l)) ∙ ap (λ b. cond b (σ.maker (σ.next + i)) (here gs)) (le-ltb (σ.next + i) σ.next (omega arith))

  module _ (In P : Free → Type 0) (no_slot : (d : Free) → In d → is_slot d ≡ false) (settled : (d : Free) → P d → is_slot d ≡ false) where
    pub last_slots : (gs : List Given) (t : Size) (σ : Found) → Slots P settled σ → Slots P settled (last_found gs t σ)
    last_slots [] t σ h = h
    last_slots (g ∷ gs) (Fun k p r) σ h = last_slots gs r (after gs g σ k) h
    last_slots (g ∷ gs) (Hole v) σ h = h
    last_slots (g ∷ gs) (Open m v u) σ h = h
    last_slots (g ∷ gs) (Level d t) σ h = h
    last_slots (g ∷ gs) (Built f ts) σ h = h

    -- ---- what is read once all are matched

    abbrev pub Plain_given : Given → Type 0
    Plain_given g = Formed g.size × Each (Scoped P) 0 g.size × ((d : Free) → g.value ≡ Some d → is_slot d ≡ false) × (g.named ≡ true → g.own ≡ g.size)

    abbrev pub All_plain : List Given → Type 0
    All_plain [] = Unit {0}
    All_plain (g ∷ gs) = Plain_given g × All_plain gs

    abbrev pub Reads : List Given → Opened → Size → Found → Found → Type 0
    Reads (g ∷ gs) φ (Fun k p r) σ τ = (read τ (in_opened (opened_by gs g σ k φ) p) ≡ g.size) × Reads gs (opened_by gs g σ k φ) r (after gs g σ k) τ
    Reads gs φ t σ τ = Unit {0}

    pub record Kept (σ τ : Found) : Type 0 where
      pub extends : Extends σ τ
      pub slots : Slots P settled σ → Slots P settled τ
      pub maker : (i : ℕ) → i < σ.next → τ.maker i ≡ σ.maker i
      pub next : τ.next ≡ σ.next

    -- one argument more
    one_met_more : (gs : List Given) (g : Given) (φ : Opened) (k : ℕ) (p r : Size) (σ : Found) (ok : ℕ → ℕ → Type 0) (δ : Frames) → Framed φ ok δ → Data_taken p g.size → Each (Okay In (more (Meant k g) ok)) 0 p → Formed p → Plain_given g → (before τ υ : Found) → Extends τ υ → data_met (wants (g ∷ gs) φ (Fun k p r) σ) before ≡ Ok τ
        → (Framed (opened_by gs g σ k φ) (more (Meant k g) ok) (pushed (frame (here gs) σ.next k (number_value g)) δ) → (first : Found) → data_met (wants gs (opened_by gs g σ k φ) r (after gs g σ k)) first ≡ Ok τ → Reads gs (opened_by gs g σ k φ) r (after gs g σ k) υ × Kept first τ)
        → Reads (g ∷ gs) φ (Fun k p r) σ υ × Kept before τ
    unfolding data_met
    one_met_more gs g φ k p r σ ok δ fr ((dp, same), dg) ep fp a before τ υ further q go =
        let now : then_do (meet (here gs) data_way g.node (opened_by gs g σ k φ) p none_opened g.size (made_at (here gs) before)) (λ found. data_met (wants gs (opened_by gs g σ k φ) r (after gs g σ k)) found) ≡ Ok τ =
        ap (λ b. then_do (cond b (Ok before) (meet (here gs) data_way g.node (opened_by gs g σ k φ) p none_opened g.size (made_at (here gs) before))) (λ found. data_met (wants gs (opened_by gs g σ k φ) r (after gs g σ k)) found)) (sym (no_function g.size dg)) ∙ q in
        let x = then_ok (meet (here gs) data_way g.node (opened_by gs g σ k φ) p none_opened g.size (made_at (here gs) before)) now in
        let framed : Framed (opened_by gs g σ k φ) (more (Meant k g) ok) (pushed (frame (here gs) σ.next k (number_value g)) δ) = push_framed φ ok δ (applied_frame (here gs) σ.next k (early g)) (frame (here gs) σ.next k (number_value g)) (Meant k g) (framed_as (here gs) σ.next k g) fr in
        let opened = opens In no_slot (opened_by gs g σ k φ) (more (Meant k g) ok) (pushed (frame (here gs) σ.next k (number_value g)) δ) framed (here gs) g.node p dp ep in
        let given_settled : Each (Scoped Is_settled) 0 g.size = each_scoped P Is_settled settled g.size 0 a.1 in
        let reads = met_reads (here gs) g.node (opened_by gs g σ k φ) p g.size (made_at (here gs) before) x.first dp dg fp a.0 opened given_settled same x.done in
        let stays : Stays P settled (made_at (here gs) before) x.first = met_stays P settled (here gs) g.node (opened_by gs g σ k φ) p g.size (made_at (here gs) before) x.first dp dg a.1 x.done in
        let rest = go framed x.first x.rest in (
          (read_still (here gs) g.node (opened_by gs g σ k φ) x.first υ (λ j d s z. further j d s (rest.1.extends j d s z)) p dp opened (subst (λ w. Each (Scoped Is_settled) 0 w) (sym reads.0) given_settled) ∙ reads.0, rest.0),
          record {
            extends = λ j d s z. rest.1.extends j d s (reads.1 j d s z);
            slots = λ w. rest.1.slots (stays.0 w);
            maker = λ i l. rest.1.maker i (subst (λ m. i < m) (sym stays.2) l) ∙ ap (λ (m : ℕ → ℕ). m i) stays.1 ∙ kept_maker (here gs) before i l;
            next = rest.1.next ∙ stays.2;
          },
        )

    -- a function is no data
    one_met_function : (gs : List Given) (g : Given) (φ : Opened) (k : ℕ) (p r : Size) (σ : Found) (ok : ℕ → ℕ → Type 0) (δ : Frames) → Framed φ ok δ → Function_taken p g.size → (before τ υ : Found) → data_met (wants (g ∷ gs) φ (Fun k p r) σ) before ≡ Ok τ
        → (Framed (opened_by gs g σ k φ) (more (Meant k g) ok) (pushed (frame (here gs) σ.next k (number_value g)) δ) → data_met (wants gs (opened_by gs g σ k φ) r (after gs g σ k)) before ≡ Ok τ → Reads gs (opened_by gs g σ k φ) r (after gs g σ k) υ × Kept before τ)
        → Reads (g ∷ gs) φ (Fun k p r) σ υ × Kept before τ
    unfolding data_met
    one_met_function gs g φ k p r σ ok δ fr f before τ υ q go =
        let framed : Framed (opened_by gs g σ k φ) (more (Meant k g) ok) (pushed (frame (here gs) σ.next k (number_value g)) δ) = push_framed φ ok δ (applied_frame (here gs) σ.next k (early g)) (frame (here gs) σ.next k (number_value g)) (Meant k g) (framed_as (here gs) σ.next k g) fr in
        let rest = go framed (ap (λ b. then_do (cond b (Ok before) (meet (here gs) data_way g.node (opened_by gs g σ k φ) p none_opened g.size (made_at (here gs) before))) (λ found. data_met (wants gs (opened_by gs g σ k φ) r (after gs g σ k)) found)) (sym f.is_fun) ∙ q) in
        ((function_read υ (opened_by gs g σ k φ) p g.size f, rest.0), rest.1)

    pub met_all : (gs : List Given) (φ : Opened) (t : Size) (σ : Found) (ok : ℕ → ℕ → Type 0) (δ : Frames) → Framed φ ok δ → Takes_all gs t → Each (Okay In ok) 0 t → Formed t → All_plain gs → (before τ υ : Found) → Extends τ υ → data_met (wants gs φ t σ) before ≡ Ok τ → Reads gs φ t σ υ × Kept before τ
    unfolding data_met Each Formed
    met_all [] φ t σ ok δ fr h e f a before τ υ further q = (tt, subst (Kept before) (same_ok q) (record { extends = λ j d s z. z; slots = λ k. k; maker = λ i l. refl; next = refl }))
    met_all (g ∷ gs) φ (Fun k p r) σ ok δ fr h e f a before τ υ further q =
        let w = step_in In ok k p r g f a.0.0 (taken_typed p g.size h.0) e in
        by_kind h.0 w.0 (λ framed first z. met_all gs (opened_by gs g σ k φ) r (after gs g σ k) (more (Meant k g) ok) (pushed (frame (here gs) σ.next k (number_value g)) δ) framed h.1 w.1 f.1 a.1 first τ υ further z)
      where
        by_kind : Taken_by p g.size → Each (Okay In (more (Meant k g) ok)) 0 p
            → (Framed (opened_by gs g σ k φ) (more (Meant k g) ok) (pushed (frame (here gs) σ.next k (number_value g)) δ) → (first : Found) → data_met (wants gs (opened_by gs g σ k φ) r (after gs g σ k)) first ≡ Ok τ → Reads gs (opened_by gs g σ k φ) r (after gs g σ k) υ × Kept first τ)
            → Reads (g ∷ gs) φ (Fun k p r) σ υ × Kept before τ
        by_kind (inl d) ep go = one_met_more gs g φ k p r σ ok δ fr d ep f.0 a.0 before τ υ further q go
        by_kind (inr d) ep go = one_met_function gs g φ k p r σ ok δ fr d before τ υ q (λ framed z. go framed before z)
    met_all (g ∷ gs) φ (Hole v) σ ok δ fr h e f a before τ υ further q = absurd h
    met_all (g ∷ gs) φ (Open m v u) σ ok δ fr h e f a before τ υ further q = absurd h
    met_all (g ∷ gs) φ (Level d t) σ ok δ fr h e f a before τ υ further q = absurd h
    met_all (g ∷ gs) φ (Built b ts) σ ok δ fr h e f a before τ υ further q = absurd h
