-- When a value of one sized type may stand where another is wanted. Of functions: whatever the wanted type's caller chooses, at
-- a node that stands nowhere else, the function is used at some sizes; what is met when it runs, at another such node, is met
-- by the wanted type's caller in its way.
use Rattle.std.specs.Prelude.{◌≡◌, ℕ, suc, ◌<◌}
use Rattle.fut_types.specs.declared.Head.{Head}
use Rattle.sized_types.specs.Sizes.{Free, Const, Name, Own, Unknown, Slot, Dim, At, Bound, Size, Hole, Open, Level, Built, Fun, Sizes, no_size, size_and, opened}

-- holds of all dims, each told how many function types are around it
unfoldable mutual
  pub Each : (ℕ → Dim → Type 0) → ℕ → Size → Type 0
  Each ok j (Hole v) = Unit {0}
  Each ok j (Open n v u) = Unit {0}
  Each ok j (Level d t) = ok j d × Each ok j t
  Each ok j (Built h ts) = Each_all ok j ts
  Each ok j (Fun k p r) = Each ok (suc j) p × Each ok (suc j) r

  pub Each_all : (ℕ → Dim → Type 0) → ℕ → Sizes → Type 0
  Each_all ok j no_size = Unit {0}
  Each_all ok j (size_and t ts) = Each ok j t × Each_all ok j ts

-- sizes by themselves are of these, and no frame is meant that isn't there
abbrev pub Scoped : (Free → Type 0) → ℕ → Dim → Type 0
Scoped In j (At d) = In d
Scoped In j (Bound k i) = k < j

-- of the frame in which a part of a function type stands, only these positions are meant
abbrev pub Of_positions : (ℕ → Type 0) → ℕ → Dim → Type 0
Of_positions Q j (At d) = Unit {0}
Of_positions Q j (Bound k i) = suc k ≡ j → Q i

-- no function stands in it
unfoldable mutual
  pub Data : Size → Type 0
  Data (Hole v) = Unit {0}
  Data (Open n v u) = ⊥
  Data (Level d t) = Data t
  Data (Built h ts) = All_data ts
  Data (Fun k p r) = ⊥

  pub All_data : Sizes → Type 0
  All_data no_size = Unit {0}
  All_data (size_and t ts) = Data t × All_data ts

-- neither met nor chosen at this node
abbrev pub Free_of : ℕ → Free → Type 0
Free_of n (Const c) = Unit {0}
Free_of n (Name b) = Unit {0}
Free_of n (Own k i) = k ≡ n → ⊥
Free_of n (Unknown k i) = k ≡ n → ⊥
Free_of n (Slot i) = ⊥

abbrev pub Never_at : ℕ → Size → Type 0
Never_at n t = Each (Scoped (Free_of n)) 0 t

-- how a function is used where another type is wanted: δ is what its positions stand for, ρ what those of the wanted type do
pub record Instance (k : ℕ) (p r : Size) (l : ℕ) (q s : Size) (n m : ℕ) (δ ρ : ℕ → Free) : Type 0 where
  pub two : n ≡ m → ⊥
  pub low : Each (Of_positions (λ i. i < k)) 1 p
  pub wanted_low : Each (Of_positions (λ i. i < l)) 1 q
  pub new : Never_at m (Fun k p r)
  pub wanted_new : Never_at n (Fun l q s) × Never_at m (Fun l q s)
  -- what the wanted type's caller chooses, and the argument's value
  pub chosen : (i : ℕ) → i < l → ρ i ≡ Own n i
  pub argument : ρ l ≡ Unknown n l
  -- the sizes at which the function is used, its argument's value, and what is met
  pub used : (i : ℕ) → i < k → Free_of m (δ i)
  pub value : δ k ≡ Unknown n l
  pub met : (i : ℕ) → k < i → δ i ≡ Unknown m i

mutual
  pub data Suits : Size → Size → Type 0 where
    suits_same : {t : Size} → Suits t t
    suits_parts : {h : Head} {ts us : Sizes} → All_suit ts us → Suits (Built h ts) (Built h us)
    suits_function : {k l : ℕ} {p r q s : Size} (n m : ℕ) (δ ρ : ℕ → Free) → Instance k p r l q s n m δ ρ → Never_at n (Fun k p r) → Suits (opened ρ q) (opened δ p) → Suits (opened δ r) (opened ρ s) → Suits (Fun k p r) (Fun l q s)

  pub data All_suit : Sizes → Sizes → Type 0 where
    suit_none : All_suit no_size no_size
    suit_more : {t u : Size} {ts us : Sizes} → Suits t u → All_suit ts us → All_suit (size_and t ts) (size_and u us)
