-- Sized types that the nodes of an application share: a node that follows another has what that gives.
use Rattle.std.specs.Prelude.{◌≡◌, ℕ, zero, suc, Bool, true, List, [], ◌∷◌, Option, Some, None}
use Rattle.fut_sizes.specs.Applications.{all_settled}
use Rattle.fut_sizes.specs.Functions.{is_slot, quantified, sizes_in}
use Rattle.fut_sizes.specs.Matching as matching
use Rattle.fut_sizes.specs.Matching.{Opened, inside, read}
use Rattle.fut_sizes.specs.Suiting.{Each, Scoped}
use Rattle.sized_types.specs.Sizes.{Dim, Size, Hole, Open, Level, Built, Fun, Sizes, no_size, size_and}
use Rattle.size_arena.specs.Frames.{opened_of}
use Rattle.size_arena.specs.Trees.{size_of}
use Rattle.size_slots.specs.declared.slots.Found.{Found}
use Rattle.size_slots.specs.Held.{Holds}
use Rattle.size_slots.proofs.TakeLaws.{is_form}
use Rattle.size_applying.specs.declared.arguments.Later as laters
use Rattle.size_applying.specs.declared.seeing.Seen.{Seen}
use Rattle.size_applying.specs.Wanted.{later_size}

-- ---- nodes that follow one another

-- a node's sized type is that of a function which gives this, in these frames
pub record Leads (l : laters.Later) (φ : Opened) (t : Size) : Type 0 where
  pub chosen : ℕ
  pub from : Size
  pub frame : ℕ → Dim
  pub is : size_of l.size.now ≡ Fun chosen from t
  pub opened : φ ≡ inside frame (opened_of l.frames.now)

-- it gives what the next one has, if that follows
abbrev pub Leads_to : laters.Later → laters.Later → Type 0
Leads_to l m = m.follows ≡ true → Leads l (opened_of m.frames.now) (size_of m.size.now)

-- each leads to the next, and of the last one this holds
abbrev pub Chain : laters.Later → List laters.Later → (laters.Later → Type 0) → Type 0
Chain l [] P = P l
Chain l (m ∷ ls) P = Leads_to l m × Chain m ls P

abbrev pub Chained : List laters.Later → (laters.Later → Type 0) → Type 0
Chained [] P = Unit {0}
Chained (l ∷ ls) P = Chain l ls P

abbrev pub any_last : laters.Later → Type 0
any_last l = Unit {0}

-- ---- function types that give what names none of their positions

-- positions of no more function types than so many around it are named
abbrev pub Within_frames : ℕ → Size → Type 0
Within_frames n t = Each (Scoped (λ d. Unit {0})) n t

-- so many in a row
unfoldable pub Apart : ℕ → Size → Type 0
Apart zero t = Unit {0}
Apart (suc n) (Fun k p r) = Within_frames 0 r × Apart n r
Apart (suc n) t = ⊥

-- ---- a node's sized type, read

-- each variable in it stands for what is no variable
unfoldable mutual
  pub Formed : matching.Found → Size → Type 0
  Formed σ (Hole v) = Unit {0}
  Formed σ (Open n v u) = is_form (σ.type n v u) ≡ true
  Formed σ (Level d t) = Formed σ t
  Formed σ (Built h ts) = All_formed σ ts
  Formed σ (Fun k p r) = Formed σ p × Formed σ r

  pub All_formed : matching.Found → Sizes → Type 0
  All_formed σ no_size = Unit {0}
  All_formed σ (size_and t ts) = Formed σ t × All_formed σ ts

pub record Sees (s : Seen) (σ : matching.Found) (t : Size) : Type 0 where
  pub is : size_of s.size.now ≡ read σ t
  pub formed : Formed σ t
  pub apart : Apart s.apart t
  pub none : s.no_slots ≡ true → sizes_in is_slot (size_of s.size.now) ≡ []

-- what was seen last is of a node that leads to this one
abbrev pub Leads_on : Option Seen → laters.Later → matching.Found → Type 0
Leads_on None m σ = Unit {0}
Leads_on (Some s) m σ = (l : laters.Later) × Sees s σ (later_size l) × Leads_to l m

-- what stands behind the arrow of what was seen last, which names none of its positions
abbrev pub Seen_behind : Option Seen → Bool → Option Seen → Type 0
Seen_behind last follows None = Unit {0}
Seen_behind last follows (Some s) = (b : Seen) × (last ≡ Some b) × (follows ≡ true) × ((σ : matching.Found) (k : ℕ) (p r : Size) → Sees b σ (Fun k p r) → Sees s σ r × Within_frames 0 r)

-- what is found once a node's variables are settled
abbrev pub found_later : laters.Later → matching.Found → matching.Found
found_later l σ = all_settled (later_size l) σ

abbrev pub Has_seen : Found → laters.Later → matching.Found → Seen → Type 0
Has_seen table l σ s = Holds table (found_later l σ) × Sees s (found_later l σ) (later_size l)

-- what is noted of a node
abbrev pub noted_size : laters.Later → matching.Found → Size
noted_size l σ = quantified (found_later l σ).maker (read (found_later l σ) (later_size l))
