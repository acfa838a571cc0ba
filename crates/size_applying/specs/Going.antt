-- How far an application is.
use Rattle.std.specs.Prelude.{◌≡◌, ℕ, suc, ◌+◌, Bool, true, false, List, [], ◌∷◌, ◌++◌, Result, Ok, Err}
use Rattle.fut_scalar.specs.declared.memory.NoMemory.{NoMemory}
use Rattle.fut_types.specs.Types.{Sub}
use Rattle.fut_typing.specs.Names.{Names}
use Rattle.sized_types.specs.Sizes.{Size, Fun}
use Rattle.fut_sizes.specs.Applications.{Argument, Later, Met, Wanting, applied_frame, is_arrow}
use Rattle.fut_sizes.specs.Levels.{levels_within}
use Rattle.fut_sizes.specs.Matching as matching
use Rattle.fut_sizes.specs.Matching.{Opened, counted, in_opened, inside, made_at}
use Rattle.size_slots.specs.declared.slots.Found.{Found}
use Rattle.size_slots.specs.Held.{Holds}
use Rattle.size_arena.specs.Frames.{opened_of}
use Rattle.size_arena.specs.Trees.{size_of}
use Rattle.size_applying.specs.declared.arguments.Later as laters
use Rattle.size_applying.specs.declared.going.Application.{Application}
use Rattle.size_applying.specs.Sharing.{Leads, Chained, any_last}
use Rattle.size_applying.specs.Wanted.{All_want, laters_of}

-- what an application gives stands behind the arrow of its last node, where it follows that
abbrev pub gives_last : Application → laters.Later → Type 0
gives_last a l = a.gives.follows ≡ true → Leads l (opened_of a.gives.frames.now) (size_of a.gives.size.now)

-- what it wants since all was matched last, the frames around what it gives, whether it goes on, what it gives, and what is
-- sized later
pub record Goes (N : Names) (types : Sub) (a : Application) (ws : List Wanting) (φ : Opened) (goes_on : Bool) (t : Size) (ls : List Later) : Type 0 where
  pub wants : All_want N types a.wantings ws
  pub opened : opened_of a.gives.frames.now ≡ φ
  pub last : a.gives.goes_on ≡ goes_on
  pub gives : size_of a.gives.size.now ≡ t
  pub later : laters_of a.later ≡ ls
  pub levels : a.gives.levels ≡ levels_within t
  pub chained : Chained a.later (gives_last a)

-- an argument of the application at n goes along an arrow of what the application gives, if that is a function type
pub data Takes_arrow (N : Names) (types : Sub) (n : ℕ) (a : Argument) (ws : List Wanting) (φ : Opened) (goes_on : Bool) (t : Size) (ls : List Later) (σ : matching.Found) (new : Application) (table : Found) : Result Bool NoMemory → Type 0 where
  arrow_taken : {k : ℕ} {p r : Size} → t ≡ Fun k p r
      → Goes N types new (ws ++ record { node = n; argument = a; opened = inside (applied_frame n σ.next k a) φ; wanted = p } ∷ []) (inside (applied_frame n σ.next k a) φ) (is_arrow r) r (ls ++ record { node = suc n; size = in_opened φ t } ∷ [])
      → Holds table (counted (suc k + levels_within r) (made_at n σ)) → Takes_arrow N types n a ws φ goes_on t ls σ new table (Ok true)
  no_arrow_left : is_arrow t ≡ false → Goes N types new ws φ goes_on t ls → Holds table σ → Takes_arrow N types n a ws φ goes_on t ls σ new table (Ok false)
  no_memory_left : {e : NoMemory} → Takes_arrow N types n a ws φ goes_on t ls σ new table (Err e)

-- an application that is over, once all is matched
pub record Is_met (table : Found) (a : Application) (m : Met) : Type 0 where
  pub size : size_of a.gives.size.now ≡ m.size
  pub found : Holds table m.found
  pub later : laters_of a.later ≡ m.later
  pub chained : Chained a.later any_last
  pub goes_on : a.gives.goes_on ≡ m.goes_on
