-- What tables tell of a program, and the judgements of unfolding by whatever typing and sizing they tell.
use Rattle.std.specs.Prelude.{◌≡◌, ℕ, List, Option}
use Rattle.std.specs.Borrow.{Bor}
use Rattle.fut_scalar.specs.declared.place.BindId.{BindId}
use Rattle.fut_scalar.specs.declared.place.Place.{Place}
use Rattle.fut_scalar.specs.declared.scalar.IntType.{IntType}
use Rattle.fut_flat.specs.declared.prim.Ref.{Ref}
use Rattle.fut_flat.specs.Erased.{FlatTerm, FlatPattern, FlatTurns}
use Rattle.fut_flat.specs.Terms.{Patterns, Operation, Terms}
use Rattle.fut_meaning.specs.Found.{Sizing, Told}
use Rattle.fut_meaning.specs.Flats.{FlatTop}
use Rattle.fut_blocks.specs.Rows.{Row, Size_test}
use Rattle.fut_blocks.specs.declared.block.Program.{Program}
use Rattle.told_rows.specs.Tables.{Told_by}
use Rattle.told_rows.specs.declared.tables.Sizes.{Sizes}
use Rattle.unfold.specs.Knowns.{Known, Scope, Tops}
use Rattle.unfold.specs.Programs as programs
use Rattle.unfold.specs.Shapes.{Shape, Shapes}
use Rattle.unfold.specs.Stuck as lacking
use Rattle.unfold.specs.Telling.{enter, literal_row, test_at}
use Rattle.unfold.specs.Unfolding as rules
use Rattle.unfold.specs.Unfolding.{Bindings}
use Rattle.unfold_parts.specs.Tables.{integer_at}
use Rattle.unfold_parts.specs.declared.told.Told.{Told as Held_told}

-- tables of sizes, where there are some
abbrev pub Held_sizes : Type 0
Held_sizes = Option (Bor Sizes)

pub record Tell (T : Held_told) (told : Told) : Type 0 where
  pub integers : (n : ℕ) → told.integer_at n ≡ integer_at T.types.now n
  pub sizes : Told_by T.sizes told.sizes

-- ---- names, where patterns are entered by the sizing that is told

-- the names, where a pattern at a node was entered with what is known
abbrev pub Enters : Held_sizes → ℕ → Known → Scope → Scope → Type 0
Enters S q s sc inner = (Z : Option Sizing) → Told_by S Z → inner ≡ enter Z q s sc

-- what the next definition begins with, where one was evaluated whose name has a node
abbrev pub Sees : Held_sizes → ℕ → Known → Scope → Scope → Type 0
Sees S q s seen next = (Z : Option Sizing) → Told_by S Z → next ≡ programs.seeing Z q s seen

abbrev pub Binds : Held_sizes → ℕ → FlatPattern → Known → Scope → ℕ → Bindings → Scope → ℕ → Type 0
Binds S q p s sc n bs inner m = (Z : Option Sizing) → Told_by S Z → rules.Binds Z q p s sc n bs inner m

abbrev pub All_bind : Held_sizes → ℕ → Patterns Ref BindId → List Known → Scope → ℕ → Bindings → Scope → ℕ → Type 0
All_bind S q ps ss sc n bs inner m = (Z : Option Sizing) → Told_by S Z → rules.All_bind Z q ps ss sc n bs inner m

abbrev pub Binds_to : Held_sizes → ℕ → FlatPattern → Known → Scope → Scope → Type 0
Binds_to S q p s sc inner = (n : ℕ) × (bs : Bindings) × (m : ℕ) × Binds S q p s sc n bs inner m

-- ---- operations

-- whatever is told of rows and of the sizes that data has to have
abbrev pub Operates : IntType → Operation Ref BindId → Place → List Known → ℕ → Bindings → Known → ℕ → Type 0
Operates t o at ss n bs s m = (row : Row) (test : Option Size_test) → rules.Operates row test t o at ss n bs s m

-- ---- terms and programs

module _ (T : Held_told) where
  -- an operation under these names, at a node
  abbrev pub Operates_at : Scope → ℕ → Operation Ref BindId → Place → List Known → ℕ → Bindings → Known → ℕ → Type 0
  Operates_at sc lo o at ss n bs s m = (told : Told) → Tell T told → rules.Operates (literal_row told.sizes sc lo) (test_at told.sizes sc lo) (told.integer_at lo) o at ss n bs s m

  module _ (tops : Tops) where
    abbrev pub Unfolds : Scope → ℕ → FlatTerm → ℕ → Bindings → Known → ℕ → Type 0
    Unfolds sc lo t n bs s m = (told : Told) → Tell T told → rules.Unfolds told tops sc lo t n bs s m

    abbrev pub Unfold_all : Scope → ℕ → Terms Ref BindId → ℕ → Bindings → List Known → ℕ → Type 0
    Unfold_all sc lo ts n bs ss m = (told : Told) → Tell T told → rules.Unfold_all told tops sc lo ts n bs ss m

    abbrev pub Applies : Known → Known → ℕ → Bindings → Known → ℕ → Type 0
    Applies h s n bs s' m = (told : Told) → Tell T told → rules.Applies told tops h s n bs s' m

    abbrev pub Applies_all : List Known → Known → ℕ → Bindings → Known → ℕ → Type 0
    Applies_all ss h n bs s' m = (told : Told) → Tell T told → rules.Applies_all told tops ss h n bs s' m

    abbrev pub Stuck : Scope → ℕ → FlatTerm → Type 0
    Stuck sc lo t = (told : Told) → Tell T told → lacking.Stuck told tops sc lo t

    abbrev pub Stuck_all : Scope → ℕ → Terms Ref BindId → Type 0
    Stuck_all sc lo ts = (told : Told) → Tell T told → lacking.Stuck_all told tops sc lo ts

    abbrev pub Stuck_run : Known → Known → Type 0
    Stuck_run h s = (told : Told) → Tell T told → lacking.Stuck_run told tops h s

    abbrev pub Stuck_runs : List Known → Known → Type 0
    Stuck_runs ss h = (told : Told) → Tell T told → lacking.Stuck_runs told tops ss h

    abbrev pub Turn_names : Scope → Scope → ℕ → FlatTurns → Scope → Type 0
    Turn_names sc inside at turns inner = (told : Told) → Tell T told → lacking.Turn_names told tops sc inside at turns inner

  -- under the names and what was entered that the first one begins with
  abbrev pub Definitions_unfold : ℕ → Scope → Tops → List FlatTop → ℕ → Bindings → Tops → ℕ → Type 0
  Definitions_unfold entry seen tops ds n bs end m = (told : Told) → Tell T told → programs.Definitions_unfold told entry seen tops ds n bs end m

  abbrev pub Definitions_stuck : ℕ → Scope → Tops → List FlatTop → Type 0
  Definitions_stuck entry seen tops ds = (told : Told) → Tell T told → lacking.Definitions_stuck told entry seen tops ds

  abbrev pub Program_unfolds : List FlatTop → ℕ → Shapes → Shape → Program → Type 0
  Program_unfolds ds entry hs h p = (told : Told) → Tell T told → programs.Program_unfolds told ds entry hs h p

  abbrev pub Program_stuck : List FlatTop → ℕ → Shapes → Type 0
  Program_stuck ds entry hs = (told : Told) → Tell T told → lacking.Program_stuck told ds entry hs
