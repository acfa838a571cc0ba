-- The sizing of a program that has a typing.
use Rattle.std.specs.Prelude.{◌≡◌, ℕ, List, Ok}
use Rattle.fut_types.specs.Types.{Sub}
use Rattle.fut_typing.specs.Names.{Names}
use Rattle.fut_typing.specs.Program.{Defined}
use Rattle.fut_typing.specs.Answers.{Typing_is}
use Rattle.sized_types.specs.Sizes.{Size}
use Rattle.fut_sizes.specs.Agreeing.{Answer}
use Rattle.fut_sizes.specs.Programs.{sizing}
use Rattle.size_program.specs.Tables.{node_at}
use Rattle.sized_programs.specs.declared.checking.Sizing.{Sizing}

-- by the types of the program this is what the definition answers of its sizes: the sized type of each node, or the first refusal
pub record Is_sized (ds : List Defined) (answer : Answer (ℕ → Size)) (N : Names) : Type 0 where
  pub types : Sub
  pub typing : Typing_is N ds types
  pub is : sizing N types ds ≡ answer

-- it has a sizing, and the nodes have these sized types
pub record Has_sizing (ds : List Defined) (found : Sizing) (N : Names) : Type 0 where
  pub sizes : ℕ → Size
  pub sized : Is_sized ds (Ok sizes) N
  pub nodes : (n : ℕ) → sizes n ≡ node_at found.nodes n
