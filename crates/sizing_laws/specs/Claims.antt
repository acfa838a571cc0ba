-- What is answered of a program's sizes, and of its aliases, does not hang on how names and records are numbered, where records
-- have their parts in one order.
use Rattle.std.specs.Prelude.{◌≡◌, ℕ, ◌<◌, List, Err}
use Rattle.std.specs.List.{AllPairs}
use Rattle.fut_types.specs.Types.{Sub, Kinds}
use Rattle.fut_typing.specs.Names.{Names, AreNames}
use Rattle.fut_typing.specs.Program.{Defined, program_numbers}
use Rattle.fut_typing.specs.Answers.{Typing_is}
use Rattle.sized_types.specs.Sizes.{Const, At}
use Rattle.fut_sizes.specs.Agreeing.{Mismatch}
use Rattle.fut_sizes.specs.Programs.{sizing}
use Rattle.fut_aliases.specs.Aliases.{Naming}
use Rattle.fut_aliases.specs.Programs.{first_broken}
use Rattle.sizing_laws.specs.Example.{two_pairs, pair_types, in_order, out_of_order}
use Rattle.sizing_laws.specs.Order.{Labels_rise, In_order}
use Rattle.sizing_laws.specs.Renumbering.{One_order, Renumbers, renamed_type, renumbered_type, renumbered_answer}

-- in two numberings in order records have their parts in one order
abbrev pub OrderIsOne : Type 0
OrderIsOne = (M N : Names) → AreNames M → AreNames N → In_order M → In_order N → One_order M N

-- this numbering is in order, with the same labels and positions, and the same records as far as they are in order
pub record Put_in_order (N : Names) (M : Names) : Type 0 where
  pub names : AreNames M
  pub order : In_order M
  pub label : M.label ≡ N.label
  pub position : M.shapes.position ≡ N.shapes.position
  pub fields : (r : ℕ) → AllPairs (Labels_rise N) (N.shapes.fields r) → M.shapes.fields r ≡ N.shapes.fields r

-- each numbering can be put in order
abbrev pub SomeOrder : Type 0
SomeOrder = (N : Names) → AreNames N → (M : Names) × Put_in_order N M

-- a typing under the one is a typing under the other
pub record Typed_again (M N : Names) (ds : List Defined) (types : Sub) : Type 0 where
  pub number : ℕ → ℕ
  pub renumbers : Renumbers M N number
  pub typing : Typing_is N ds (λ n. renumbered_type number (types n))

abbrev pub TypingIsOne : Type 0
TypingIsOne = (M N : Names) → AreNames M → AreNames N → One_order M N → (ds : List Defined) (types : Sub) → Typing_is M ds types → Typed_again M N ds types

-- by renumbered types the sizes are refused in the same way, or each node has the renumbered sized type, whatever is said of
-- numbers that the program does not have
abbrev pub SizingIsOne : Type 0
SizingIsOne = (M N : Names) → AreNames M → AreNames N → (number : ℕ → ℕ) → Renumbers M N number → (ds : List Defined) (types others : Sub) → ((n : ℕ) → n < program_numbers ds → others n ≡ renumbered_type number (types n))
    → sizing N others ds ≡ renumbered_answer number (sizing M types ds)

-- and the first broken rule of aliases and consumption is the same, also where variables have other names of their kinds, whatever
-- is said of numbers that the program does not have
abbrev pub AliasesAreOne : Type 0
AliasesAreOne = (naming : Naming) (M N : Names) → AreNames M → AreNames N → (number : ℕ → ℕ) → Renumbers M N number → (variable : ℕ → ℕ) (K : Kinds) → ((v : ℕ) → K (variable v) ≡ K v)
    → (ds : List Defined) (types others : Sub) → ((n : ℕ) → n < program_numbers ds → others n ≡ renamed_type number variable (types n))
    → first_broken naming N K others ds ≡ first_broken naming M K types ds

-- The order counts: where a record has its parts in two orders, a program is refused in two ways.
abbrev pub OrderCounts : Type 0
OrderCounts = (sizing in_order pair_types two_pairs ≡ Err (Mismatch 9 (At (Const 1)) (At (Const 2)))) × (sizing out_of_order pair_types two_pairs ≡ Err (Mismatch 9 (At (Const 2)) (At (Const 1))))
