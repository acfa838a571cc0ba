-- Whether a program has a typing, and which answer there is to the question for its types, does not hang on how names and
-- records are numbered: what holds under one numbering holds under each. Two numberings may also differ in the order of a
-- record's parts.
use Rattle.std.specs.Prelude.{◌≡◌, ℕ, ◌<◌, false, List, ◌∷◌, ◌++◌}
use Rattle.fut_types.specs.declared.Kind.{Kind}
use Rattle.fut_types.specs.declared.Kind.TheVariants as kind
use Rattle.fut_types.specs.Types.{Ty, Sub, Kinds}
use Rattle.fut_typing.specs.Names.{Names, AreNames}
use Rattle.fut_typing.specs.Free.{has_types}
use Rattle.fut_typing.specs.Generalised.{Reused}
use Rattle.fut_typing.specs.Program.{Defined, program_numbers, Program_typed}
use Rattle.fut_typing.specs.Answers.{Principal, Typing_is, Typable, NoType, FunctionPlace, Ambiguous}
use Rattle.fut_typing.specs.Exact.{behind, scheme_behind}
use Rattle.typing_laws.specs.Alike.{Alike, Settled}

-- what holds of a program under one numbering holds of it under each
abbrev pub Hangs_on_no_numbering : (Names → List Defined → Type 0) → Type 0
Hangs_on_no_numbering P = (M N : Names) → AreNames M → AreNames N → (ds : List Defined) → P M ds → P N ds

-- it has a typing where places hold such types
abbrev pub TypableIsOne : Type 0
TypableIsOne = (places : Kind) → Hangs_on_no_numbering (λ N ds. Typable N ds places)

-- where it has a typing, and one of which all are the instances, it has such a one under each numbering, of the same kinds and
-- alike types
abbrev pub PrincipalIsOne : Type 0
PrincipalIsOne = (places : Kind) (M N : Names) → AreNames M → AreNames N → (ds : List Defined) → Typable M ds places → (p : Principal M.shapes (program_numbers ds) (Program_typed M places ds))
    → (q : Principal N.shapes (program_numbers ds) (Program_typed N places ds)) × ((v : ℕ) → q.kinds v ≡ p.kinds v) × ((n : ℕ) → Alike (p.types n) (q.types n))

-- a typing to go on with, in which nothing is left open or ambiguous, is one of alike types under each
abbrev pub TypingIsOne : Type 0
TypingIsOne = (M N : Names) → AreNames M → AreNames N → (ds : List Defined) (types : Sub) → Typing_is M ds types → (others : Sub) × Typing_is N ds others × ((n : ℕ) → Alike (types n) (others n))

-- two typings to go on with, under whatever numberings, have the same types where neither a variable nor a record stands in one
abbrev pub SettledIsOne : Type 0
SettledIsOne = (M N : Names) → AreNames M → AreNames N → (ds : List Defined) (types others : Sub) → Typing_is M ds types → Typing_is N ds others → (n : ℕ) → n < program_numbers ds → Settled (types n) → others n ≡ types n

-- the definition behind these is used at this type alone
abbrev pub Used_alone : Names → List Defined → Defined → Kinds → Sub → Ty → Type 0
Used_alone N before d K a t = Reused kind.Data (scheme_behind N kind.Data before d) (behind before 0) K a t × ((u : Ty) → Reused kind.Data (scheme_behind N kind.Data before d) (behind before 0) K a u → u ≡ t)

-- a definition without written type parameters that is used at one settled type alone in a typing to go on with is used at it
-- alone in each, under whatever numbering
abbrev pub OneTypeIsOne : Type 0
OneTypeIsOne = (M N : Names) → AreNames M → AreNames N → (before after : List Defined) (d : Defined) → has_types d.parameters ≡ false
    → (types others : Sub) → Typing_is M (before ++ d ∷ after) types → Typing_is N (before ++ d ∷ after) others
    → (K L : Kinds) → Program_typed M kind.Data (before ++ d ∷ after) K types → Program_typed N kind.Data (before ++ d ∷ after) L others
    → (t : Ty) → Settled t → Used_alone M before d K types t → Used_alone N before d L others t

-- it has no typing, even if functions may stand everywhere
abbrev pub NoTypeIsOne : Type 0
NoTypeIsOne = Hangs_on_no_numbering NoType

-- it has one only if functions may stand everywhere
abbrev pub FunctionPlaceIsOne : Type 0
FunctionPlaceIsOne = Hangs_on_no_numbering FunctionPlace

-- it has typings, and the principal one is ambiguous
abbrev pub AmbiguousIsOne : Type 0
AmbiguousIsOne = Hangs_on_no_numbering Ambiguous
