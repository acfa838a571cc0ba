-- Terms of which the meaning and the walk know all forms, where names of sizes may be bound; and how the numbers of these names
-- are told from those of all others. In the terms of specs/Meant.antt no name of a size is bound.
use Rattle.std.specs.Prelude.{◌≡◌, ℕ, Bool, true, false, List, [], ◌∷◌}
use Rattle.fut_scalar.specs.declared.place.BindId.{BindId}
use Rattle.fut_flat.specs.declared.prim.Ref.{Ref}
use Rattle.fut_flat.specs.Erased.{FlatTerm, FlatPattern, FlatTurns}
use Rattle.fut_flat.specs.Terms.{Bound_pattern, Wild_pattern, Tuple_pattern, Record_pattern, Typed_pattern, Patterns, no_pattern, pattern_and, Parameter, Size_parameter, Type_parameter, Use, Strict, Lambda, Apply, Let, If, Loop, Terms, no_term, term_and, Counted, Over, While}
use Rattle.fut_typing.specs.Program.{Defined}
use Rattle.fut_typing.specs.Typing.{FlatBinding}
use Rattle.type_soundness.specs.Meant.{how_many, Operation_meant, Has_parameter, Use_meant}

-- forms have the parts that their grammar gives them, and all names that are used are of P
module _ (P : ℕ → Type 0) where
  abbrev mutual
    pub Formed : FlatTerm → Type 0
    Formed (Use r at k) = Use_meant P r
    Formed (Strict o mark ts) = Operation_meant o (how_many ts) × All_formed ts
    Formed (Lambda ps e) = Has_parameter ps × Formed e
    Formed (Apply f e) = Formed f × Formed e
    Formed (Let b v e) = Formed v × Formed e
    Formed (If c t e) = Formed c × Formed t × Formed e
    Formed (Loop mark sizes p first turns body) = Formed first × Turns_formed turns × Formed body

    pub All_formed : Terms Ref BindId → Type 0
    All_formed no_term = Unit {0}
    All_formed (term_and t ts) = Formed t × All_formed ts

    pub Turns_formed : FlatTurns → Type 0
    Turns_formed (Counted i n) = Formed n
    Turns_formed (Over p e) = Formed e
    Turns_formed (While c) = Formed c

abbrev pub Definitions_formed : List Defined → Type 0
Definitions_formed [] = Unit {0}
Definitions_formed (d ∷ ds) = Formed (λ k. Unit {0}) d.value × Definitions_formed ds

module _ (is_size : ℕ → Bool) where
  -- each of these is the name of a size
  abbrev pub Are_sizes : List BindId → Type 0
  Are_sizes [] = Unit {0}
  Are_sizes (b ∷ bs) = (is_size b.0 ≡ true) × Are_sizes bs

  -- and so is each size parameter
  abbrev pub Heads_sized : List (Parameter BindId) → Type 0
  Heads_sized [] = Unit {0}
  Heads_sized (Size_parameter b ∷ ps) = (is_size b.0 ≡ true) × Heads_sized ps
  Heads_sized (Type_parameter b lifted ∷ ps) = Heads_sized ps

  -- no name of a pattern is one
  abbrev mutual
    pub Pattern_apart : FlatPattern → Type 0
    Pattern_apart (Bound_pattern b) = is_size b.0 ≡ false
    Pattern_apart Wild_pattern = Unit {0}
    Pattern_apart (Tuple_pattern ps) = Patterns_apart ps
    Pattern_apart (Record_pattern fs ps) = Patterns_apart ps
    Pattern_apart (Typed_pattern p t) = Pattern_apart p

    pub Patterns_apart : Patterns Ref BindId → Type 0
    Patterns_apart no_pattern = Unit {0}
    Patterns_apart (pattern_and p ps) = Pattern_apart p × Patterns_apart ps

  abbrev pub Turns_apart : FlatTurns → Type 0
  Turns_apart (Counted i n) = is_size i.0 ≡ false
  Turns_apart (Over p e) = Pattern_apart p
  Turns_apart (While c) = Unit {0}

  abbrev pub Let_apart : FlatBinding → Type 0
  Let_apart b = Are_sizes b.sizes × Heads_sized b.parameters × Pattern_apart b.pattern

  abbrev pub Loop_apart : List BindId → FlatPattern → FlatTurns → Type 0
  Loop_apart sizes p turns = Are_sizes sizes × Pattern_apart p × Turns_apart turns

  -- so it is wherever a term binds names
  abbrev mutual
    pub Apart : FlatTerm → Type 0
    Apart (Use r at k) = Unit {0}
    Apart (Strict o mark ts) = All_apart ts
    Apart (Lambda ps e) = Patterns_apart ps × Apart e
    Apart (Apply f e) = Apart f × Apart e
    Apart (Let b v e) = Let_apart b × Apart v × Apart e
    Apart (If c t e) = Apart c × Apart t × Apart e
    Apart (Loop mark sizes p first turns body) = Loop_apart sizes p turns × Apart first × In_turns_apart turns × Apart body

    pub All_apart : Terms Ref BindId → Type 0
    All_apart no_term = Unit {0}
    All_apart (term_and t ts) = Apart t × All_apart ts

    pub In_turns_apart : FlatTurns → Type 0
    In_turns_apart (Counted i n) = Apart n
    In_turns_apart (Over p e) = Apart e
    In_turns_apart (While c) = Apart c

  abbrev pub Definitions_apart : List Defined → Type 0
  Definitions_apart [] = Unit {0}
  Definitions_apart (d ∷ ds) = (Heads_sized d.parameters × Pattern_apart d.name) × Apart d.value × Definitions_apart ds
