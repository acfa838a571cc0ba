-- Flat terms that bind no name of a size.
use Rattle.std.specs.Prelude.{◌≡◌, List, [], ◌∷◌}
use Rattle.fut_scalar.specs.declared.place.BindId.{BindId}
use Rattle.fut_flat.specs.declared.prim.Ref.{Ref}
use Rattle.fut_flat.specs.Erased.{FlatTerm, FlatTurns}
use Rattle.fut_flat.specs.Terms.{Use, Strict, Lambda, Apply, Let, If, Loop, Terms, no_term, term_and, Counted, Over, While}
use Rattle.elab_scopes.specs.Programs.{FlatDefinition}
use Rattle.elab_laws.specs.Sourced.{No_sizes}

abbrev mutual
  pub Sizeless : FlatTerm → Type 0
  Sizeless (Use r at k) = Unit {0}
  Sizeless (Strict o mark ts) = All_sizeless ts
  Sizeless (Lambda ps e) = Sizeless e
  Sizeless (Apply f e) = Sizeless f × Sizeless e
  Sizeless (Let b v e) = (b.sizes ≡ []) × No_sizes b.parameters × Sizeless v × Sizeless e
  Sizeless (If c a b) = Sizeless c × Sizeless a × Sizeless b
  Sizeless (Loop mark sizes p first turns body) = (sizes ≡ []) × Sizeless first × Turns_sizeless turns × Sizeless body

  pub All_sizeless : Terms Ref BindId → Type 0
  All_sizeless no_term = Unit {0}
  All_sizeless (term_and t ts) = Sizeless t × All_sizeless ts

  pub Turns_sizeless : FlatTurns → Type 0
  Turns_sizeless (Counted i n) = Sizeless n
  Turns_sizeless (Over p e) = Sizeless e
  Turns_sizeless (While c) = Sizeless c

abbrev pub Definitions_sizeless : List FlatDefinition → Type 0
Definitions_sizeless [] = Unit {0}
Definitions_sizeless (d ∷ ds) = No_sizes d.parameters × Sizeless d.value × Definitions_sizeless ds
