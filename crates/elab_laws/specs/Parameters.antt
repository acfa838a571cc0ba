-- The type parameters of definitions, and of the local definitions in them, in the order in which they stand.
use Rattle.std.specs.Prelude.{ℕ, ◌++◌, List, [], ◌∷◌}
use Rattle.fut_scalar.specs.declared.place.BindId.{BindId}
use Rattle.fut_flat.specs.declared.prim.Ref.{Ref}
use Rattle.fut_flat.specs.Terms.{Parameter, Size_parameter, Type_parameter, Use, Strict, Lambda, Apply, Let, If, Loop, Terms, no_term, term_and, Counted, Over, While}
use Rattle.fut_flat.specs.Erased.{FlatTerm, FlatTurns}
use Rattle.fut_typing.specs.Program.{Defined}

abbrev pub type_parameters : List (Parameter BindId) → List ℕ
type_parameters [] = []
type_parameters (Size_parameter b ∷ ps) = type_parameters ps
type_parameters (Type_parameter b lifted ∷ ps) = b.0 ∷ type_parameters ps

-- those of local definitions
abbrev mutual
  pub local_parameters : FlatTerm → List ℕ
  local_parameters (Use r at k) = []
  local_parameters (Strict o mark ts) = all_local_parameters ts
  local_parameters (Lambda ps e) = local_parameters e
  local_parameters (Apply f e) = local_parameters f ++ local_parameters e
  local_parameters (Let b v e) = type_parameters b.parameters ++ (local_parameters v ++ local_parameters e)
  local_parameters (If c t e) = local_parameters c ++ (local_parameters t ++ local_parameters e)
  local_parameters (Loop mark sizes p first turns body) = local_parameters first ++ (turns_parameters turns ++ local_parameters body)

  pub all_local_parameters : Terms Ref BindId → List ℕ
  all_local_parameters no_term = []
  all_local_parameters (term_and t ts) = local_parameters t ++ all_local_parameters ts

  pub turns_parameters : FlatTurns → List ℕ
  turns_parameters (Counted b n) = local_parameters n
  turns_parameters (Over p e) = local_parameters e
  turns_parameters (While c) = local_parameters c

abbrev pub definition_parameters : Defined → List ℕ
definition_parameters d = type_parameters d.parameters ++ local_parameters d.value
