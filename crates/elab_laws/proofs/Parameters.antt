-- The type parameters of a program are among its binders, and a declared one is among the parameters.
use Rattle.std.proofs.Common.{ℕ, ◌++◌, List, [], ◌∷◌, flat_map}
use mathlib.Core.Logic.{inl, inr}
use Rattle.fut_scalar.specs.declared.place.BindId.{BindId}
use Rattle.fut_flat.specs.declared.prim.Ref.{Ref}
use Rattle.fut_flat.specs.Erased.{FlatTerm, FlatTurns}
use Rattle.fut_flat.specs.Terms.{Parameter, Size_parameter, Type_parameter, Use, Strict, Lambda, Apply, Let, If, Loop, Terms, no_term, term_and, Counted, Over, While}
use Rattle.fut_typing.specs.Program.{Defined}
use Rattle.fut_typing.specs.Declared.{Is_parameter, Declares, Some_declare, Turns_declare, Parameter_in}
use Rattle.elab_laws.specs.Binders.{binders, pattern_binders, all_pattern_binders, parameter_binders, operation_binders, term_binders, all_term_binders, turns_binders, definition_binders}
use Rattle.elab_laws.specs.Parameters.{type_parameters, local_parameters, all_local_parameters, turns_parameters, definition_parameters}
use Rattle.elab_laws.proofs.Times.{Stands, stands_first, stands_left, stands_right, stands_second, stands_third, Fewer, fewer_same, fewer_none, fewer_both, fewer_behind}

-- ---- parameters are among the binders

parameters_among : (ps : List (Parameter BindId)) → Fewer (type_parameters ps) (parameter_binders ps)
parameters_among [] = fewer_none []
parameters_among (Size_parameter b ∷ ps) = fewer_behind (b.0 ∷ []) (parameters_among ps)
parameters_among (Type_parameter b lifted ∷ ps) = fewer_both (fewer_same (b.0 ∷ [])) (parameters_among ps)

mutual
  term_among : (t : FlatTerm) → Fewer (local_parameters t) (term_binders t)
  term_among (Use r at k) = fewer_none []
  term_among (Strict o mark ts) = fewer_behind (operation_binders o) (all_among ts)
  term_among (Lambda ps e) = fewer_behind (all_pattern_binders ps) (term_among e)
  term_among (Apply f e) = fewer_both (term_among f) (term_among e)
  term_among (Let b v e) = fewer_behind (binders b.sizes) (fewer_behind (pattern_binders b.pattern) (fewer_both (parameters_among b.parameters) (fewer_both (term_among v) (term_among e))))
  term_among (If c t e) = fewer_both (term_among c) (fewer_both (term_among t) (term_among e))
  term_among (Loop mark sizes p first turns body) = fewer_behind (binders sizes) (fewer_behind (pattern_binders p) (fewer_both (term_among first) (fewer_both (turns_among turns) (term_among body))))

  all_among : (ts : Terms Ref BindId) → Fewer (all_local_parameters ts) (all_term_binders ts)
  all_among no_term = fewer_none []
  all_among (term_and t ts) = fewer_both (term_among t) (all_among ts)

  turns_among : (ts : FlatTurns) → Fewer (turns_parameters ts) (turns_binders ts)
  turns_among (Counted b n) = fewer_behind (b.0 ∷ []) (term_among n)
  turns_among (Over p e) = fewer_behind (pattern_binders p) (term_among e)
  turns_among (While c) = term_among c

pub program_among : (ds : List Defined) → Fewer (flat_map definition_parameters ds) (flat_map definition_binders ds)
program_among [] = fewer_none []
program_among (d ∷ ds) = fewer_both (fewer_behind (pattern_binders d.name) (fewer_both (parameters_among d.parameters) (term_among d.value))) (program_among ds)

-- ---- what is declared is among the parameters

pub parameter_stands : (ps : List (Parameter BindId)) (n : ℕ) → Is_parameter ps n → Stands n (type_parameters ps)
parameter_stands [] n i = absurd i
parameter_stands (Size_parameter b ∷ ps) n i = parameter_stands ps n i
parameter_stands (Type_parameter b lifted ∷ ps) n (inl e) = stands_first n b.0 (type_parameters ps) e
parameter_stands (Type_parameter b lifted ∷ ps) n (inr i) = stands_right n (b.0 ∷ []) (type_parameters ps) (parameter_stands ps n i)

mutual
  pub local_stands : (t : FlatTerm) (n : ℕ) → Declares t n → Stands n (local_parameters t)
  local_stands (Use r at k) n h = absurd h
  local_stands (Strict o mark ts) n h = all_stand ts n h
  local_stands (Lambda ps e) n h = local_stands e n h
  local_stands (Apply f e) n (inl h) = stands_left n (local_parameters f) (local_parameters e) (local_stands f n h)
  local_stands (Apply f e) n (inr h) = stands_right n (local_parameters f) (local_parameters e) (local_stands e n h)
  local_stands (Let b v e) n (inl i) = stands_left n (type_parameters b.parameters) (local_parameters v ++ local_parameters e) (parameter_stands b.parameters n i)
  local_stands (Let b v e) n (inr (inl h)) = stands_second n (type_parameters b.parameters) (local_parameters v) (local_parameters e) (local_stands v n h)
  local_stands (Let b v e) n (inr (inr h)) = stands_third n (type_parameters b.parameters) (local_parameters v) (local_parameters e) (local_stands e n h)
  local_stands (If c t e) n (inl h) = stands_left n (local_parameters c) (local_parameters t ++ local_parameters e) (local_stands c n h)
  local_stands (If c t e) n (inr (inl h)) = stands_second n (local_parameters c) (local_parameters t) (local_parameters e) (local_stands t n h)
  local_stands (If c t e) n (inr (inr h)) = stands_third n (local_parameters c) (local_parameters t) (local_parameters e) (local_stands e n h)
  local_stands (Loop mark sizes p first turns body) n (inl h) = stands_left n (local_parameters first) (turns_parameters turns ++ local_parameters body) (local_stands first n h)
  local_stands (Loop mark sizes p first turns body) n (inr (inl h)) = stands_second n (local_parameters first) (turns_parameters turns) (local_parameters body) (turns_stand turns n h)
  local_stands (Loop mark sizes p first turns body) n (inr (inr h)) = stands_third n (local_parameters first) (turns_parameters turns) (local_parameters body) (local_stands body n h)

  pub all_stand : (ts : Terms Ref BindId) (n : ℕ) → Some_declare ts n → Stands n (all_local_parameters ts)
  all_stand no_term n h = absurd h
  all_stand (term_and t ts) n (inl h) = stands_left n (local_parameters t) (all_local_parameters ts) (local_stands t n h)
  all_stand (term_and t ts) n (inr h) = stands_right n (local_parameters t) (all_local_parameters ts) (all_stand ts n h)

  pub turns_stand : (ts : FlatTurns) (n : ℕ) → Turns_declare ts n → Stands n (turns_parameters ts)
  turns_stand (Counted b m) n h = local_stands m n h
  turns_stand (Over p e) n h = local_stands e n h
  turns_stand (While c) n h = local_stands c n h

pub program_stands : (ds : List Defined) (n : ℕ) → Parameter_in ds n → Stands n (flat_map definition_parameters ds)
program_stands [] n h = absurd h
program_stands (d ∷ ds) n (inl i) = stands_left n (definition_parameters d) (flat_map definition_parameters ds) (stands_left n (type_parameters d.parameters) (local_parameters d.value) (parameter_stands d.parameters n i))
program_stands (d ∷ ds) n (inr (inl h)) = stands_left n (definition_parameters d) (flat_map definition_parameters ds) (stands_right n (type_parameters d.parameters) (local_parameters d.value) (local_stands d.value n h))
program_stands (d ∷ ds) n (inr (inr h)) = stands_right n (definition_parameters d) (flat_map definition_parameters ds) (program_stands ds n h)
