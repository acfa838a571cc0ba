-- What files come to: what they declare, with its flat program, or the first refusal in order of text.
use Rattle.std.specs.Prelude.{◌≡◌, ℕ, List, map, Result, Ok, Err}
use Rattle.elab_scopes.specs.Names.{Refusal, TooFar}
use Rattle.elab_scopes.specs.Scopes.{Module_ref}
use Rattle.elab_scopes.specs.Programs.{FlatDefinition, FlatProgram}
use Rattle.elab_scopes.specs.Imports.{Source_file}
use Rattle.elab_scopes.specs.Declarations.{Instance, State, declared_by}

-- the files declare this, where modules are looked at as deep as they stand in one another
pub record Declare (files : List Source_file) (s : State) : Type 0 where
  pub depth : ℕ
  pub run : Module_ref
  pub is : declared_by depth files ≡ Ok (run, s)

abbrev pub flats : List Instance → List FlatDefinition
flats = map (λ (i : Instance). i.flat)

-- the flat program of what was declared
abbrev pub flat_program : State → FlatProgram
flat_program s = record { definitions = flats s.instances; names = s.made }

abbrev pub answer_of : Result (Module_ref × State) Refusal → Result FlatProgram Refusal
answer_of (Ok (m, s)) = Ok (flat_program s)
answer_of (Err e) = Err e

-- This is what the files come to: the flat program of what they declare, or the first refusal. To look more deeply changes nothing
-- once a look has come to an end.
pub record Elaborates (files : List Source_file) (answer : Result FlatProgram Refusal) : Type 0 where
  pub depth : ℕ
  pub is : answer_of (declared_by depth files) ≡ answer
  pub ends : answer ≡ Err TooFar → ⊥
