-- What is told of files.
use Rattle.std.specs.Prelude.{◌≡◌, ℕ, List, Result, Ok, Err}
use Rattle.elab_scopes.specs.Answers.{refusal_of}
use Rattle.elab_scopes.specs.Declarations.{State, declared_by}
use Rattle.elab_scopes.specs.Held.{module_ref_of}
use Rattle.elab_scopes.specs.Imports.{Source_file}
use Rattle.elab_scopes.specs.declared.meanings.ModuleRef.{ModuleRef}
use Rattle.elab_scopes.specs.declared.refusal.Refusal.{Refusal}
use Rattle.elab_scopes.specs.declared.refusal.Stop.{Stop}
use Rattle.elab_scopes.specs.declared.refusal.Stop.TheVariants as stop
use Rattle.module_state.specs.declared.state.Declaring.{Declaring}
use Rattle.module_state.specs.Standing.{Stands}
use Rattle.module_walk.specs.declared.call.DeclaredFiles.{DeclaredFiles}

-- there is a depth at which the definition says so; memory may run out
pub data Files_declared (files : List Source_file) : Result DeclaredFiles Stop → Type 0 where
  are_declared : {r : DeclaredFiles} (depth : ℕ) (s : State) → declared_by depth files ≡ Ok (module_ref_of r.made, s) → Stands r.state s → Files_declared files (Ok r)
  are_refused : {e : Refusal} (depth : ℕ) → declared_by depth files ≡ Err (refusal_of e) → Files_declared files (Err (stop.Refused e))
  no_memory : Files_declared files (Err stop.Memory)
