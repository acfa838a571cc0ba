-- A whole program, and what an error tells.
use Rattle.std.proofs.Common.{◌≡◌, List, map, sym, ◌∙◌, ap, Result, Ok, Err}
use Rattle.std.specs.Borrow.{Bor}
use Rattle.fut_ast.specs.Sorts.{Text}
use Rattle.fut_flat.specs.declared.program.Definition.{Definition}
use Rattle.fut_flat.specs.declared.program.Flat.{Flat}
use Rattle.elab_scopes.specs.declared.refusal.Refusal.{Refusal as HeldRefusal}
use Rattle.elab_scopes.specs.declared.refusal.Refusal.TheVariants as held
use Rattle.elab_scopes.specs.declared.refusal.Stop.{Stop}
use Rattle.elab_scopes.specs.declared.refusal.Stop.TheVariants as stop
use Rattle.elab_scopes.specs.Answers.{refusal_of}
use Rattle.elab_scopes.specs.Names.{Refusal, TooFar}
use Rattle.elab_scopes.specs.Programs.{FlatProgram}
use Rattle.elab_scopes.specs.Imports.{Source_file}
use Rattle.elab_scopes.specs.Elaboration.{Elaborates, answer_of}
use Rattle.elab_scopes.specs.Table.{made_of}
use Rattle.module_state.specs.declared.state.Declaring.{Declaring}
use Rattle.module_walk.specs.declared.call.DeclaredFiles.{DeclaredFiles}
use Rattle.module_walk.specs.Told.{Files_declared, are_declared, are_refused, no_memory}
use Rattle.module_elab.specs.Closing.{Closes}
use Rattle.module_elab.specs.Elaborated.{Tells, definition_of, error_of, program_of}

pub closed : (d : Declaring) (ds : Bor (List Definition)) (ns : Bor (List (Bor Text))) → ds.now ≡ d.definitions.items → map (λ (x : Bor Text). x.now) ns.now ≡ made_of d.names → Closes d (record { definitions = ds; names = ns })
closed d ds ns is texts s stands = λ i. record { definitions = (ap (map definition_of) is ∙ stands.definitions) i; names = (texts ∙ stands.made) i }

module _ (files : List Source_file) where
  pub program_told : (d : DeclaredFiles) (flat : Flat) → Files_declared files (Ok d) → Closes d.state flat → Elaborates files (Ok (program_of flat))
  program_told _ flat (are_declared depth s is stands) closes = record {
    depth = depth;
    is = ap answer_of is ∙ ap Ok (sym (closes s stands));
    ends = λ e. absurd (let z : ◌≡◌ {A = Result FlatProgram Refusal} (Ok (program_of flat)) (Err TooFar) = e in cc);
  }

  -- code gives no refusal of a look that ended too soon
  near : (e : HeldRefusal) → ◌≡◌ {A = Result FlatProgram Refusal} (Err (refusal_of e)) (Err TooFar) → ⊥
  near (held.Unbound x at) e = cc
  near (held.Twice x at) e = cc
  near (held.NoMember x at) e = cc
  near (held.SealMissing x at) e = cc
  near (held.TooManyApplications at) e = cc
  near (held.NotYet at) e = cc

  refused : (e : HeldRefusal) → Elaborates files (Err (refusal_of e)) → Tells (Elaborates files) (error_of (stop.Refused e))
  refused (held.Unbound x at) t = t
  refused (held.Twice x at) t = t
  refused (held.NoMember x at) t = t
  refused (held.SealMissing x at) t = t
  refused (held.TooManyApplications at) t = t
  refused (held.NotYet at) t = t

  pub refusal_told : (x : Stop) → Files_declared files (Err x) → Tells (Elaborates files) (error_of x)
  refusal_told _ (are_refused {e} depth is) = refused e (record { depth = depth; is = ap answer_of is; ends = near e })
  refusal_told _ no_memory = tt

pub ruleset telling = (program_told, refusal_told)
