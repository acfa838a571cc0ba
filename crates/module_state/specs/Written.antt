-- What is written of a definition, as the definition takes it.
use Rattle.std.specs.Prelude.{List, map}
use Rattle.fut_tree.specs.Names.{all, maybe}
use Rattle.fut_flat.specs.Sources.{SourceTerm, source_type}
use Rattle.elab_scopes.specs.Programs.{definition_term}
use Rattle.elab_scopes.specs.Imports.{Source_file}
use Rattle.elab_scopes.specs.Declarations.{given_name, hiding_term, named_type, same_term, sealed_term, type_term}
use Rattle.module_state.specs.declared.written.SourceFile.{SourceFile}
use Rattle.module_state.specs.declared.written.Written.{Written}
use Rattle.module_state.specs.declared.written.Written.TheVariants as written

abbrev pub written_of : Written → SourceTerm
written_of (written.Definition ps t e) = definition_term (all ps.now) (maybe t) e.now
written_of (written.Type at t) = type_term at (source_type t.now)
written_of (written.Sealed at t) = sealed_term at t.now
written_of (written.Hidden at) = hiding_term at
written_of (written.Same at t) = same_term at (source_type t.now)
written_of (written.Given at) = same_term at (named_type given_name at)

abbrev pub file_of : SourceFile → Source_file
file_of f = record { path = f.path.now; program = f.program.now }

abbrev pub files_of : List SourceFile → List Source_file
files_of = map file_of
