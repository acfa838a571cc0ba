-- What `elaborate` answers: the flat program of files, or the first refusal in order of text.
use Rattle.std.specs.Prelude.{map, Result, Err}
use Rattle.fut_flat.specs.declared.program.Definition.{Definition}
use Rattle.fut_flat.specs.declared.program.Flat.{Flat}
use Rattle.fut_flat.specs.Erased.{parameters, term_of, texts}
use Rattle.elab_scopes.specs.Names.{Refusal, Unbound, Twice, NoMember, SealMissing, TooManyApplications, NotYet}
use Rattle.elab_scopes.specs.Programs.{FlatDefinition, FlatProgram}
use Rattle.elab_scopes.specs.declared.refusal.Refusal.TheVariants as held
use Rattle.elab_scopes.specs.declared.refusal.Stop.{Stop}
use Rattle.elab_scopes.specs.declared.refusal.Stop.TheVariants as stop
use Rattle.module_elab.specs.declared.refused.ModErr.{ModErr}
use Rattle.module_elab.specs.declared.refused.ModErr.TheVariants as err

abbrev pub definition_of : Definition → FlatDefinition
definition_of d = record { bind = d.bind; parameters = parameters d.heads.now; value = term_of d.value.now; is_entry = d.is_entry; file = d.file }

-- the program as definitions speak of it
abbrev pub program_of : Flat → FlatProgram
program_of f = record { definitions = map definition_of f.definitions.now; names = texts f.names.now }

-- the error of a walk that stopped
abbrev pub error_of : Stop → ModErr
error_of (stop.Refused (held.Unbound x at)) = err.Unbound x at
error_of (stop.Refused (held.Twice x at)) = err.Twice x at
error_of (stop.Refused (held.NoMember x at)) = err.NoMember x at
error_of (stop.Refused (held.SealMissing x at)) = err.SealMissing x at
error_of (stop.Refused (held.TooManyApplications at)) = err.TooManyApplications at
error_of (stop.Refused (held.NotYet at)) = err.NotYet at
error_of stop.Memory = err.Memory

-- what an error tells of files that come to an answer; that memory ran out tells nothing of them
abbrev pub Tells : (Result FlatProgram Refusal → Type 0) → ModErr → Type 0
Tells Come_to (err.Unbound x at) = Come_to (Err (Unbound x.now at))
Tells Come_to (err.Twice x at) = Come_to (Err (Twice x.now at))
Tells Come_to (err.NoMember x at) = Come_to (Err (NoMember x.now at))
Tells Come_to (err.SealMissing x at) = Come_to (Err (SealMissing x.now at))
Tells Come_to (err.TooManyApplications at) = Come_to (Err (TooManyApplications at))
Tells Come_to (err.NotYet at) = Come_to (Err (NotYet at))
Tells Come_to err.Memory = Unit {0}
