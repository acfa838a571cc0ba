-- Where a term is looked at, and the steps of the definition there. What a name stands for is told by the earlier name alone.
use Rattle.std.specs.Prelude.{ℕ, List, Option}
use Rattle.fut_flat.specs.Erased.{FlatTerm}
use Rattle.fut_flat.specs.Terms.{Terms}
use Rattle.fut_flat.specs.declared.prim.Ref.{Ref}
use Rattle.fut_scalar.specs.declared.place.BindId.{BindId}
use Rattle.fut_types.specs.Types.{Kinds, Sub}
use Rattle.fut_typing.specs.Names.{Names}
use Rattle.fut_aliases.specs.Aliases.{first_name_alone}
use Rattle.fut_aliases.specs.Calls as definition
use Rattle.fut_aliases.specs.Looking.{all_looked, by_itself, looked}
use Rattle.fut_aliases.specs.Stars.{Stars}
use Rattle.fut_aliases.specs.Steps.{Step}
use Rattle.alias_program.specs.Program.{sub_of}
use Rattle.alias_scopes.specs.Scopes.{scope_of}
use Rattle.alias_types.specs.Kinds.{kinds_of}
use Rattle.uniqueness.specs.Held.{here_of}
use Rattle.alias_forms.specs.declared.seen.Site.{Site}

abbrev pub here_at : Site → definition.Here
here_at s = here_of (scope_of s.scope.now) s.here

abbrev pub kinds_at : Site → Kinds
kinds_at s = kinds_of s.program.kinds.now

abbrev pub types_at : Site → Sub
types_at s = sub_of s.program.types.now

abbrev pub look : Names → Site → FlatTerm → ℕ → Option Stars → Step definition.Part
look N s e at w = looked first_name_alone N (kinds_at s) (types_at s) e at (here_at s) w

abbrev pub look_alone : Names → Site → FlatTerm → ℕ → Option Stars → Step definition.Held
look_alone N s e at w = by_itself first_name_alone N (kinds_at s) (types_at s) e at (here_at s) (look N s e at w)

abbrev pub look_all : Names → Site → Terms Ref BindId → ℕ → (ℕ → Option Stars) → Step (List definition.Held)
look_all N s es at wanted = all_looked first_name_alone N (kinds_at s) (types_at s) es at (here_at s) wanted 0
