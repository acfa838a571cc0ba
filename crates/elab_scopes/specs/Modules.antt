-- Modules as they are held.
use Rattle.std.specs.Prelude.{List, [], map, Option, Some, None}
use Rattle.std.specs.Borrow.{Bor}
use Rattle.elab_scopes.specs.Scopes.{Contents, Member, World, members, parametric}
use Rattle.elab_scopes.specs.declared.modules.Contents.{Contents as HeldContents}
use Rattle.elab_scopes.specs.declared.modules.Contents.TheVariants as held

abbrev pub contents_of : HeldContents → Contents
contents_of (held.Members ms) = members ms.now
contents_of (held.Parametric k) = parametric k

abbrev pub modules_of : List HeldContents → List Contents
modules_of = map contents_of

-- a module that there is not has no members
abbrev pub maybe_contents : Option HeldContents → Contents
maybe_contents None = members []
maybe_contents (Some c) = contents_of c

-- the names that are seen outside of a definition, if any are
abbrev pub names_seen : Option (Bor (List Member)) → List Member
names_seen None = []
names_seen (Some ms) = ms.now

-- what stands outside of definitions: the names that are seen, and the modules by their numbers
abbrev pub world : List Member → List HeldContents → World
world names modules = record { names = names; modules = modules_of modules }
