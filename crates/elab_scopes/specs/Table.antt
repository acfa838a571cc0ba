-- What a table of names holds.
use Rattle.std.specs.Prelude.{ℕ, ◌-◌, ◌++◌, cond, length, drop, List, [], ◌∷◌, map, reverse, Option, Some, None}
use Rattle.std.specs.Borrow.{Bor}
use Rattle.fut_ast.specs.Sorts.{Text}
use Rattle.elab_scopes.specs.declared.table.Entry.{Entry as HeldEntry}
use Rattle.elab_scopes.specs.declared.table.Names.{Names}
use Rattle.elab_scopes.specs.Modules.{modules_of}
use Rattle.elab_scopes.specs.Scopes.{Entry, a_value, a_type, a_world, Contents, Member, Scope}

abbrev pub entry_of : HeldEntry → Entry
entry_of e = cond e.is_type (a_type e.name.now e.bind) (a_value e.name.now e.bind)

abbrev pub entries_of : List HeldEntry → List Entry
entries_of = map entry_of

-- what stands outside of a definition, if anything does
abbrev pub bottom : Option (Bor (List Member)) → List Contents → Scope
bottom None cs = []
bottom (Some ms) cs = a_world (record { names = ms.now; modules = cs }) ∷ []

-- the local names in scope, the newest first
unfoldable pub locals_of : Names → Scope
locals_of n = reverse (entries_of n.scope)

-- the modules by their numbers
unfoldable pub modules_in : Names → List Contents
modules_in n = modules_of n.modules

-- the names in scope, the newest first, and below them what stands outside
unfoldable pub scope_of : Names → Scope
scope_of n = reverse (entries_of n.scope) ++ bottom n.outside (modules_of n.modules)

-- the names that the pattern at hand has bound so far
unfoldable pub bound_of : Names → List Entry
bound_of n = entries_of n.bound

-- the text of each number
unfoldable pub made_of : Names → List Text
made_of n = map (λ (x : Bor Text). x.now) n.made

-- the names that stood when there were so many
unfoldable pub outside : ℕ → Scope → Scope
outside height sc = drop (length sc - height) sc
