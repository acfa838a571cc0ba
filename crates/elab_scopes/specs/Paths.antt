-- Paths through modules.
use Rattle.std.specs.Prelude.{List, [], ◌∷◌, Result, Ok}
use Rattle.fut_scalar.specs.declared.place.Place.{Place}
use Rattle.fut_ast.specs.Sorts.{Text, Path}
use Rattle.elab_scopes.specs.Names.{Refusal, NoMember}
use Rattle.elab_scopes.specs.Scopes.{Module_ref, Contents, module_or, and_then, module_in_module}
use Rattle.elab_scopes.specs.declared.inside.Asked.{Asked}
use Rattle.elab_scopes.specs.Held.{module_ref_of}

-- The module that a path's last name is asked of, and that name: all names before the last are modules.
unfoldable pub holder : List Contents → Place → Module_ref → Text → Path → Result (Module_ref × Text) Refusal
holder cs at m y [] = Ok (m, y)
holder cs at m y (z ∷ fs) = and_then (module_or (NoMember y at) (module_in_module cs m y)) (λ n. holder cs at n z fs)

abbrev pub holder_of : Asked → Module_ref × Text
holder_of h = (module_ref_of h.within, h.name.now)
