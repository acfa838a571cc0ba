-- Steps of the definition that need no walk, by the names that the code gives them.
use Rattle.std.specs.Prelude.{ℕ, Bool, length, List, [], ◌∷◌, Option, Ok, Err}
use Rattle.fut_scalar.specs.declared.place.Place.{Place}
use Rattle.fut_ast.specs.Sorts.{Text, Path}
use Rattle.fut_ast.specs.declared.module.ModExp.{ModExp, out-ModExp}
use Rattle.fut_ast.specs.declared.module.ModForm.{out-ModForm}
use Rattle.fut_ast.specs.declared.module.ModType.{ModType, out-ModType}
use Rattle.fut_ast.specs.declared.module.ModTypeForm.{out-ModTypeForm}
use Rattle.fut_ast.specs.declared.module.Param.{Param}
use Rattle.elab_scopes.specs.Names.{Unbound}
use Rattle.elab_scopes.specs.Scopes.{Module_ref, made_module, scalar_module, Contents, members, contents_at, module_at, signature_at}
use Rattle.elab_scopes.specs.Declarations.{Block, Here, Signature, Step, called, contents_of, curried, from, opened, scalar_members, type_called, with_signature}

-- one more module type, by its number
abbrev pub new_signature : Signature → Step ℕ
new_signature g s = Ok (length s.signatures, with_signature g s)

-- the module that a path names
abbrev pub path_module : Here → Place → Path → Step Module_ref
path_module h at [] s = Err (Unbound [] at)
path_module h at (x ∷ xs) s = from (module_at (record { names = h.names; modules = s.modules }) at x xs) s

-- what a module is
abbrev pub contents_in : List Contents → Module_ref → Contents
contents_in cs (made_module k) = contents_at cs k
contents_in cs (scalar_module t) = members (scalar_members t)

-- the module type that a path names, by its number
abbrev pub named_signature : Here → Place → Path → Step ℕ
named_signature h at p s = from (signature_at (record { names = h.names; modules = s.modules }) at p) s

-- how what is applied or opened is called
abbrev pub called_of : ModExp → Text
called_of m = called (out-ModForm (out-ModExp m).form)

-- and what is included
abbrev pub type_called_of : ModType → Text
type_called_of t = type_called (out-ModTypeForm (out-ModType t).form)

-- what the opening of a module brings
abbrev pub open_step : Bool → ModExp → Module_ref → Block → Step Block
open_step is_local m n b s = opened is_local (out-ModExp m).place (called_of m) (contents_of s n) b s

-- a module behind its parameters
abbrev pub with_parameters : Place → List Param → Option ModType → ModExp → ModExp
with_parameters at [] t m = m
with_parameters at (p ∷ ps) t m = curried at p ps t m
