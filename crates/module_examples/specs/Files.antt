-- Files by their declarations.
use Rattle.std.specs.Prelude.{ℕ, codes, false, true, is_ok, Bool, List, [], ◌∷◌, None, Some}
use Rattle.fut_scalar.specs.declared.place.Place.{Place}
use Rattle.fut_ast.specs.Sorts.{Text, Path}
use Rattle.fut_ast.specs.ModRows.{dec_at, mod_at, mtype_at, spec_at}
use Rattle.fut_ast.specs.declared.node.Label.{Label}
use Rattle.fut_ast.specs.declared.module.Dec.{Dec}
use Rattle.fut_ast.specs.declared.module.DecForm.TheVariants as dec
use Rattle.fut_ast.specs.declared.module.ModExp.{ModExp}
use Rattle.fut_ast.specs.declared.module.ModForm.TheVariants as form
use Rattle.fut_ast.specs.declared.module.ModType.{ModType}
use Rattle.fut_ast.specs.declared.module.ModTypeForm.TheVariants as mtype
use Rattle.fut_ast.specs.declared.module.Spec.{Spec}
use Rattle.fut_ast.specs.declared.module.SpecForm.TheVariants as spec
use Rattle.elab_scopes.specs.Imports.{Source_file}
use Rattle.elab_scopes.specs.Declarations.{declared_by}

-- the place in this line of file 1
abbrev pub line : ℕ → Place
line n = record { file = 1; line = n; column = 1 }

abbrev pub label : ℕ → Text → Label
label n x = record { name = x; place = line n }

-- module expressions in this line: `{ .. }`, a path, `f m`, and `\(x: t) -> m`
abbrev pub block : ℕ → List Dec → ModExp
block n ds = mod_at (line n) (form.Decs ds)

abbrev pub path : ℕ → Path → ModExp
path n p = mod_at (line n) (form.Path p)

abbrev pub applied : ℕ → ModExp → ModExp → ModExp
applied n f m = mod_at (line n) (form.Apply f (m ∷ []))

abbrev pub function : ℕ → Text → ModType → ModExp → ModExp
function n x t m = mod_at (line n) (form.Lambda (label n x) t None m)

-- module types in this line: `{ .. }`, and a path
abbrev pub members : ℕ → List Spec → ModType
members n ss = mtype_at (line n) (mtype.Specs ss)

abbrev pub named : ℕ → Path → ModType
named n p = mtype_at (line n) (mtype.Path p)

-- members of module types in this line: `type x`, and `include t`
abbrev pub type_spec : ℕ → Text → Spec
type_spec n x = spec_at (line n) (spec.TypeName (label n x) None)

abbrev pub include_spec : ℕ → ModType → Spec
include_spec n t = spec_at (line n) (spec.Include t)

-- declarations in this line: `module x = m`, `module x: t = m`, `module type x = t`, `open m`, `import "x"`, and a local one
abbrev pub module_dec : ℕ → Text → ModExp → Dec
module_dec n x m = dec_at (line n) false (dec.Module (label n x) [] None m)

abbrev pub sealed_dec : ℕ → Text → ModType → ModExp → Dec
sealed_dec n x t m = dec_at (line n) false (dec.Module (label n x) [] (Some t) m)

abbrev pub mtype_dec : ℕ → Text → ModType → Dec
mtype_dec n x t = dec_at (line n) false (dec.ModType (label n x) t)

abbrev pub open_dec : ℕ → ModExp → Dec
open_dec n m = dec_at (line n) false (dec.Open m)

abbrev pub local_dec : ℕ → Text → ModExp → Dec
local_dec n x m = dec_at (line n) true (dec.Module (label n x) [] None m)

abbrev pub import_dec : ℕ → Text → Dec
import_dec n x = dec_at (line n) false (dec.Import x)

-- an empty prelude, and a file with these declarations
abbrev pub one_file : List Dec → List Source_file
one_file ds = record { path = codes "prelude"; program = record { decs = [] } } ∷ record { path = codes "t.fut"; program = record { decs = ds } } ∷ []

-- and one more file, which it may import as "a"
abbrev pub two_files : List Dec → List Dec → List Source_file
two_files ds es = record { path = codes "prelude"; program = record { decs = [] } } ∷ record { path = codes "t.fut"; program = record { decs = ds } } ∷ record { path = codes "a.fut"; program = record { decs = es } } ∷ []

-- whether files are accepted, where modules are looked at as deeply as the examples go
abbrev pub accepted : List Source_file → Bool
accepted fs = is_ok (declared_by 6 fs)
