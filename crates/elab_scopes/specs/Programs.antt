-- The flat definition of a definition as it is written, and flat programs.
use Rattle.std.specs.Prelude.{ℕ, ◌||◌, codes, Bool, List, [], ◌∷◌, map, Option, Ok}
use Rattle.std.specs.Str.{bytes_eq}
use Rattle.fut_scalar.specs.declared.place.BindId.{BindId}
use Rattle.fut_ast.specs.Sorts.{Text, SourceType, SourcePat, SourceExp}
use Rattle.fut_ast.specs.declared.pat.Head.{Head}
use Rattle.fut_ast.specs.declared.module.Dec.{Dec}
use Rattle.fut_ast.specs.declared.module.DecForm.{DecForm, DecForm-F}
use Rattle.fut_ast.specs.declared.module.ModExp.{ModExp}
use Rattle.fut_ast.specs.declared.module.ModForm.{ModForm}
use Rattle.fut_flat.specs.Terms.{Parameter, Lambda}
use Rattle.fut_flat.specs.Erased.{FlatTerm}
use Rattle.fut_flat.specs.Sources.{SourceTerm, source_pattern, patterns, source_parameters, placed, declared}
use Rattle.elab_scopes.specs.Scopes.{Scope, enter}
use Rattle.elab_scopes.specs.Resolve.{Numbered, after, next, with_text, number_heads, resolve}

pub record FlatDefinition : Type 0 where
  pub bind : BindId
  pub parameters : List (Parameter BindId)
  pub value : FlatTerm
  pub is_entry : Bool
  pub file : ℕ

-- a definition with parameters is a function
abbrev pub definition_term : List SourcePat → Option SourceType → SourceExp → SourceTerm
definition_term [] t e = declared t (placed e)
definition_term (p ∷ ps) t e = Lambda (patterns (map source_pattern (p ∷ ps))) (declared t (placed e))

-- a run may begin at what is written `entry` or is named `main`
abbrev pub is_entry_named : Bool → Text → Bool
is_entry_named is_entry x = is_entry || bytes_eq x (codes "main")

unfoldable pub define : ℕ → Bool → Text → List Head → SourceTerm → Scope → List Text → Numbered FlatDefinition
define file is_entry x heads value sc made =
    after (Ok (number_heads (source_parameters heads) (with_text made x))) (λ h more.
    after (resolve value (enter h.1 sc) more) (λ v more.
    Ok (record { bind = next made; parameters = h.0; value = v; is_entry = is_entry; file = file }, more)))

abbrev pub DecLayer : Type 0
DecLayer = DecForm-F DecForm ModForm Dec ModExp

-- the definitions of a program, and the text of each number
pub record FlatProgram : Type 0 where
  pub definitions : List FlatDefinition
  pub names : List Text
