-- Steps of the definition, by the names that the code gives them.
use Rattle.std.specs.Prelude.{ℕ, length, Bool, true, false, List, [], ◌∷◌, Option, Some, None, Ok, Err}
use Rattle.fut_scalar.specs.declared.place.Place.{Place}
use Rattle.fut_ast.specs.Sorts.{Text, Path}
use Rattle.fut_ast.specs.declared.node.Label.{Label}
use Rattle.fut_ast.specs.declared.pat.Head.{Head}
use Rattle.fut_ast.specs.declared.module.ModExp.{ModExp, out-ModExp}
use Rattle.fut_ast.specs.declared.module.ModType.{ModType}
use Rattle.fut_ast.specs.declared.module.Spec.{Spec}
use Rattle.fut_ast.specs.declared.module.With.{With}
use Rattle.fut_flat.specs.Sources.{SourceTerm}
use Rattle.elab_scopes.specs.Resolve.{after}
use Rattle.elab_scopes.specs.Imports.{Source_file, imported_file, item}
use Rattle.elab_scopes.specs.Scopes.{Module_ref, Member, Contents, type_among, value_among, module_in_module}
use Rattle.elab_scopes.specs.Declarations.{Block, Functor, Giving, Given_type, Here, Meeting, SpecLayer, State, Step, Walks, applied_once, applied_to, arrow_met, as_members, as_type, as_value, bare, contents_of, declare, declares, function_in, function_met, given_within, hidden, import_of, in_body, lambda_with, member_of_met, module_met, new_functor, new_module, no_type, no_value, nothing, once, opened, refined, refined_met, result_of, sealed_by, seeing, shown, signature_met, spec_with, specs_with, started, the_body, with_loaded, with_types}
use Rattle.module_state.specs.Steps.{called_of, named_signature, new_signature, open_step}
use Rattle.module_members.specs.Steps.{more_specified}

-- ---- without a walk

-- what a module of a name meets
abbrev pub meets : Bool → Module_ref → List Given_type → Meeting
meets true m gs = hidden m gs
meets false m gs = shown m gs

abbrev pub inner_meeting : Bool → Module_ref → List Given_type → Label → Step Meeting
inner_meeting hides m gs x s = member_of_met x (module_in_module s.modules m x.name) (λ n s. Ok (meets hides n (given_within gs x.name), s)) s

abbrev pub meeting_within : Label → Meeting → Step Meeting
meeting_within x nothing s = Ok (nothing, s)
meeting_within x (hidden m gs) s = inner_meeting true m gs x s
meeting_within x (shown m gs) s = inner_meeting false m gs x s

-- what a module is
abbrev pub module_contents : Module_ref → Step Contents
module_contents m s = Ok (contents_of s m, s)

-- what the opening of a file brings
abbrev pub opened_file : Place → Text → Block → Module_ref → Step Block
opened_file at x b m s = opened true at x (contents_of s m) b s

-- a definition, and a type
abbrev pub value_declared : Here → Bool → Bool → Label → List Head → SourceTerm → Block → Step Block
value_declared h is_local is_entry x heads value b = once is_local x (value_among b.own x.name) (declares is_local b (as_value x.name (declare no_value h is_entry x.name heads value)))

abbrev pub type_declared : Here → Bool → Label → List Head → SourceTerm → Block → Step Block
type_declared h is_local x heads value b = once is_local x (type_among b.own x.name) (declares is_local b (as_type x.name (declare no_type h false x.name heads value)))

-- a file that was declared
abbrev pub now_loaded : ℕ → Module_ref → Step Module_ref
now_loaded k m s = Ok (m, with_loaded k m s)

-- ---- files

-- the file that is run, which sees the members of the prelude, and both
abbrev pub second_file : Walks → Module_ref → Step Module_ref
second_file R m s = R.file_of 1 (started s m)

abbrev pub both_files : Walks → Step Module_ref
both_files R s = after (R.file_of 0 s) (second_file R)

-- ---- over walks of less depth

module _ (files : List Source_file) (R : Walks) where
  abbrev pub sealed_module : Here → ModExp → ModType → Step Module_ref
  sealed_module h m t s = after (R.module_of h m s) (λ m. module_met files R h (hidden m []) t)

  abbrev pub sealed_body : Here → Option ModType → ModExp → Step Module_ref
  sealed_body h t m s = after (R.module_of h m s) (sealed_by files R h t)

  -- a parametric module, and its body where it stands
  abbrev pub lambda_module : Here → Label → ModType → Option ModType → ModExp → Step Module_ref
  lambda_module h x t u m s = after (lambda_with files R h x t u m s) new_module

  abbrev pub lambda_body : Here → Here → Label → ModType → Option ModType → ModExp → Step Module_ref
  lambda_body h i x t u m s = after (sealed_body (bare i) u m s) (λ b s. after (new_functor (record { file = h.file; parameter = x.name; bound = t; names = h.names; gives = the_body u m; bare = b }) s) new_module)

  -- applications
  abbrev pub application : Here → ModExp → List ModExp → Step Module_ref
  application h f given s = after (R.module_of h f s) (applied_to files R h (out-ModExp f).place (called_of f) given)

  abbrev pub argument_applied : Here → ModExp → ModExp → Module_ref → Step Module_ref
  argument_applied h f a m s = applied_once files R h (out-ModExp f).place (called_of f) (out-ModExp a).place (function_in (contents_of s m)) a s

  abbrev pub argument_met : Here → Functor → Module_ref → Step Module_ref
  argument_met h f m s = after (module_met files R (seeing f.names h) (shown m []) f.bound s) (result_of files R h.live h f)

  -- module types
  abbrev pub path_met : Here → Meeting → Place → Path → Step Contents
  path_met h meeting at p s = after (named_signature h at p s) (λ k s. signature_met files R h meeting (item s.signatures k) s)

  abbrev pub specs_met : Here → Meeting → List Spec → Step Contents
  specs_met h meeting ss = as_members (specs_with files R h meeting ss [])

  abbrev pub specs_behind : Here → Meeting → List Spec → List Member × List Member → Step (List Member)
  specs_behind h meeting ss b = specs_with files R (seeing b.0 h) meeting ss b.1

  abbrev pub spec_step : Here → Meeting → SpecLayer → List Member × List Member → Step (List Member × List Member)
  spec_step h meeting l b s = after (spec_with files R h meeting l s) (λ ms s. Ok (more_specified ms b, s))

  abbrev pub with_met : Here → Meeting → ModType → List With → Step Contents
  with_met h meeting t ws s = after (module_met files R (bare h) nothing t s) (λ m s. after (refined (bare h) m ws s) (refined_met files R h meeting t ws))

  abbrev pub given_met : Here → Bool → Module_ref → List Given_type → ModType → List With → Step Contents
  given_met h hides m gs t ws s = after (with_types h ws gs s) (λ gs. R.met h (meets hides m gs) t)

  abbrev pub arrow : Here → Meeting → Label → ModType → ModType → Step Contents
  arrow h meeting x t u s = after (module_met files R (bare h) nothing t s) (arrow_met files R h meeting x t u)

  abbrev pub function_of_met : Here → Bool → Module_ref → Label → ModType → ModType → Module_ref → Step Contents
  function_of_met h hides m x t u p s = member_of_met x (function_in (contents_of s m)) (function_met files R h hides x t u p) s

  abbrev pub arrow_made : Here → Giving → Meeting → Label → ModType → ModType → Module_ref → Step Contents
  arrow_made h gives meeting x t u p s = after (module_met files R (in_body (bare h) x.name p h.names) meeting u s) (λ m. new_functor (record { file = h.file; parameter = x.name; bound = t; names = h.names; gives = gives; bare = m }))

  -- declarations
  abbrev pub signature_declared : Here → ModType → Step ℕ
  signature_declared h t s = after (R.met (bare h) nothing t s) (λ c. new_signature (record { tree = t; names = h.names }))

  abbrev pub open_module : Here → Bool → ModExp → Block → Step Block
  open_module h is_local m b s = after (R.module_of h m s) (λ n. open_step is_local m n b)

  abbrev pub open_import : Here → Place → Text → Block → Step Block
  open_import h at x b s = after (import_of files R at x (imported_file files h.file x) s) (opened_file at x b)
