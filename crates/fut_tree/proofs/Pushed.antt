-- A list with one more at its end, as it is seen.
use Rattle.std.proofs.Common.{◌≡◌, List, [], ◌∷◌, ◌++◌}
use Rattle.std.proofs.lemmas.List.{map-append}
use Rattle.std.specs.Borrow.{Bor}
use Rattle.fut_ast.specs.Sorts.{Text}
use Rattle.fut_tree.specs.declared.held.Held.{Held}
use Rattle.fut_tree.specs.declared.ty.TypeArg.{TypeArg}
use Rattle.fut_tree.specs.declared.ty.TypeField.{TypeField}
use Rattle.fut_tree.specs.declared.pat.Head.{Head}
use Rattle.fut_tree.specs.declared.pat.PatField.{PatField}
use Rattle.fut_tree.specs.declared.exp.ExpField.{ExpField}
use Rattle.fut_tree.specs.declared.exp.Bind.{Bind}
use Rattle.fut_tree.specs.declared.exp.Ix.{Ix}
use Rattle.fut_tree.specs.declared.module.With.{With}
use Rattle.fut_tree.specs.declared.module.Spec.{Spec}
use Rattle.fut_tree.specs.declared.module.Param.{Param}
use Rattle.fut_tree.specs.declared.module.Dec.{Dec}
use Rattle.fut_tree.specs.Names.{names, all}
use Rattle.fut_tree.specs.Types.{arg_of, args_of, type_fields}
use Rattle.fut_tree.specs.Pats.{head_of, heads_of, pat_fields}
use Rattle.fut_tree.specs.Exps.{exp_fields, bind_of, binds_of, ix_of, ixs_of}
use Rattle.fut_tree.specs.ModTypes.{with_of, withs_of, spec_of, specs_of, param_of, params_of}
use Rattle.fut_tree.specs.Mods.{dec_of, decs_of}

pub names_push : (xs : List (Bor Text)) (x : Bor Text) → names (xs ++ x ∷ []) ≡ names xs ++ x.now ∷ []
names_push xs x = map-append _ xs (x ∷ [])

pub all_push : {X : Type 0} (xs : List (Held X)) (x : Held X) → all (xs ++ x ∷ []) ≡ all xs ++ x.at.now ∷ []
all_push xs x = map-append _ xs (x ∷ [])

pub args_push : (xs : List TypeArg) (x : TypeArg) → args_of (xs ++ x ∷ []) ≡ args_of xs ++ arg_of x ∷ []
args_push xs x = map-append _ xs (x ∷ [])

pub type_fields_push : (xs : List TypeField) (x : TypeField) → type_fields (xs ++ x ∷ []) ≡ type_fields xs ++ (x.name.now, x.ty.now) ∷ []
type_fields_push xs x = map-append _ xs (x ∷ [])

pub heads_push : (xs : List Head) (x : Head) → heads_of (xs ++ x ∷ []) ≡ heads_of xs ++ head_of x ∷ []
heads_push xs x = map-append _ xs (x ∷ [])

pub pat_fields_push : (xs : List PatField) (x : PatField) → pat_fields (xs ++ x ∷ []) ≡ pat_fields xs ++ (x.name.now, x.pat.now) ∷ []
pat_fields_push xs x = map-append _ xs (x ∷ [])

pub exp_fields_push : (xs : List ExpField) (x : ExpField) → exp_fields (xs ++ x ∷ []) ≡ exp_fields xs ++ (x.name.now, x.exp.now) ∷ []
exp_fields_push xs x = map-append _ xs (x ∷ [])

pub binds_push : (xs : List Bind) (x : Bind) → binds_of (xs ++ x ∷ []) ≡ binds_of xs ++ bind_of x ∷ []
binds_push xs x = map-append _ xs (x ∷ [])

pub ixs_push : (xs : List Ix) (x : Ix) → ixs_of (xs ++ x ∷ []) ≡ ixs_of xs ++ ix_of x ∷ []
ixs_push xs x = map-append _ xs (x ∷ [])

pub withs_push : (xs : List With) (x : With) → withs_of (xs ++ x ∷ []) ≡ withs_of xs ++ with_of x ∷ []
withs_push xs x = map-append _ xs (x ∷ [])

pub specs_push : (xs : List Spec) (x : Spec) → specs_of (xs ++ x ∷ []) ≡ specs_of xs ++ spec_of x ∷ []
specs_push xs x = map-append _ xs (x ∷ [])

pub params_push : (xs : List Param) (x : Param) → params_of (xs ++ x ∷ []) ≡ params_of xs ++ param_of x ∷ []
params_push xs x = map-append _ xs (x ∷ [])

pub decs_push : (xs : List Dec) (x : Dec) → decs_of (xs ++ x ∷ []) ≡ decs_of xs ++ dec_of x ∷ []
decs_push xs x = map-append _ xs (x ∷ [])
