-- The texts of each form of module expressions and declarations.
use Rattle.std.proofs.Common.{◌≡◌, List, [], ◌∷◌, ◌++◌, ap, ◌∙◌, refl, Option, Bool}
use Rattle.fut_scalar.specs.declared.place.Place.{Place}
use Rattle.fut_ast.specs.Sorts.{Text, Path}
use Rattle.fut_ast.specs.declared.node.Label.{Label}
use Rattle.fut_ast.specs.declared.module.Dec.{Dec, roll-Dec, fold-Dec, fold-roll-Dec}
use Rattle.fut_ast.specs.declared.module.DecForm.{DecForm, DecForm-F, map-DecForm, out-DecForm, fold-DecForm, fold_out-DecForm}
use Rattle.fut_ast.specs.declared.module.DecForm.TheVariants as dec
use Rattle.fut_ast.specs.declared.module.ModExp.{ModExp, roll-ModExp, fold-ModExp, fold-roll-ModExp}
use Rattle.fut_ast.specs.declared.module.ModForm.{ModForm, ModForm-F, map-ModForm, out-ModForm, fold-ModForm, fold_out-ModForm}
use Rattle.fut_ast.specs.declared.module.ModForm.TheVariants as form
use Rattle.fut_ast.specs.declared.module.ModType.{ModType}
use Rattle.fut_ast.specs.declared.module.Param.{Param}
use Rattle.fut_ast.specs.declared.exp.Exp.{Exp}
use Rattle.fut_ast.specs.declared.pat.Head.{Head}
use Rattle.fut_ast.specs.declared.pat.Pat.{Pat}
use Rattle.fut_ast.specs.declared.ty.TypeExp.{TypeExp}
use Rattle.file_order.specs.Order.{Texts, dec_form_texts, dec_texts, imported_texts, mod_form_texts, mod_texts}
use Rattle.file_imports.specs.Texts.{decs_texts, module_texts, modules_texts}

unfoldable form_texts : ModForm → Texts
form_texts = fold-ModForm Texts Texts Texts Texts dec_form_texts mod_form_texts dec_texts mod_texts

unfoldable declared_texts : DecForm → Texts
declared_texts = fold-DecForm Texts Texts Texts Texts dec_form_texts mod_form_texts dec_texts mod_texts

of_module : (at : Place) (f : ModForm) → module_texts (roll-ModExp (record { place = at; form = f })) ≡ form_texts f
unfolding module_texts form_texts mod_texts
of_module at f = fold-roll-ModExp Texts Texts Texts Texts dec_form_texts mod_form_texts dec_texts mod_texts (record { place = at; form = f })

abbrev ModLayer : Type 0
ModLayer = ModForm-F DecForm ModForm Dec ModExp

abbrev DecLayer : Type 0
DecLayer = DecForm-F DecForm ModForm Dec ModExp

unfoldable layer_texts : ModLayer → Texts
layer_texts (ModForm-F.Path p) = []
layer_texts (ModForm-F.Decs ds) = decs_texts ds
layer_texts (ModForm-F.Apply m ms) = module_texts m ++ modules_texts ms
layer_texts (ModForm-F.«ModForm::Import» x) = x ∷ []
layer_texts (ModForm-F.Lambda x t u m) = module_texts m
layer_texts (ModForm-F.Seal m t) = module_texts m

opened : (f : ModForm) {l : ModLayer} → out-ModForm f ≡ l → form_texts f ≡ layer_texts l
unfolding form_texts mod_form_texts layer_texts imported_texts module_texts
opened f {l} e = fold_out-ModForm Texts Texts Texts Texts dec_form_texts mod_form_texts dec_texts mod_texts f ∙ ap (λ x. mod_form_texts (map-ModForm DecForm ModForm Dec ModExp Texts Texts Texts Texts (fold-DecForm Texts Texts Texts Texts dec_form_texts mod_form_texts dec_texts mod_texts) (fold-ModForm Texts Texts Texts Texts dec_form_texts mod_form_texts dec_texts mod_texts) (fold-Dec Texts Texts Texts Texts dec_form_texts mod_form_texts dec_texts mod_texts) (fold-ModExp Texts Texts Texts Texts dec_form_texts mod_form_texts dec_texts mod_texts) x)) e ∙ by_layer l
  where
    by_layer : (l : ModLayer) → mod_form_texts (map-ModForm DecForm ModForm Dec ModExp Texts Texts Texts Texts (fold-DecForm Texts Texts Texts Texts dec_form_texts mod_form_texts dec_texts mod_texts) (fold-ModForm Texts Texts Texts Texts dec_form_texts mod_form_texts dec_texts mod_texts) (fold-Dec Texts Texts Texts Texts dec_form_texts mod_form_texts dec_texts mod_texts) (fold-ModExp Texts Texts Texts Texts dec_form_texts mod_form_texts dec_texts mod_texts) l) ≡ layer_texts l
    by_layer (ModForm-F.Path p) = refl
    by_layer (ModForm-F.Decs ds) = refl
    by_layer (ModForm-F.Apply m ms) = refl
    by_layer (ModForm-F.«ModForm::Import» x) = refl
    by_layer (ModForm-F.Lambda x t u m) = refl
    by_layer (ModForm-F.Seal m t) = refl

of_dec : (at : Place) (b : Bool) (f : DecForm) → imported_texts (roll-Dec (record { place = at; local = b; form = f })) ≡ declared_texts f
unfolding imported_texts declared_texts dec_texts
of_dec at b f = fold-roll-Dec Texts Texts Texts Texts dec_form_texts mod_form_texts dec_texts mod_texts (record { place = at; local = b; form = f })

pub path_texts : (at : Place) (p : Path) → module_texts (roll-ModExp (record { place = at; form = form.Path p })) ≡ []
unfolding layer_texts
path_texts at p = of_module at (form.Path p) ∙ opened (form.Path p) (form.outs-Path _)

pub block_texts : (at : Place) (ds : List Dec) → module_texts (roll-ModExp (record { place = at; form = form.Decs ds })) ≡ decs_texts ds
unfolding layer_texts
block_texts at ds = of_module at (form.Decs ds) ∙ opened (form.Decs ds) (form.outs-Decs _)

pub applied_texts : (at : Place) (m : ModExp) (ms : List ModExp) → module_texts (roll-ModExp (record { place = at; form = form.Apply m ms })) ≡ module_texts m ++ modules_texts ms
unfolding layer_texts
applied_texts at m ms = of_module at (form.Apply m ms) ∙ opened (form.Apply m ms) (form.outs-Apply _ _)

pub import_texts : (at : Place) (x : Text) → module_texts (roll-ModExp (record { place = at; form = form.Import x })) ≡ x ∷ []
unfolding layer_texts
import_texts at x = of_module at (form.Import x) ∙ opened (form.Import x) (form.outs-Import _)

pub lambda_texts : (at : Place) (x : Label) (t : ModType) (u : Option ModType) (m : ModExp) → module_texts (roll-ModExp (record { place = at; form = form.Lambda x t u m })) ≡ module_texts m
unfolding layer_texts
lambda_texts at x t u m = of_module at (form.Lambda x t u m) ∙ opened (form.Lambda x t u m) (form.outs-Lambda _ _ _ _)

pub sealed_texts : (at : Place) (m : ModExp) (t : ModType) → module_texts (roll-ModExp (record { place = at; form = form.Seal m t })) ≡ module_texts m
unfolding layer_texts
sealed_texts at m t = of_module at (form.Seal m t) ∙ opened (form.Seal m t) (form.outs-Seal _ _)

unfoldable dec_layer_texts : DecLayer → Texts
dec_layer_texts (DecForm-F.Def is_entry x heads ps t e) = []
dec_layer_texts (DecForm-F.TypeName x heads t) = []
dec_layer_texts (DecForm-F.Module x ps t m) = module_texts m
dec_layer_texts (DecForm-F.ModType x t) = []
dec_layer_texts (DecForm-F.Open m) = module_texts m
dec_layer_texts (DecForm-F.«DecForm::Import» x) = x ∷ []

opened_dec : (f : DecForm) {l : DecLayer} → out-DecForm f ≡ l → declared_texts f ≡ dec_layer_texts l
unfolding declared_texts dec_form_texts dec_layer_texts imported_texts module_texts
opened_dec f {l} e = fold_out-DecForm Texts Texts Texts Texts dec_form_texts mod_form_texts dec_texts mod_texts f ∙ ap (λ x. dec_form_texts (map-DecForm DecForm ModForm Dec ModExp Texts Texts Texts Texts (fold-DecForm Texts Texts Texts Texts dec_form_texts mod_form_texts dec_texts mod_texts) (fold-ModForm Texts Texts Texts Texts dec_form_texts mod_form_texts dec_texts mod_texts) (fold-Dec Texts Texts Texts Texts dec_form_texts mod_form_texts dec_texts mod_texts) (fold-ModExp Texts Texts Texts Texts dec_form_texts mod_form_texts dec_texts mod_texts) x)) e ∙ by_layer l
  where
    by_layer : (l : DecLayer) → dec_form_texts (map-DecForm DecForm ModForm Dec ModExp Texts Texts Texts Texts (fold-DecForm Texts Texts Texts Texts dec_form_texts mod_form_texts dec_texts mod_texts) (fold-ModForm Texts Texts Texts Texts dec_form_texts mod_form_texts dec_texts mod_texts) (fold-Dec Texts Texts Texts Texts dec_form_texts mod_form_texts dec_texts mod_texts) (fold-ModExp Texts Texts Texts Texts dec_form_texts mod_form_texts dec_texts mod_texts) l) ≡ dec_layer_texts l
    by_layer (DecForm-F.Def is_entry x heads ps t e) = refl
    by_layer (DecForm-F.TypeName x heads t) = refl
    by_layer (DecForm-F.Module x ps t m) = refl
    by_layer (DecForm-F.ModType x t) = refl
    by_layer (DecForm-F.Open m) = refl
    by_layer (DecForm-F.«DecForm::Import» x) = refl

-- by what the form of a declaration is
declared : (at : Place) (b : Bool) (f : DecForm) {l : DecLayer} → out-DecForm f ≡ l → imported_texts (roll-Dec (record { place = at; local = b; form = f })) ≡ dec_layer_texts l
declared at b f e = of_dec at b f ∙ opened_dec f e

pub def_texts : (at : Place) (b : Bool) (is_entry : Bool) (x : Label) (heads : List Head) (ps : List Pat) (t : Option TypeExp) (e : Exp) → imported_texts (roll-Dec (record { place = at; local = b; form = dec.Def is_entry x heads ps t e })) ≡ []
unfolding dec_layer_texts
def_texts at b is_entry x heads ps t e = declared at b (dec.Def is_entry x heads ps t e) (dec.outs-Def _ _ _ _ _ _)

pub type_texts : (at : Place) (b : Bool) (x : Label) (heads : List Head) (t : TypeExp) → imported_texts (roll-Dec (record { place = at; local = b; form = dec.TypeName x heads t })) ≡ []
unfolding dec_layer_texts
type_texts at b x heads t = declared at b (dec.TypeName x heads t) (dec.outs-TypeName _ _ _)

pub named_texts : (at : Place) (b : Bool) (x : Label) (ps : List Param) (t : Option ModType) (m : ModExp) → imported_texts (roll-Dec (record { place = at; local = b; form = dec.Module x ps t m })) ≡ module_texts m
unfolding dec_layer_texts
named_texts at b x ps t m = declared at b (dec.Module x ps t m) (dec.outs-Module _ _ _ _)

pub signature_texts : (at : Place) (b : Bool) (x : Label) (t : ModType) → imported_texts (roll-Dec (record { place = at; local = b; form = dec.ModType x t })) ≡ []
unfolding dec_layer_texts
signature_texts at b x t = declared at b (dec.ModType x t) (dec.outs-ModType _ _)

pub open_texts : (at : Place) (b : Bool) (m : ModExp) → imported_texts (roll-Dec (record { place = at; local = b; form = dec.Open m })) ≡ module_texts m
unfolding dec_layer_texts
open_texts at b m = declared at b (dec.Open m) (dec.outs-Open _)

pub imported_by_dec : (at : Place) (b : Bool) (x : Text) → imported_texts (roll-Dec (record { place = at; local = b; form = dec.Import x })) ≡ x ∷ []
unfolding dec_layer_texts
imported_by_dec at b x = declared at b (dec.Import x) (dec.outs-Import _)
