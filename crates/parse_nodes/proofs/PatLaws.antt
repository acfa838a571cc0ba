-- What walks over a pattern give, one level at a time.
use Rattle.std.proofs.Common.{◌≡◌, Bool, true, false, List, [], ◌∷◌, map, refl, ◌∙◌, ap}
use Rattle.fut_scalar.specs.declared.place.Place.{Place}
use Rattle.fut_ast.specs.declared.pat.Pat.{fold_out-Pat, outs-Pat'}
use Rattle.fut_ast.specs.declared.pat.PatForm.{PatForm as PlainForm, PatForm-F, out-PatForm, fold_out-PatForm, map-PatForm, fold-PatForm}
use Rattle.fut_ast.specs.declared.pat.PatForm.TheVariants as pat_form
use Rattle.fut_ast.specs.declared.exp.Form.TheVariants as form
use Rattle.fut_ast.specs.Sorts.{Text, Path, SourcePat, SourceExp}
use Rattle.fut_ast.specs.Nodes.{PatExp, any_wild, exp_at, exp_of_pat, has_wild, pat_form_exp, pat_form_wild, use_of}
use Rattle.fut_tree.specs.declared.pat.Pat.TheInside.{Inside}
use Rattle.fut_tree.specs.declared.pat.PatForm.{PatForm}
use Rattle.fut_tree.specs.declared.pat.PatForm.TheVariants as held_form
use Rattle.fut_tree.specs.Names.{all}
use Rattle.fut_tree.specs.Pats.{pat_fields, pat_form_of, pat_of}

abbrev pub PatLayer : Type 0
PatLayer = PatForm-F PlainForm SourcePat

map_map : {X Y Z : Type 0} (f : X → Y) (g : Y → Z) (xs : List X) → map g (map f xs) ≡ map (λ x. g (f x)) xs
map_map f g [] = refl
map_map f g (x ∷ xs) = ap (λ zs. g (f x) ∷ zs) (map_map f g xs)

-- the layer of a held pattern
abbrev pub layer_of : PatForm → PatLayer
layer_of (held_form.Var x) = PatForm-F.Var x.now
layer_of held_form.Wild = PatForm-F.Wild
layer_of held_form.Unit = PatForm-F.Unit
layer_of (held_form.Tuple ps) = PatForm-F.Tuple (all ps.now)
layer_of (held_form.Record fs) = PatForm-F.Record (pat_fields fs.now)
layer_of (held_form.Ascribe p t) = PatForm-F.Ascribe p.now t.now

out_form : (f : PatForm) → out-PatForm (pat_form_of f) ≡ layer_of f
out_form (held_form.Var x) = pat_form.outs-Var _
out_form held_form.Wild = pat_form.outs-Wild
out_form held_form.Unit = pat_form.outs-Unit
out_form (held_form.Tuple ps) = pat_form.outs-Tuple _
out_form (held_form.Record fs) = pat_form.outs-Record _
out_form (held_form.Ascribe p t) = pat_form.outs-Ascribe _ _

-- ---- whether a `_` stands in a pattern

abbrev pub wild_layer : PatLayer → Bool
wild_layer (PatForm-F.Var x) = false
wild_layer PatForm-F.Wild = true
wild_layer PatForm-F.Unit = false
wild_layer (PatForm-F.Tuple ps) = any_wild (map has_wild ps)
wild_layer (PatForm-F.Record fs) = any_wild (map (λ (f : Text × SourcePat). has_wild f.1) fs)
wild_layer (PatForm-F.Ascribe p t) = has_wild p

abbrev form_wild : PlainForm → Bool
form_wild = fold-PatForm Bool Bool pat_form_wild (λ p. p.form)

wild_levels : (l : PatLayer) → pat_form_wild (map-PatForm PlainForm SourcePat Bool Bool form_wild has_wild l) ≡ wild_layer l
wild_levels (PatForm-F.Var x) = refl
wild_levels PatForm-F.Wild = refl
wild_levels PatForm-F.Unit = refl
wild_levels (PatForm-F.Tuple ps) = refl
wild_levels (PatForm-F.Record fs) = ap any_wild (map_map _ _ fs)
wild_levels (PatForm-F.Ascribe p t) = refl

wild_is : (p : SourcePat) → has_wild p ≡ wild_layer (out-PatForm p.form)
wild_is p =
    fold_out-Pat Bool Bool pat_form_wild (λ p. p.form) p
    ∙ ap (λ x. form_wild x.form) (outs-Pat' p)
    ∙ fold_out-PatForm Bool Bool pat_form_wild (λ p. p.form) p.form
    ∙ wild_levels (out-PatForm p.form)

pub wild_held : (p : Inside) → has_wild (pat_of p) ≡ wild_layer (layer_of p.form)
wild_held p = wild_is (pat_of p) ∙ ap wild_layer (out_form p.form)

-- ---- a pattern as an expression

abbrev pub exp_layer : PatLayer → Place → SourceExp
exp_layer (PatForm-F.Var x) place = use_of place x
exp_layer PatForm-F.Wild place = exp_at place form.Unit
exp_layer PatForm-F.Unit place = exp_at place form.Unit
exp_layer (PatForm-F.Tuple ps) place = exp_at place (form.Tuple (map exp_of_pat ps))
exp_layer (PatForm-F.Record fs) place = exp_at place (form.Record (map (λ (f : Text × SourcePat). (f.0, exp_of_pat f.1)) fs))
exp_layer (PatForm-F.Ascribe p t) place = exp_of_pat p

abbrev form_exp : PlainForm → PatExp
form_exp = fold-PatForm PatExp SourceExp pat_form_exp (λ p. p.form p.place)

exp_levels : (l : PatLayer) (place : Place) → pat_form_exp (map-PatForm PlainForm SourcePat PatExp SourceExp form_exp exp_of_pat l) place ≡ exp_layer l place
exp_levels (PatForm-F.Var x) place = refl
exp_levels PatForm-F.Wild place = refl
exp_levels PatForm-F.Unit place = refl
exp_levels (PatForm-F.Tuple ps) place = refl
exp_levels (PatForm-F.Record fs) place = refl
exp_levels (PatForm-F.Ascribe p t) place = refl

exp_is : (p : SourcePat) → exp_of_pat p ≡ exp_layer (out-PatForm p.form) p.place
exp_is p =
    fold_out-Pat PatExp SourceExp pat_form_exp (λ p. p.form p.place) p
    ∙ ap (λ x. form_exp x.form x.place) (outs-Pat' p)
    ∙ (λ i. fold_out-PatForm PatExp SourceExp pat_form_exp (λ p. p.form p.place) p.form i p.place)
    ∙ exp_levels (out-PatForm p.form) p.place

pub exp_held : (p : Inside) → exp_of_pat (pat_of p) ≡ exp_layer (layer_of p.form) p.place
exp_held p = exp_is (pat_of p) ∙ ap (λ l. exp_layer l p.place) (out_form p.form)
