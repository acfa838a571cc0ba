-- Which expressions are names, and which functions stand behind their arguments.
use Rattle.std.proofs.Common.{◌≡◌, ◌&&◌, Bool, true, false, List, [], ◌∷◌, map, None, Some, refl, ◌∙◌, ap}
use Rattle.fut_scalar.specs.declared.place.Place.{Place}
use Rattle.fut_ast.specs.Sorts.{SourceExp}
use Rattle.fut_ast.specs.declared.node.Oper.{Oper}
use Rattle.fut_ast.specs.declared.node.Oper.TheVariants as oper
use Rattle.fut_tree.specs.declared.exp.Exp.TheInside.{Inside}
use Rattle.fut_tree.specs.declared.exp.Bind.{Bind}
use Rattle.fut_tree.specs.declared.exp.Form.{Form}
use Rattle.fut_tree.specs.declared.exp.Form.TheVariants as held_form
use Rattle.fut_tree.specs.Exps.{binds_of, exp_of}
use Rattle.fut_flat.specs.Sources.{SourceTerm, applied_to, is_before, is_use, joined, lets}
use Rattle.fut_flat.proofs.SourceForms.{row_of}
use Rattle.elab_exps.specs.Order.{is_named, is_turned}
use Rattle.elab_exps.specs.Parts.{source_of}
use Rattle.elab_exps.proofs.HeldExps.{exp_held, held_layer, place_held}

-- a body with no let before it
abbrev pub alone : List Bind → SourceExp → Bool
alone [] e = is_named e
alone (b ∷ bs) e = false

abbrev pub name_in : Form → Bool
name_in (held_form.Path p) = true
name_in (held_form.Lets bs e) = alone bs.now e.now
name_in f = false

joined_is_none : (op : Oper) (mark : Place) (a b : SourceTerm) → is_use (joined op mark a b) ≡ false
joined_is_none (oper.Bin op) mark a b = refl
joined_is_none oper.Then mark a b = refl
joined_is_none oper.After mark a b = refl
joined_is_none oper.Neg mark a b = refl
joined_is_none oper.Not mark a b = refl

lets_alone : (bs : List Bind) (e : SourceExp) → is_use (lets (map row_of (binds_of bs)) (source_of e)) ≡ alone bs e
unfolding lets is_named
lets_alone [] e = refl
lets_alone (b ∷ bs) e = refl

name_layer : (f : Form) (at mark : Place) → is_use (held_layer f at mark) ≡ name_in f
unfolding applied_to
name_layer (held_form.Path p) at mark = refl
name_layer (held_form.Int n t) at mark = refl
name_layer (held_form.Bool b) at mark = refl
name_layer held_form.Unit at mark = refl
name_layer (held_form.Tuple es) at mark = refl
name_layer (held_form.Record fs) at mark = refl
name_layer (held_form.Array es) at mark = refl
name_layer (held_form.Apply f e) at mark = refl
name_layer (held_form.Binary op a b) at mark = joined_is_none op mark (source_of a.now) (source_of b.now)
name_layer (held_form.Unary op a) at mark = refl
name_layer (held_form.Lambda ps t e) at mark = refl
name_layer (held_form.Lets bs e) at mark = lets_alone bs.now e.now
name_layer (held_form.If c a b) at mark = refl
name_layer (held_form.Loop sizes p e over body) at mark = refl
name_layer (held_form.Index e ixs) at mark = refl
name_layer (held_form.Field e x) at mark = refl
name_layer (held_form.Update a es e) at mark = refl
name_layer (held_form.Replace r x e) at mark = refl
name_layer (held_form.Ascribe e t) at mark = refl
name_layer (held_form.Coerce e t) at mark = refl
name_layer (held_form.Assert c e) at mark = refl
name_layer (held_form.Range e None end g) at mark = refl
name_layer (held_form.Range e (Some f) end g) at mark = refl

pub name_held : (e : Inside) → is_named (exp_of e) ≡ name_in e.form
unfolding is_named
name_held e = ap is_use (exp_held e) ∙ name_layer e.form e.place e.mark

pub turned_held : (f e : Inside) → is_turned (exp_of f) (exp_of e) ≡ (is_named (exp_of f) && is_before e.place f.place)
unfolding is_turned
turned_held f e = λ i. is_named (exp_of f) && is_before (place_held e i) (place_held f i)
