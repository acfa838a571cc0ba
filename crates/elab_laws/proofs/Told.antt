-- In the terms of source trees each use tells how many names stand before the last of its path.
use Rattle.std.proofs.Common.{◌≡◌, ◌++◌, List, [], ◌∷◌, Bool, map, refl, sym, ap, ◌∙◌, subst}
use Rattle.std.specs.Prelude.{Option, Some, None}
use Rattle.fut_scalar.specs.declared.place.Place.{Place}
use Rattle.fut_ast.specs.Sorts.{Text, SourcePat, SourceType, SourceExp}
use Rattle.fut_ast.specs.declared.node.Label.{Label}
use Rattle.fut_ast.specs.declared.node.Oper.{Oper}
use Rattle.fut_ast.specs.declared.node.Oper.TheVariants as oper
use Rattle.fut_ast.specs.declared.exp.Exp.{Exp-F, roll-Exp, ind-Exp}
use Rattle.fut_ast.specs.declared.exp.Form.{Form-F, out-Form, map-Form, out-roll-Form}
use Rattle.fut_ast.specs.declared.exp.Bind.{Bind-F, roll-Bind}
use Rattle.fut_ast.specs.declared.exp.Ix.{Ix-F, out-Ix, map-Ix, roll-Ix, out-roll-Ix}
use Rattle.fut_ast.specs.declared.exp.LoopForm.{LoopForm-F, out-LoopForm, map-LoopForm, roll-LoopForm, out-roll-LoopForm}
use Rattle.fut_flat.specs.Sources.{Spelled, SourceTerm, SourceTurns, Placed, terms, terms_then, declared, joined, names_before, is_before, standing, applied_to, Asked, asked, Row, lets, placed, source_term}
use Rattle.elab_scopes.specs.Programs.{definition_term}
use Rattle.fut_flat.specs.Terms.{Use, Strict, Lambda, Apply, Let, If, Loop, Terms, no_term, term_and, Counted, Over, While}
use Rattle.fut_flat.proofs.SourceForms.{PlainForm, PlainIx, PlainLoop, PlainBind, asked_of, turns_of, row_of, exp_fields, layer, placed_is, row_is, turns_layer, turns_are, index_layer, index_is}

abbrev mutual
  pub Told : SourceTerm → Type 0
  Told (Use p at k) = k ≡ names_before p.path
  Told (Strict o mark ts) = All_told ts
  Told (Lambda ps e) = Told e
  Told (Apply f e) = Told f × Told e
  Told (Let b v e) = Told v × Told e
  Told (If c a b) = Told c × Told a × Told b
  Told (Loop mark sizes p first turns body) = Told first × Turns_told turns × Told body

  pub All_told : Terms Spelled Label → Type 0
  All_told no_term = Unit {0}
  All_told (term_and t ts) = Told t × All_told ts

  pub Turns_told : SourceTurns → Type 0
  Turns_told (Counted i n) = Told n
  Turns_told (Over p e) = Told e
  Turns_told (While c) = Told c

abbrev All_placed : List Placed → Type 0
All_placed [] = Unit {0}
All_placed (p ∷ ps) = Told p.term × All_placed ps

terms_told : (ps : List Placed) → All_placed ps → All_told (terms ps)
unfolding terms
terms_told [] a = tt
terms_told (p ∷ ps) a = (a.0, terms_told ps a.1)

then_told : (ps : List Placed) (e : SourceTerm) → All_placed ps → Told e → All_told (terms_then ps e)
unfolding terms_then
then_told [] e a k = (k, tt)
then_told (p ∷ ps) e a k = (a.0, then_told ps e a.1 k)

both_placed : (ps qs : List Placed) → All_placed ps → All_placed qs → All_placed (ps ++ qs)
both_placed [] qs a b = b
both_placed (p ∷ ps) qs a b = (a.0, both_placed ps qs a.1 b)

standing_told : (behind : Bool) (t : SourceTerm) → Told t → Told (standing behind t)
standing_told behind (Use p at k) a = a
standing_told behind (Strict o mark ts) a = a
standing_told behind (Lambda ps e) a = a
standing_told behind (Apply f e) a = a
standing_told behind (Let b v e) a = a
standing_told behind (If c t e) a = a
standing_told behind (Loop mark sizes p first turns body) a = a

applied_told : (f e : Placed) → Told f.term → Told e.term → Told (applied_to f e)
unfolding applied_to
applied_told f e a b = (standing_told (is_before e.place f.place) f.term a, b)

joined_told : (op : Oper) (at : Place) (a b : SourceTerm) → Told a → Told b → Told (joined op at a b)
joined_told (oper.Bin op) at a b s t = (s, (t, tt))
joined_told oper.Then at a b s t = (s, (t, (refl, (refl, refl))))
joined_told op at a b s t = (s, (t, (refl, (refl, refl))))

declared_told : (t : Option SourceType) (p : Placed) → Told p.term → Told (declared t p)
declared_told None p a = a
declared_told (Some t) p a = (a, tt)

abbrev All_rows : List Row → Type 0
All_rows [] = Unit {0}
All_rows (l ∷ ls) = Told l.1 × All_rows ls

lets_told : (ls : List Row) (e : SourceTerm) → All_rows ls → Told e → Told (lets ls e)
unfolding lets
lets_told [] e a k = k
lets_told (l ∷ ls) e a k = (a.0, lets_told ls e a.1 k)

-- ---- by the forms of trees

abbrev Exp_told : SourceExp → Type 0
Exp_told e = Told (source_term e)

abbrev Form_told : PlainForm → Type 0
Form_told f = (at mark : Place) → Told (layer (out-Form f) at mark)

abbrev Index_told : PlainIx → Type 0
Index_told i = All_placed (asked_of i).1

abbrev Loop_told : PlainLoop → Type 0
Loop_told o = (at : Place) → Turns_told (turns_of o at)

abbrev Bind_told : PlainBind → Type 0
Bind_told b = Told (row_of b).1

abbrev SuchForm : Type 0
SuchForm = (form : PlainForm) × Form_told form

abbrev SuchIx : Type 0
SuchIx = (ix : PlainIx) × Index_told ix

abbrev SuchLoop : Type 0
SuchLoop = (over : PlainLoop) × Loop_told over

abbrev SuchBind : Type 0
SuchBind = (bind : PlainBind) × Bind_told bind

abbrev SuchExp : Type 0
SuchExp = (e : SourceExp) × Exp_told e

exps_told : (es : List SuchExp) → All_placed (map placed (map (λ (e : SuchExp). e.0) es))
exps_told [] = tt
exps_told (e ∷ es) = (e.1, exps_told es)

fields_told : (fs : List (Text × SuchExp)) → All_placed (map (λ (f : Text × Placed). f.1) (exp_fields (map (λ (f : Text × SuchExp). (f.0, f.1.0)) fs)))
fields_told [] = tt
fields_told (f ∷ fs) = (f.1.1, fields_told fs)

asked_told : (is : List SuchIx) → All_placed (asked (map asked_of (map (λ (i : SuchIx). i.0) is)))
unfolding asked
asked_told [] = tt
asked_told (i ∷ is) = both_placed (asked_of i.0).1 _ i.1 (asked_told is)

rows_told : (bs : List SuchBind) → All_rows (map row_of (map (λ (b : SuchBind). b.0) bs))
rows_told [] = tt
rows_told (b ∷ bs) = (b.1, rows_told bs)

abbrev Layer_told : Form-F PlainForm PlainIx PlainLoop PlainBind SourceExp → Type 0
Layer_told l = (at mark : Place) → Told (layer l at mark)

layer_told : (y : Form-F SuchForm SuchIx SuchLoop SuchBind SuchExp) →
    Layer_told (map-Form _ _ _ _ _ _ _ _ _ _ (λ (f : SuchForm). f.0) (λ (i : SuchIx). i.0) (λ (o : SuchLoop). o.0) (λ (b : SuchBind). b.0) (λ (e : SuchExp). e.0) y)
layer_told (Form-F.Path p) at mark = refl
layer_told (Form-F.Int n t) at mark = tt
layer_told (Form-F.Bool b) at mark = tt
layer_told Form-F.Unit at mark = tt
layer_told (Form-F.Tuple es) at mark = terms_told _ (exps_told es)
layer_told (Form-F.Record fs) at mark = terms_told _ (fields_told fs)
layer_told (Form-F.Array es) at mark = terms_told _ (exps_told es)
layer_told (Form-F.Apply f e) at mark = applied_told (placed f.0) (placed e.0) f.1 e.1
layer_told (Form-F.Binary op a b) at mark = joined_told op mark _ _ a.1 b.1
layer_told (Form-F.Unary op a) at mark = (a.1, tt)
layer_told (Form-F.Lambda ps t e) at mark = declared_told t (placed e.0) e.1
layer_told (Form-F.Lets bs e) at mark = lets_told _ _ (rows_told bs) e.1
layer_told (Form-F.If c a b) at mark = (c.1, a.1, b.1)
layer_told (Form-F.Loop sizes p e over body) at mark = (e.1, over.1 at, body.1)
layer_told (Form-F.Index e is) at mark = (e.1, terms_told _ (asked_told is))
layer_told (Form-F.Field e x) at mark = (e.1, tt)
layer_told (Form-F.Update a es e) at mark = (a.1, then_told _ _ (exps_told es) e.1)
layer_told (Form-F.Replace r x e) at mark = (r.1, (e.1, tt))
layer_told (Form-F.Ascribe e t) at mark = (e.1, tt)
layer_told (Form-F.Coerce e t) at mark = (e.1, tt)
layer_told (Form-F.Assert c e) at mark = ((c.1, tt), e.1)
layer_told (Form-F.Range e None end g) at mark = (e.1, (g.1, tt))
layer_told (Form-F.Range e (Some f) end g) at mark = (e.1, (f.1, (g.1, tt)))

of_form : (e : SourceExp) → Form_told e.form → Exp_told e
of_form e h = subst (λ (p : Placed). Told p.term) (sym (placed_is e)) (h e.place e.mark)

index_layer_told : (y : Ix-F SuchForm SuchIx SuchLoop SuchBind SuchExp) →
    All_placed (index_layer (map-Ix _ _ _ _ _ _ _ _ _ _ (λ (f : SuchForm). f.0) (λ (i : SuchIx). i.0) (λ (o : SuchLoop). o.0) (λ (b : SuchBind). b.0) (λ (e : SuchExp). e.0) y)).1
index_layer_told (Ix-F.At e) = (e.1, tt)
index_layer_told (Ix-F.Slice None None) = tt
index_layer_told (Ix-F.Slice None (Some f)) = (f.1, tt)
index_layer_told (Ix-F.Slice (Some e) None) = (e.1, tt)
index_layer_told (Ix-F.Slice (Some e) (Some f)) = (e.1, (f.1, tt))
index_layer_told Ix-F.Backwards = tt

turns_layer_told : (y : LoopForm-F SuchForm SuchIx SuchLoop SuchBind SuchExp) (at : Place) →
    Turns_told (turns_layer (map-LoopForm _ _ _ _ _ _ _ _ _ _ (λ (f : SuchForm). f.0) (λ (i : SuchIx). i.0) (λ (o : SuchLoop). o.0) (λ (b : SuchBind). b.0) (λ (e : SuchExp). e.0) y) at)
turns_layer_told (LoopForm-F.For i n) at = n.1
turns_layer_told (LoopForm-F.ForIn p e) at = e.1
turns_layer_told (LoopForm-F.While c) at = c.1

of_index : (i : PlainIx) → All_placed (index_layer (out-Ix i)).1 → Index_told i
of_index i h = subst (λ (a : Asked). All_placed a.1) (sym (index_is i)) h

of_loop : (o : PlainLoop) → ((at : Place) → Turns_told (turns_layer (out-LoopForm o) at)) → Loop_told o
of_loop o h at = subst Turns_told (sym (turns_are o at)) (h at)

of_bind : (b : PlainBind) → Exp_told b.value → Bind_told b
of_bind b h = subst (λ (r : Row). Told r.1) (sym (row_is b)) h

abbrev BindLayer : Type 0
BindLayer = Bind-F PlainForm PlainIx PlainLoop PlainBind SourceExp

abbrev ExpLayer : Type 0
ExpLayer = Exp-F PlainForm PlainIx PlainLoop PlainBind SourceExp

pub exp_told : (e : SourceExp) → Told (source_term e)
exp_told = ind-Exp Form_told Index_told Loop_told Bind_told Exp_told
    (λ x y is. subst Layer_told (is ∙ sym (out-roll-Form x)) (layer_told y))
    (λ x y is. of_index (roll-Ix x) (subst (λ z. All_placed (index_layer z).1) (is ∙ sym (out-roll-Ix x)) (index_layer_told y)))
    (λ x y is. of_loop (roll-LoopForm x) (subst (λ z. (at : Place) → Turns_told (turns_layer z at)) (is ∙ sym (out-roll-LoopForm x)) (turns_layer_told y)))
    (λ x y is. of_bind (roll-Bind x) (subst Exp_told (ap (λ (z : BindLayer). z.value) is) y.value.1))
    (λ x y is. of_form (roll-Exp x) (subst Form_told (ap (λ (z : ExpLayer). z.form) is) y.form.1))

-- and in those of definitions
pub definition_told : (ps : List SourcePat) (t : Option SourceType) (e : SourceExp) → Told (definition_term ps t e)
definition_told [] t e = declared_told t (placed e) (exp_told e)
definition_told (p ∷ ps) t e = declared_told t (placed e) (exp_told e)
