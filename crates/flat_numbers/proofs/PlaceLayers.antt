-- The places of trees, one level at a time.
use Rattle.std.proofs.Common.{◌≡◌, ℕ, ◌+◌, List, ◌++◌, replicate, refl, sym, ◌∙◌, ap, append_assoc, Bor}
use Rattle.std.specs.List.{flat_map}
use Rattle.std.proofs.lemmas.List.{replicate-append-replicate}
use Rattle.fut_scalar.specs.declared.place.BindId.{BindId}
use Rattle.fut_scalar.specs.declared.place.Place.{Place}
use Rattle.fut_flat.specs.declared.act.Act.{Act}
use Rattle.fut_flat.specs.declared.exp.Exp.{Exp, fold_out-Exp}
use Rattle.fut_flat.specs.declared.exp.Form.{Form, Form-F, out-Form, map-Form, fold_out-Form}
use Rattle.fut_flat.specs.declared.exp.Form.TheVariants as form
use Rattle.fut_flat.specs.declared.exp.Let.{Let as LetTree, fold_out-Let}
use Rattle.fut_flat.specs.declared.exp.Loop.{Loop as LoopTree, fold_out-Loop}
use Rattle.fut_flat.specs.declared.exp.LoopForm.{LoopForm, LoopForm-F, out-LoopForm, map-LoopForm, fold_out-LoopForm}
use Rattle.fut_flat.specs.declared.exp.LoopForm.TheVariants as turns
use Rattle.fut_flat.specs.declared.pat.Pat.{Pat, fold_out-Pat}
use Rattle.fut_flat.specs.declared.pat.PatField.{PatField, fold_out-PatField}
use Rattle.fut_flat.specs.declared.pat.PatForm.{PatForm, PatForm-F, out-PatForm, map-PatForm, fold-PatForm, fold_out-PatForm}
use Rattle.fut_flat.specs.declared.pat.PatForm.TheVariants as pat
use Rattle.fut_flat.specs.declared.prim.Ref.{Ref}
use Rattle.fut_flat.specs.declared.program.Definition.{Definition}
use Rattle.fut_flat.specs.declared.ty.TypeExp.{TypeExp}
use Rattle.fut_flat.specs.Erased.{operation_of}
use Rattle.fut_flat.specs.Numbers.{own_numbers}
use Rattle.flat_numbers.specs.Places.{one, Placed, pattern_form_places, pattern_places, field_places, exp_form_places, let_form_places, turns_form_places, loop_form_places, exp_places, form_places, let_places, loop_places, turn_places, definition_places}
use Rattle.flat_numbers.proofs.PlaceLists.{flat_of_map}

-- ---- patterns

unfoldable pub pattern_placed : PatForm → Placed
pattern_placed = fold-PatForm Placed (List Place) (List Place) pattern_form_places (λ p. p.form p.place) (λ f. f.pat)

abbrev pub PatternLayer : Type 0
PatternLayer = PatForm-F PatForm Pat PatField

abbrev pub pattern_layer_places : PatternLayer → Placed
pattern_layer_places (PatForm-F.Bound b) at = one at
pattern_layer_places PatForm-F.Wild at = one at
pattern_layer_places (PatForm-F.Tuple ps) at = one at ++ flat_map pattern_places ps.now
pattern_layer_places (PatForm-F.Record fs) at = one at ++ flat_map field_places fs.now
pattern_layer_places (PatForm-F.Typed p t) at = pattern_places p.now

pattern_step : (l : PatternLayer) (at : Place) → pattern_form_places (map-PatForm PatForm Pat PatField Placed (List Place) (List Place) pattern_placed pattern_places field_places l) at ≡ pattern_layer_places l at
unfolding pattern_form_places
pattern_step (PatForm-F.Bound b) at = refl
pattern_step PatForm-F.Wild at = refl
pattern_step (PatForm-F.Tuple ps) at = ap (λ l. one at ++ l) (flat_of_map (λ (l : List Place). l) pattern_places ps.now)
pattern_step (PatForm-F.Record fs) at = ap (λ l. one at ++ l) (flat_of_map (λ (l : List Place). l) field_places fs.now)
pattern_step (PatForm-F.Typed p t) at = refl

pub pattern_places_is : (p : Pat) → pattern_places p ≡ pattern_placed p.form p.place
unfolding pattern_places pattern_placed
pattern_places_is p = fold_out-Pat Placed (List Place) (List Place) pattern_form_places (λ p. p.form p.place) (λ f. f.pat) p

pub pattern_placed_at : (f : PatForm) (at : Place) → pattern_placed f at ≡ pattern_layer_places (out-PatForm f) at
unfolding pattern_places pattern_placed field_places
pattern_placed_at f at = ap (λ (g : Placed). g at) (fold_out-PatForm Placed (List Place) (List Place) pattern_form_places (λ p. p.form p.place) (λ f. f.pat) f) ∙ pattern_step (out-PatForm f) at

pub field_is : (f : PatField) → field_places f ≡ pattern_places f.pat
unfolding pattern_places field_places
field_is f = fold_out-PatField Placed (List Place) (List Place) pattern_form_places (λ p. p.form p.place) (λ f. f.pat) f

pattern_at : (p : Pat) (f : PatForm) (l : PatternLayer) → p.form ≡ f → out-PatForm f ≡ l → pattern_layer_places l p.place ≡ pattern_places p
pattern_at p f l is o = sym (pattern_places_is p ∙ ap (λ (g : PatForm). pattern_placed g p.place) is ∙ pattern_placed_at f p.place ∙ ap (λ (m : PatternLayer). pattern_layer_places m p.place) o)

pub places_bound : (p : Pat) (b : BindId) → p.form ≡ pat.Bound b → one p.place ≡ pattern_places p
places_bound p b is = pattern_at p _ _ is (pat.outs-Bound b)

pub places_wild : (p : Pat) → p.form ≡ pat.Wild → one p.place ≡ pattern_places p
places_wild p is = pattern_at p _ _ is pat.outs-Wild

pub places_tuple : (p : Pat) (ps : Bor (List Pat)) → p.form ≡ pat.Tuple ps → one p.place ++ flat_map pattern_places ps.now ≡ pattern_places p
places_tuple p ps is = pattern_at p _ _ is (pat.outs-Tuple ps)

pub places_record : (p : Pat) (fs : Bor (List PatField)) → p.form ≡ pat.Record fs → one p.place ++ flat_map field_places fs.now ≡ pattern_places p
places_record p fs is = pattern_at p _ _ is (pat.outs-Record fs)

pub places_typed : (p : Pat) (q : Bor Pat) (t : Bor TypeExp) → p.form ≡ pat.Typed q t → pattern_places q.now ≡ pattern_places p
places_typed p q t is = pattern_at p _ _ is (pat.outs-Typed q t)

-- ---- expressions

abbrev pub Layer : Type 0
Layer = Form-F Form LoopForm Exp LetTree LoopTree

abbrev pub layer_places : Layer → Placed
layer_places (Form-F.Use r k) at = replicate (1 + (k + k)) at
layer_places (Form-F.Strict a mark es) at = replicate (own_numbers (operation_of a)) at ++ flat_map exp_places es.now
layer_places (Form-F.Lambda ps e) at = (one at ++ flat_map pattern_places ps.now) ++ exp_places e.now
layer_places (Form-F.Apply f e) at = (one at ++ exp_places f.now) ++ exp_places e.now
layer_places (Form-F.Lets ls e) at = flat_map (let_places at) ls.now ++ exp_places e.now
layer_places (Form-F.If c a b) at = ((one at ++ exp_places c.now) ++ exp_places a.now) ++ exp_places b.now
layer_places (Form-F.Loop l) at = loop_places at l.now

abbrev let_placed : LetTree → Placed
let_placed l at = let_places at l

abbrev loop_placed : LoopTree → Placed
loop_placed l at = loop_places at l

abbrev turn_placed : LoopForm → Placed
turn_placed t at = turn_places at t

step : (l : Layer) (at : Place) → exp_form_places (map-Form Form LoopForm Exp LetTree LoopTree Placed Placed (List Place) Placed Placed form_places turn_placed exp_places let_placed loop_placed l) at ≡ layer_places l at
unfolding exp_form_places
step (Form-F.Use r k) at = refl
step (Form-F.Strict a mark es) at = ap (λ l. replicate (own_numbers (operation_of a)) at ++ l) (flat_of_map (λ (l : List Place). l) exp_places es.now)
step (Form-F.Lambda ps e) at = refl
step (Form-F.Apply f e) at = refl
step (Form-F.Lets ls e) at = ap (λ l. l ++ exp_places e.now) (flat_of_map (λ (l : Placed). l at) let_placed ls.now)
step (Form-F.If c a b) at = refl
step (Form-F.Loop l) at = refl

pub exp_places_is : (e : Exp) → exp_places e ≡ form_places e.form e.place
unfolding exp_places form_places
exp_places_is e = fold_out-Exp Placed Placed (List Place) Placed Placed exp_form_places turns_form_places (λ e. e.form e.place) let_form_places loop_form_places e

pub form_places_at : (f : Form) (at : Place) → form_places f at ≡ layer_places (out-Form f) at
unfolding exp_places form_places let_places loop_places turn_places
form_places_at f at = ap (λ (g : Placed). g at) (fold_out-Form Placed Placed (List Place) Placed Placed exp_form_places turns_form_places (λ e. e.form e.place) let_form_places loop_form_places f) ∙ step (out-Form f) at

exp_at : (e : Exp) (f : Form) (l : Layer) → e.form ≡ f → out-Form f ≡ l → layer_places l e.place ≡ exp_places e
exp_at e f l is o = sym (exp_places_is e ∙ ap (λ (g : Form). form_places g e.place) is ∙ form_places_at f e.place ∙ ap (λ (m : Layer). layer_places m e.place) o)

-- one place, and so many more
one_more : (n : ℕ) (at : Place) → one at ++ replicate n at ≡ replicate (1 + n) at
one_more n at = replicate-append-replicate 1 n at

pub places_use : (e : Exp) (r : Ref) (k : ℕ) → e.form ≡ form.Use r k → (one e.place ++ replicate k e.place) ++ replicate k e.place ≡ exp_places e
places_use e r k is = append_assoc (one e.place) (replicate k e.place) (replicate k e.place) ∙ ap (λ l. one e.place ++ l) (replicate-append-replicate k k e.place) ∙ one_more (k + k) e.place ∙ exp_at e _ _ is (form.outs-Use r k)

pub places_strict : (e : Exp) (a : Act) (mark : Place) (es : Bor (List Exp)) (count : ℕ) → count ≡ own_numbers (operation_of a) → e.form ≡ form.Strict a mark es → replicate count e.place ++ flat_map exp_places es.now ≡ exp_places e
places_strict e a mark es count own is = ap (λ n. replicate n e.place ++ flat_map exp_places es.now) own ∙ exp_at e _ _ is (form.outs-Strict a mark es)

pub places_lambda : (e : Exp) (ps : Bor (List Pat)) (b : Bor Exp) → e.form ≡ form.Lambda ps b → (one e.place ++ flat_map pattern_places ps.now) ++ exp_places b.now ≡ exp_places e
places_lambda e ps b is = exp_at e _ _ is (form.outs-Lambda ps b)

pub places_apply : (e : Exp) (f x : Bor Exp) → e.form ≡ form.Apply f x → (one e.place ++ exp_places f.now) ++ exp_places x.now ≡ exp_places e
places_apply e f x is = exp_at e _ _ is (form.outs-Apply f x)

pub places_lets : (e : Exp) (ls : Bor (List LetTree)) (b : Bor Exp) → e.form ≡ form.Lets ls b → flat_map (let_places e.place) ls.now ++ exp_places b.now ≡ exp_places e
places_lets e ls b is = exp_at e _ _ is (form.outs-Lets ls b)

pub places_if : (e : Exp) (c a b : Bor Exp) → e.form ≡ form.If c a b → ((one e.place ++ exp_places c.now) ++ exp_places a.now) ++ exp_places b.now ≡ exp_places e
places_if e c a b is = exp_at e _ _ is (form.outs-If c a b)

pub places_loop : (e : Exp) (l : Bor LoopTree) → e.form ≡ form.Loop l → loop_places e.place l.now ≡ exp_places e
places_loop e l is = exp_at e _ _ is (form.outs-Loop l)

-- a let and a loop, by their parts
pub let_is : (at : Place) (l : LetTree) → let_places at l ≡ (one at ++ pattern_places l.pat) ++ exp_places l.value
unfolding let_places let_form_places exp_places
let_is at l = ap (λ (g : Placed). g at) (fold_out-Let Placed Placed (List Place) Placed Placed exp_form_places turns_form_places (λ e. e.form e.place) let_form_places loop_form_places l)

pub loop_is : (at : Place) (l : LoopTree) → loop_places at l ≡ (((one at ++ pattern_places l.pat) ++ exp_places l.first) ++ turn_places at l.form) ++ exp_places l.body
unfolding loop_places loop_form_places exp_places turn_places
loop_is at l = ap (λ (g : Placed). g at) (fold_out-Loop Placed Placed (List Place) Placed Placed exp_form_places turns_form_places (λ e. e.form e.place) let_form_places loop_form_places l)

abbrev pub TurnsLayer : Type 0
TurnsLayer = LoopForm-F Form LoopForm Exp LetTree LoopTree

abbrev pub turns_layer_places : TurnsLayer → Placed
turns_layer_places (LoopForm-F.For i n) at = one at ++ exp_places n
turns_layer_places (LoopForm-F.ForIn p e) at = pattern_places p ++ exp_places e
turns_layer_places (LoopForm-F.While c) at = exp_places c

turns_step : (l : TurnsLayer) (at : Place) → turns_form_places (map-LoopForm Form LoopForm Exp LetTree LoopTree Placed Placed (List Place) Placed Placed form_places turn_placed exp_places let_placed loop_placed l) at ≡ turns_layer_places l at
unfolding turns_form_places
turns_step (LoopForm-F.For i n) at = refl
turns_step (LoopForm-F.ForIn p e) at = refl
turns_step (LoopForm-F.While c) at = refl

pub turn_places_at : (at : Place) (t : LoopForm) → turn_places at t ≡ turns_layer_places (out-LoopForm t) at
unfolding exp_places form_places let_places loop_places turn_places
turn_places_at at t = ap (λ (g : Placed). g at) (fold_out-LoopForm Placed Placed (List Place) Placed Placed exp_form_places turns_form_places (λ e. e.form e.place) let_form_places loop_form_places t) ∙ turns_step (out-LoopForm t) at

turns_at : (at : Place) (t s : LoopForm) (l : TurnsLayer) → t ≡ s → out-LoopForm s ≡ l → turns_layer_places l at ≡ turn_places at t
turns_at at t s l is o = sym (ap (turn_places at) is ∙ turn_places_at at s ∙ ap (λ (m : TurnsLayer). turns_layer_places m at) o)

pub places_counted : (at : Place) (t : LoopForm) (i : BindId) (n : Exp) → t ≡ turns.For i n → one at ++ exp_places n ≡ turn_places at t
places_counted at t i n is = turns_at at t _ _ is (turns.outs-For i n)

pub places_over : (at : Place) (t : LoopForm) (p : Pat) (e : Exp) → t ≡ turns.ForIn p e → pattern_places p ++ exp_places e ≡ turn_places at t
places_over at t p e is = turns_at at t _ _ is (turns.outs-ForIn p e)

pub places_while : (at : Place) (t : LoopForm) (c : Exp) → t ≡ turns.While c → exp_places c ≡ turn_places at t
places_while at t c is = turns_at at t _ _ is (turns.outs-While c)

-- ---- programs

pub definition_is : (d : Definition) → one d.value.now.place ++ exp_places d.value.now ≡ definition_places d
unfolding definition_places
definition_is d = refl
