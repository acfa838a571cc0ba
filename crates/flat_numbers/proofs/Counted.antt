-- There is a place for each number.
use Rattle.std.proofs.Common.{◌≡◌, ℕ, ◌+◌, List, [], ◌∷◌, ◌++◌, length, map, replicate, refl, sym, ◌∙◌, ap, subst, arith, false, Result, Ok, Err, IfOk}
use Rattle.std.specs.List.{flat_map}
use Rattle.std.proofs.lemmas.List.{length-append, length-replicate}
use Rattle.fut_ast.specs.Sorts.{Text}
use Rattle.fut_scalar.specs.declared.place.Place.{Place}
use Rattle.fut_flat.specs.declared.exp.Exp.{Exp, Exp-F, roll-Exp, ind-Exp}
use Rattle.fut_flat.specs.declared.exp.Form.{Form, Form-F, out-Form, map-Form, out-roll-Form}
use Rattle.fut_flat.specs.declared.exp.Let.{Let as LetTree, Let-F, roll-Let}
use Rattle.fut_flat.specs.declared.exp.Loop.{Loop as LoopTree, Loop-F, roll-Loop}
use Rattle.fut_flat.specs.declared.exp.LoopForm.{LoopForm, LoopForm-F, map-LoopForm, roll-LoopForm, out-LoopForm, out-roll-LoopForm, fold_out-LoopForm}
use Rattle.fut_flat.specs.declared.pat.Pat.{Pat, Pat-F, roll-Pat, ind-Pat, fold_out-Pat}
use Rattle.fut_flat.specs.declared.pat.PatField.{PatField, PatField-F, fold_out-PatField}
use Rattle.fut_flat.specs.declared.pat.PatForm.{PatForm, PatForm-F, out-PatForm, map-PatForm, out-roll-PatForm, fold_out-PatForm}
use Rattle.fut_flat.specs.declared.program.Definition.{Definition}
use Rattle.fut_flat.specs.Erased.{FlatPattern, FlatTerm, FlatTurns, Row, patterns, pattern_form, pattern_of, operation_of, terms, lets, let_form, turns_form, loop_form, exp_form, term_of}
use Rattle.fut_flat.specs.Numbers.{pattern_numbers, all_pattern_numbers, own_numbers, numbers, all_numbers, turn_numbers}
use Rattle.fut_flat.proofs.ErasedForms.{layer, form_term, row_of, loop_of, turns_of, turns_layer, exp_term, form_term_at, row_is, loop_is as loop_term}
use Rattle.fut_flat.proofs.ErasedPatterns.{pattern_field, form_pattern, pattern_layer}
use Rattle.fut_typing.specs.Program.{defined, program_numbers}
use Rattle.flat_numbers.specs.Places.{one, pattern_places, field_places, exp_places, let_places, loop_places, turn_places, definition_places, program_places}
use Rattle.flat_numbers.proofs.PlaceLists.{two}
use Rattle.flat_numbers.proofs.PlaceLayers.{PatternLayer, pattern_layer_places, pattern_places_is, pattern_placed_at, field_is, Layer, layer_places, exp_places_is, form_places_at, let_is, loop_is, TurnsLayer, turns_layer_places, turn_places_at}
use Rattle.flat_numbers.specs.PlaceNoted.{Noted, full, noted}
use Rattle.flat_numbers.specs.declared.place_noting.Noting.{Noting}
use Rattle.fut_scalar.specs.declared.memory.NoMemory.{NoMemory}

-- ---- patterns

abbrev PatCounted : Pat → Type 0
PatCounted p = length (pattern_places p) ≡ pattern_numbers (pattern_of p)

abbrev PatLayerCounted : PatternLayer → Type 0
PatLayerCounted l = (at : Place) → length (pattern_layer_places l at) ≡ pattern_numbers (pattern_layer l)

abbrev PatFormCounted : PatForm → Type 0
PatFormCounted f = PatLayerCounted (out-PatForm f)

abbrev FieldCounted : PatField → Type 0
FieldCounted f = PatCounted f.pat

abbrev SuchPatForm : Type 0
SuchPatForm = (f : PatForm) × PatFormCounted f

abbrev SuchPat : Type 0
SuchPat = (p : Pat) × PatCounted p

abbrev SuchField : Type 0
SuchField = (f : PatField) × FieldCounted f

such_pats : (ps : List SuchPat) → length (flat_map pattern_places (map (λ (p : SuchPat). p.0) ps)) ≡ all_pattern_numbers (patterns (map pattern_of (map (λ (p : SuchPat). p.0) ps)))
unfolding patterns
such_pats [] = refl
such_pats (p ∷ ps) = two (pattern_places p.0) (flat_map pattern_places (map (λ (p : SuchPat). p.0) ps)) _ _ p.1 (such_pats ps)

field_pattern : (f : PatField) → (pattern_field f).1 ≡ pattern_of f.pat
unfolding pattern_field pattern_of
field_pattern f = ap (λ (g : Text × FlatPattern). g.1) (fold_out-PatField FlatPattern FlatPattern (Text × FlatPattern) pattern_form (λ p. p.form) (λ f. (f.name.now, f.pat)) f)

such_fields : (fs : List SuchField) → length (flat_map field_places (map (λ (f : SuchField). f.0) fs)) ≡ all_pattern_numbers (patterns (map (λ (f : Text × FlatPattern). f.1) (map pattern_field (map (λ (f : SuchField). f.0) fs))))
unfolding patterns
such_fields [] = refl
such_fields (f ∷ fs) = two (field_places f.0) (flat_map field_places (map (λ (f : SuchField). f.0) fs)) _ _ (ap (λ (l : List Place). length l) (field_is f.0) ∙ f.1 ∙ sym (ap (λ (p : FlatPattern). pattern_numbers p) (field_pattern f.0))) (such_fields fs)

pat_layer : (y : PatForm-F SuchPatForm SuchPat SuchField) → PatLayerCounted (map-PatForm _ _ _ _ _ _ (λ (f : SuchPatForm). f.0) (λ (p : SuchPat). p.0) (λ (f : SuchField). f.0) y)
pat_layer (PatForm-F.Bound b) at = refl
pat_layer PatForm-F.Wild at = refl
pat_layer (PatForm-F.Tuple ps) at = two (one at) (flat_map pattern_places (map (λ (p : SuchPat). p.0) ps.now)) 1 _ refl (such_pats ps.now)
pat_layer (PatForm-F.Record fs) at = two (one at) (flat_map field_places (map (λ (f : SuchField). f.0) fs.now)) 1 _ refl (such_fields fs.now)
pat_layer (PatForm-F.Typed p t) at = p.now.1

pattern_erased : (l : PatternLayer) → pattern_form (map-PatForm PatForm Pat PatField FlatPattern FlatPattern (Text × FlatPattern) form_pattern pattern_of pattern_field l) ≡ pattern_layer l
unfolding pattern_form
pattern_erased (PatForm-F.Bound b) = refl
pattern_erased PatForm-F.Wild = refl
pattern_erased (PatForm-F.Tuple ps) = refl
pattern_erased (PatForm-F.Record fs) = refl
pattern_erased (PatForm-F.Typed p t) = refl

pattern_of_is : (p : Pat) → pattern_of p ≡ form_pattern p.form
unfolding pattern_of form_pattern
pattern_of_is p = fold_out-Pat FlatPattern FlatPattern (Text × FlatPattern) pattern_form (λ p. p.form) (λ f. (f.name.now, f.pat)) p

form_pattern_is : (f : PatForm) → form_pattern f ≡ pattern_layer (out-PatForm f)
unfolding form_pattern pattern_of pattern_field
form_pattern_is f = fold_out-PatForm FlatPattern FlatPattern (Text × FlatPattern) pattern_form (λ p. p.form) (λ f. (f.name.now, f.pat)) f ∙ pattern_erased (out-PatForm f)

pat_of_form : (p : Pat) → PatFormCounted p.form → PatCounted p
pat_of_form p h = ap (λ (l : List Place). length l) (pattern_places_is p ∙ pattern_placed_at p.form p.place) ∙ h p.place ∙ sym (ap (λ (q : FlatPattern). pattern_numbers q) (pattern_of_is p ∙ form_pattern_is p.form))

abbrev PatParts : Type 0
PatParts = Pat-F PatForm Pat PatField

abbrev FieldParts : Type 0
FieldParts = PatField-F PatForm Pat PatField

pat_counted : (p : Pat) → PatCounted p
pat_counted = ind-Pat PatFormCounted PatCounted FieldCounted
    (λ x y is. subst PatLayerCounted (is ∙ sym (out-roll-PatForm x)) (pat_layer y))
    (λ x y is. pat_of_form (roll-Pat x) (subst PatFormCounted (ap (λ (z : PatParts). z.form) is) y.form.1))
    (λ x y is. subst PatCounted (ap (λ (z : FieldParts). z.pat) is) y.pat.1)

pats_counted : (ps : List Pat) → length (flat_map pattern_places ps) ≡ all_pattern_numbers (patterns (map pattern_of ps))
unfolding patterns
pats_counted [] = refl
pats_counted (p ∷ ps) = two (pattern_places p) (flat_map pattern_places ps) _ _ (pat_counted p) (pats_counted ps)

-- ---- expressions

abbrev ExpCounted : Exp → Type 0
ExpCounted e = length (exp_places e) ≡ numbers (term_of e)

abbrev LayerCounted : Layer → Type 0
LayerCounted l = (at : Place) → length (layer_places l at) ≡ numbers (layer l at)

abbrev FormCounted : Form → Type 0
FormCounted f = LayerCounted (out-Form f)

abbrev TurnsLayerCounted : TurnsLayer → Type 0
TurnsLayerCounted l = (at : Place) → length (turns_layer_places l at) ≡ turn_numbers (turns_layer l)

abbrev TurnsCounted : LoopForm → Type 0
TurnsCounted t = (at : Place) → length (turn_places at t) ≡ turn_numbers (turns_of t)

abbrev row_numbers : Row → ℕ
row_numbers r = 1 + pattern_numbers r.0.pattern + numbers r.1

abbrev LetCounted : LetTree → Type 0
LetCounted l = (at : Place) → length (let_places at l) ≡ row_numbers (row_of l)

abbrev LoopCounted : LoopTree → Type 0
LoopCounted l = (at : Place) → length (loop_places at l) ≡ numbers (loop_of l)

abbrev SuchForm : Type 0
SuchForm = (f : Form) × FormCounted f

abbrev SuchTurns : Type 0
SuchTurns = (t : LoopForm) × TurnsCounted t

abbrev SuchExp : Type 0
SuchExp = (e : Exp) × ExpCounted e

abbrev SuchLet : Type 0
SuchLet = (l : LetTree) × LetCounted l

abbrev SuchLoop : Type 0
SuchLoop = (l : LoopTree) × LoopCounted l

such_exps : (es : List SuchExp) → length (flat_map exp_places (map (λ (e : SuchExp). e.0) es)) ≡ all_numbers (terms (map term_of (map (λ (e : SuchExp). e.0) es)))
unfolding terms
such_exps [] = refl
such_exps (e ∷ es) = two (exp_places e.0) (flat_map exp_places (map (λ (e : SuchExp). e.0) es)) _ _ e.1 (such_exps es)

such_lets : (ls : List SuchLet) (body : FlatTerm) (at : Place) → length (flat_map (let_places at) (map (λ (l : SuchLet). l.0) ls)) + numbers body ≡ numbers (lets (map row_of (map (λ (l : SuchLet). l.0) ls)) body)
unfolding lets
such_lets [] body at = omega arith
such_lets (l ∷ ls) body at =
    let whole = length-append (let_places at l.0) (flat_map (let_places at) (map (λ (l : SuchLet). l.0) ls)) in
    let first = l.1 at in
    let rest = such_lets ls body at in
    omega (arith, whole, first, rest)

exp_layer : (y : Form-F SuchForm SuchTurns SuchExp SuchLet SuchLoop) →
    LayerCounted (map-Form _ _ _ _ _ _ _ _ _ _ (λ (f : SuchForm). f.0) (λ (t : SuchTurns). t.0) (λ (e : SuchExp). e.0) (λ (l : SuchLet). l.0) (λ (l : SuchLoop). l.0) y)
exp_layer (Form-F.Use r k) at = length-replicate (1 + (k + k)) at
exp_layer (Form-F.Strict a mark es) at = two (replicate (own_numbers (operation_of a)) at) (flat_map exp_places (map (λ (e : SuchExp). e.0) es.now)) _ _ (length-replicate (own_numbers (operation_of a)) at) (such_exps es.now)
exp_layer (Form-F.Lambda ps e) at = two (one at ++ flat_map pattern_places ps.now) (exp_places e.now.0) _ _ (two (one at) (flat_map pattern_places ps.now) 1 _ refl (pats_counted ps.now)) e.now.1
exp_layer (Form-F.Apply f e) at = two (one at ++ exp_places f.now.0) (exp_places e.now.0) _ _ (two (one at) (exp_places f.now.0) 1 _ refl f.now.1) e.now.1
exp_layer (Form-F.Lets ls e) at = length-append (flat_map (let_places at) (map (λ (l : SuchLet). l.0) ls.now)) (exp_places e.now.0)
    ∙ ap (λ n. length (flat_map (let_places at) (map (λ (l : SuchLet). l.0) ls.now)) + n) e.now.1 ∙ such_lets ls.now (term_of e.now.0) at
exp_layer (Form-F.If c a b) at = two ((one at ++ exp_places c.now.0) ++ exp_places a.now.0) (exp_places b.now.0) _ _
    (two (one at ++ exp_places c.now.0) (exp_places a.now.0) _ _ (two (one at) (exp_places c.now.0) 1 _ refl c.now.1) a.now.1) b.now.1
exp_layer (Form-F.Loop l) at = l.now.1 at

turns_counted_layer : (y : LoopForm-F SuchForm SuchTurns SuchExp SuchLet SuchLoop) →
    TurnsLayerCounted (map-LoopForm _ _ _ _ _ _ _ _ _ _ (λ (f : SuchForm). f.0) (λ (t : SuchTurns). t.0) (λ (e : SuchExp). e.0) (λ (l : SuchLet). l.0) (λ (l : SuchLoop). l.0) y)
turns_counted_layer (LoopForm-F.For i n) at = two (one at) (exp_places n.0) 1 _ refl n.1
turns_counted_layer (LoopForm-F.ForIn p e) at = two (pattern_places p) (exp_places e.0) _ _ (pat_counted p) e.1
turns_counted_layer (LoopForm-F.While c) at = c.1

turns_erased : (l : TurnsLayer) → turns_form (map-LoopForm Form LoopForm Exp LetTree LoopTree (Place → FlatTerm) FlatTurns FlatTerm Row FlatTerm form_term turns_of term_of row_of loop_of l) ≡ turns_layer l
unfolding turns_form
turns_erased (LoopForm-F.For i n) = refl
turns_erased (LoopForm-F.ForIn p e) = refl
turns_erased (LoopForm-F.While c) = refl

turns_of_is : (t : LoopForm) → turns_of t ≡ turns_layer (out-LoopForm t)
unfolding form_term turns_of term_of row_of loop_of
turns_of_is t = fold_out-LoopForm (Place → FlatTerm) FlatTurns FlatTerm Row FlatTerm exp_form turns_form (λ e. e.form e.place) let_form loop_form t ∙ turns_erased (out-LoopForm t)

of_turns : (t : LoopForm) → TurnsLayerCounted (out-LoopForm t) → TurnsCounted t
of_turns t h at = ap (λ (l : List Place). length l) (turn_places_at at t) ∙ h at ∙ sym (ap (λ (s : FlatTurns). turn_numbers s) (turns_of_is t))

of_form : (e : Exp) → FormCounted e.form → ExpCounted e
of_form e h = ap (λ (l : List Place). length l) (exp_places_is e ∙ form_places_at e.form e.place) ∙ h e.place ∙ sym (ap (λ (t : FlatTerm). numbers t) (exp_term e ∙ form_term_at e.form e.place))

of_let : (l : LetTree) → ExpCounted l.value → LetCounted l
of_let l h at = ap (λ (x : List Place). length x) (let_is at l)
    ∙ two (one at ++ pattern_places l.pat) (exp_places l.value) _ _ (two (one at) (pattern_places l.pat) 1 _ refl (pat_counted l.pat)) h
    ∙ sym (ap row_numbers (row_is l))

of_loop : (l : LoopTree) → ExpCounted l.first → TurnsCounted l.form → ExpCounted l.body → LoopCounted l
of_loop l first form body at = ap (λ (x : List Place). length x) (loop_is at l)
    ∙ two (((one at ++ pattern_places l.pat) ++ exp_places l.first) ++ turn_places at l.form) (exp_places l.body) _ _
    (two ((one at ++ pattern_places l.pat) ++ exp_places l.first) (turn_places at l.form) _ _
    (two (one at ++ pattern_places l.pat) (exp_places l.first) _ _ (two (one at) (pattern_places l.pat) 1 _ refl (pat_counted l.pat)) first) (form at)) body
    ∙ sym (ap (λ (t : FlatTerm). numbers t) (loop_term l))

abbrev ExpParts : Type 0
ExpParts = Exp-F Form LoopForm Exp LetTree LoopTree

abbrev LetParts : Type 0
LetParts = Let-F Form LoopForm Exp LetTree LoopTree

abbrev LoopParts : Type 0
LoopParts = Loop-F Form LoopForm Exp LetTree LoopTree

exp_counted : (e : Exp) → ExpCounted e
exp_counted = ind-Exp FormCounted TurnsCounted ExpCounted LetCounted LoopCounted
    (λ x y is. subst LayerCounted (is ∙ sym (out-roll-Form x)) (exp_layer y))
    (λ x y is. of_turns (roll-LoopForm x) (subst TurnsLayerCounted (is ∙ sym (out-roll-LoopForm x)) (turns_counted_layer y)))
    (λ x y is. of_form (roll-Exp x) (subst FormCounted (ap (λ (z : ExpParts). z.form) is) y.form.1))
    (λ x y is. of_let (roll-Let x) (subst ExpCounted (ap (λ (z : LetParts). z.value) is) y.value.1))
    (λ x y is. of_loop (roll-Loop x) (subst ExpCounted (ap (λ (z : LoopParts). z.first) is) y.first.1) (subst TurnsCounted (ap (λ (z : LoopParts). z.form) is) y.form.1) (subst ExpCounted (ap (λ (z : LoopParts). z.body) is) y.body.1))

-- ---- programs

pub program_counted : (ds : List Definition) → length (program_places ds) ≡ program_numbers (map defined ds)
unfolding definition_places
program_counted [] = refl
program_counted (d ∷ ds) = two (one d.value.now.place ++ exp_places d.value.now) (program_places ds) _ _ (two (one d.value.now.place) (exp_places d.value.now) 1 _ refl (exp_counted d.value.now)) (program_counted ds)

pub noted_places : (ds : List Definition) (s t : Noting) (r : Result (List Place) NoMemory) → s.places ≡ [] → Noted s t (flat_map definition_places ds) → IfOk r (λ places. (places ≡ t.places) × (t.is_full ≡ false)) → IfOk r (λ places. places ≡ program_places ds)
noted_places ds s t (Ok places) none (noted p e) is = is.0 ∙ e ∙ ap (λ l. l ++ program_places ds) none
noted_places ds s t (Ok places) none (full p) is = absurd cc
noted_places ds s t (Err e) none n is = tt

pub noted_counted : (ds : List Definition) (s t : Noting) (r : Result (List Place) NoMemory) → s.places ≡ [] → Noted s t (flat_map definition_places ds) → IfOk r (λ places. (places ≡ t.places) × (t.is_full ≡ false)) → IfOk r (λ places. length places ≡ program_numbers (map defined ds))
noted_counted ds s t (Ok places) none n is = ap length (noted_places ds s t (Ok places) none n is) ∙ program_counted ds
noted_counted ds s t (Err e) none n is = tt
