-- Each form of expressions.
use Rattle.std.proofs.Common.{◌≡◌, ℕ, List, map, length, Bool, cond, ◌&&◌, true, false, refl, None, Some, sym, ◌∙◌, subst, Result, Ok}
use Rattle.std.specs.Borrow.{Bor}
use Rattle.fut_scalar.specs.declared.place.Place.{Place}
use Rattle.fut_ast.specs.Sorts.{SourcePat, SourceExp, SourceType}
use Rattle.fut_tree.specs.declared.held.Held.{Held}
use Rattle.fut_tree.specs.declared.exp.Exp.TheInside.{Inside}
use Rattle.fut_tree.specs.declared.exp.Form.{Form}
use Rattle.fut_tree.specs.declared.exp.Form.TheVariants as held_form
use Rattle.fut_tree.specs.Exps.{exp_of}
use Rattle.fut_flat.specs.declared.exp.Exp.{Exp as Flat}
use Rattle.fut_flat.specs.declared.pat.Pat.{Pat}
use Rattle.fut_flat.specs.declared.ty.TypeExp.{TypeExp as FlatTy}
use Rattle.fut_flat.specs.Terms.{Apply, Declared, If, Lambda, Let, Loop, Strict, Use, term_and, no_term}
use Rattle.fut_ast.specs.Sorts.{Text}
use Rattle.fut_flat.specs.Erased.{FlatTerm, patterns, pattern_of, type_of}
use Rattle.fut_flat.specs.Sources as source
use Rattle.fut_flat.specs.Sources.{Placed, SourceTerm, applied_to, declared, is_before, is_use, placed, standing, source_pattern, source_type}
use Rattle.elab_scopes.specs.declared.refusal.Stop.{Stop}
use Rattle.elab_scopes.specs.declared.table.Names.{Names}
use Rattle.elab_scopes.specs.Resolve.{Numbered, after, resolve, resolve_parameters, resolve_type, stands_behind}
use Rattle.elab_scopes.specs.Scopes.{Scope, value_of}
use Rattle.elab_scopes.specs.Answers.{Went, Entered}
use Rattle.elab_scopes.specs.Table.{scope_of, made_of, outside}
use Rattle.elab_nodes.specs.Built.{Built2, Built3}
use Rattle.elab_nodes.specs.Held.{held_term}
use Rattle.elab_nodes.proofs.Steps.{of_two, of_three}
use Rattle.elab_types.specs.Bindings.{parameters_of}
use Rattle.elab_exps.specs.Order.{is_named, is_turned}
use Rattle.elab_exps.specs.Parts.{exp_part, source_of}
use Rattle.elab_exps.proofs.HeldExps.{exp_held, held_layer}
use Rattle.elab_exps.proofs.StrictLaws.{declared_went}
use Rattle.elab_exps.proofs.Above.{parameters_rise, scoped}

-- where a name stands changes nothing of what it is
standing_same : (behind : Bool) (f : SourceTerm) → resolve (standing behind f) ≡ resolve f
unfolding resolve value_of
standing_same behind (Use p at k) = refl
standing_same behind (Strict o mark ts) = refl
standing_same behind (Lambda ps e) = refl
standing_same behind (Apply f e) = refl
standing_same behind (Let b v e) = refl
standing_same behind (If c a b) = refl
standing_same behind (Loop mark sizes p first turns body) = refl

standing_is : (behind : Bool) (f : SourceTerm) → stands_behind (standing behind f) ≡ (is_use f && behind)
standing_is behind (Use p at k) = refl
standing_is behind (Strict o mark ts) = refl
standing_is behind (Lambda ps e) = refl
standing_is behind (Apply f e) = refl
standing_is behind (Let b v e) = refl
standing_is behind (If c a b) = refl
standing_is behind (Loop mark sizes p first turns body) = refl

abbrev in_order : SourceTerm → SourceTerm → Scope → List Text → Numbered FlatTerm
in_order f e sc made = after (resolve f sc made) (λ f made. after (resolve e sc made) (λ e made. Ok (Apply f e, made)))

abbrev turned : SourceTerm → SourceTerm → Scope → List Text → Numbered FlatTerm
turned f e sc made = after (resolve e sc made) (λ e made. after (resolve f sc made) (λ f made. Ok (Apply f e, made)))

application : (f e : Placed) (behind : Bool) → (is_use f.term && is_before e.place f.place) ≡ behind → resolve (applied_to f e) ≡ (λ sc made. cond behind (turned f.term e.term sc made) (in_order f.term e.term sc made))
unfolding resolve applied_to
application f e behind is = (λ i sc made. cond (standing_is (is_before e.place f.place) f.term i)
    (after (resolve e.term sc made) (λ x made. after (standing_same (is_before e.place f.place) f.term i sc made) (λ g made. Ok (Apply g x, made))))
    (after (standing_same (is_before e.place f.place) f.term i sc made) (λ g made. after (resolve e.term sc made) (λ x made. Ok (Apply g x, made)))))
    ∙ (λ i sc made. cond (is i) (turned f.term e.term sc made) (in_order f.term e.term sc made))

pub apply_went : (f e : SourceExp) (s t u : Names) (a b c : Result (Bor Flat) Stop) → is_turned f e ≡ false → Went held_term (resolve (source_of f)) s t a → Went held_term (resolve (source_of e)) t u b
    → Built2 (λ f e x. held_term x ≡ Apply (held_term f) (held_term e)) a b c → Went held_term (resolve (applied_to (placed f) (placed e))) s u c
unfolding source_of is_named is_turned
apply_went f e s t u a b c is p q w = subst (λ does. Went held_term does s u c) (sym (application (placed f) (placed e) false is)) (of_two Apply p q w)

pub behind_went : (f e : SourceExp) (s t u : Names) (a b c : Result (Bor Flat) Stop) → is_turned f e ≡ true → Went held_term (resolve (source_of e)) s t a → Went held_term (resolve (source_of f)) t u b
    → Built2 (λ e f x. held_term x ≡ Apply (held_term f) (held_term e)) a b c → Went held_term (resolve (applied_to (placed f) (placed e))) s u c
unfolding source_of is_named is_turned
behind_went f e s t u a b c is p q w = subst (λ does. Went held_term does s u c) (sym (application (placed f) (placed e) true is)) (of_two (λ x g. Apply g x) p q w)

pub turned_alike : (f g a b : Bor SourceExp) → held_form.Apply f a ≡ held_form.Apply g b → is_turned f.now a.now ≡ false → is_turned g.now b.now ≡ false
turned_alike f g a b same is = cc

pub choice_went : (c a b : SourceTerm) (s t u v : Names) (x y z d : Result (Bor Flat) Stop) → Went held_term (resolve c) s t x → Went held_term (resolve a) t u y → Went held_term (resolve b) u v z
    → Built3 (λ c a b w. held_term w ≡ If (held_term c) (held_term a) (held_term b)) x y z d → Went held_term (resolve (If c a b)) s v d
unfolding resolve
choice_went c a b s t u v x y z d p q r w = of_three If p q r w

pub lambda_went : (ps : List SourcePat) (e : SourceTerm) (s s1 s2 u : Names) (h : ℕ) (a : Result (Bor (List Pat)) Stop) (b d : Result (Bor Flat) Stop)
    → Entered (λ (ps : Bor (List Pat)). parameters_of ps.now) (resolve_parameters (source.patterns (map source_pattern ps)) (scope_of s) (made_of s)) s1 a → Went held_term (resolve e) s1 s2 b
    → h ≡ length (scope_of s) → scope_of u ≡ outside h (scope_of s2) → made_of u ≡ made_of s2
    → Built2 (λ (ps : Bor (List Pat)) e x. held_term x ≡ Lambda (patterns (map pattern_of ps.now)) (held_term e)) a b d → Went held_term (resolve (Lambda (source.patterns (map source_pattern ps)) e)) s u d
unfolding resolve
lambda_went ps e s s1 s2 u h a b d params w hs out mk q =
    scoped (resolve_parameters (source.patterns (map source_pattern ps))) (resolve e) Lambda s s1 s2 u h a b d hs (parameters_rise (source.patterns (map source_pattern ps)) (scope_of s) (made_of s)) params w out mk q

-- an expression goes as its form does
pub exp_went : {s t : Names} {c : Result (Bor Flat) Stop} (e : Inside) (v : SourceExp) (f : Form) → exp_of e ≡ v → e.form ≡ f → Went held_term (resolve (held_layer f e.place e.mark)) s t c → Went held_term (resolve (source_of v)) s t c
exp_went {s = s} {t = t} {c = c} e v f stands is w = subst (λ x. Went held_term (resolve (source_of x)) s t c) stands (subst (λ x. Went held_term (resolve x) s t c) (sym (exp_held e)) (subst (λ g. Went held_term (resolve (held_layer g e.place e.mark)) s t c) (sym is) w))

-- ---- bodies with a declared type

pub plain_body : (e : SourceExp) (s t : Names) (c : Result (Bor Flat) Stop) → Went held_term (resolve (source_of e)) s t c → Went held_term (resolve (declared None (placed e))) s t c
unfolding source_of
plain_body e s t c w = w

pub typed_body : (e : SourceExp) (y : SourceType) (at : Place) (s t u : Names) (a : Result (Bor Flat) Stop) (b : Result (Bor FlatTy) Stop) (c : Result (Bor Flat) Stop) → (placed e).place ≡ at
    → Built2 (λ (t : Bor FlatTy) e z. held_term z ≡ Strict (Declared (type_of t.now)) at (term_and (held_term e) no_term)) b a c
    → Went (λ (t : Bor FlatTy). type_of t.now) (resolve_type (source_type y)) s t b → Went held_term (resolve (source_of e)) t u a → Went held_term (resolve (declared (Some y) (placed e))) s u c
unfolding source_of
typed_body e y at s t u a b c is q w1 w2 = subst (λ p. Went held_term (resolve (Strict (Declared (source_type y)) p (term_and ((placed e).term) no_term))) s u c) (sym is) (declared_went (source_type y) ((placed e).term) at s t u a b c q w1 w2)

-- ---- lists

pub part_went : (h : Held SourceExp) (s t : Names) (r : Result (Bor Flat) Stop) → Went held_term (resolve (source_of h.at.now)) s t r → Went held_term (exp_part h) s t r
unfolding exp_part
part_went h s t r w = w
