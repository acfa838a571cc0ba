-- Compositions of functions.
use Rattle.std.proofs.Common.{◌≡◌, ℕ, List, ◌∷◌, length, Bool, true, false, None, sym, ◌∙◌, ap, subst, Result, Ok}
use Rattle.std.specs.Borrow.{Bor}
use Rattle.fut_scalar.specs.declared.place.BindId.{BindId}
use Rattle.fut_scalar.specs.declared.place.Place.{Place}
use Rattle.fut_ast.specs.Sorts.{Text}
use Rattle.fut_ast.specs.declared.node.Oper.{Oper}
use Rattle.fut_ast.specs.declared.node.Oper.TheVariants as oper
use Rattle.fut_flat.specs.declared.exp.Exp.{Exp as Flat}
use Rattle.fut_flat.specs.Terms.{Bound_pattern, Lambda, Let, pattern_and, no_pattern}
use Rattle.fut_flat.specs.Erased.{FlatTerm}
use Rattle.fut_flat.specs.Sources.{SourceTerm, composed_name, joined, left_function, right_function}
use Rattle.elab_scopes.specs.declared.refusal.Stop.{Stop}
use Rattle.elab_scopes.specs.declared.table.Names.{Names}
use Rattle.elab_scopes.specs.Scopes.{Scope, a_value, enter, value_in, value_of}
use Rattle.elab_scopes.specs.Resolve.{Numbered, after, led_by, next, with_text, name_pattern, number_sizes, number_heads, projected, resolve, resolve_parameters, resolve_pattern, section_name}
use Rattle.elab_scopes.specs.Answers.{Went, went, refused, no_memory}
use Rattle.elab_scopes.specs.Table.{scope_of, made_of, outside}
use Rattle.elab_scopes.proofs.Walking.{after_assoc}
use Rattle.elab_nodes.specs.declared.rows.Functions.{Functions}
use Rattle.elab_nodes.specs.Built.{Built1, built1, stops1, no_memory1}
use Rattle.elab_nodes.specs.Held.{held_term}
use Rattle.elab_nodes.specs.Composed.{composition, name_alone, ordered}
use Rattle.elab_types.specs.Numbering.{Numbers, numbers, no_number, Comes, comes, comes_not, comes_stopped}
use Rattle.elab_exps.specs.Heads.{Gathered, gathered, no_left, no_left_function, no_right, no_right_function, no_argument, not_gathered}
use Rattle.elab_exps.specs.Lists.{is_then, operation_in}
use Rattle.elab_exps.proofs.Above.{back, one_above}

-- behind both functions
abbrev second_step : Place → Bool → SourceTerm → Scope → BindId → FlatTerm → List Text → Numbered FlatTerm
second_step at first g sc l f m = after (resolve g (a_value left_function l ∷ sc) (with_text m right_function)) (λ w k. Ok (composition at first l f (next m) w (next k), with_text k composed_name))

abbrev inner_let : Place → Bool → BindId → BindId → FlatTerm → List Text → Numbered FlatTerm
inner_let at first l r w k = Ok (Let (name_alone r) w (Lambda (pattern_and (Bound_pattern (next k)) no_pattern) (ordered at first l r (next k))), with_text k composed_name)

composed_is : (op : Oper) (at : Place) (f g : SourceTerm) (sc : Scope) (m : List Text) → None ≡ operation_in op → resolve (joined op at f g) sc m ≡ after (resolve f sc (with_text m left_function)) (λ v k. second_step at (is_then op) g sc (next m) v k)
unfolding resolve section_name led_by after resolve_pattern name_pattern number_sizes number_heads resolve_parameters enter value_of value_in projected
composed_is (oper.Bin op) at f g sc m is = cc
composed_is oper.Then at f g sc m is = λ i. after (resolve f sc (with_text m left_function)) (λ v k. after_assoc (resolve g (a_value left_function (next m) ∷ sc) (with_text k right_function)) (λ w j. inner_let at true (next m) (next k) w j) (λ e j. Ok (Let (name_alone (next m)) v e, j)) i)
composed_is oper.After at f g sc m is = λ i. after (resolve f sc (with_text m left_function)) (λ v k. after_assoc (resolve g (a_value left_function (next m) ∷ sc) (with_text k right_function)) (λ w j. inner_let at false (next m) (next k) w j) (λ e j. Ok (Let (name_alone (next m)) v e, j)) i)
composed_is oper.Neg at f g sc m is = λ i. after (resolve f sc (with_text m left_function)) (λ v k. after_assoc (resolve g (a_value left_function (next m) ∷ sc) (with_text k right_function)) (λ w j. inner_let at false (next m) (next k) w j) (λ e j. Ok (Let (name_alone (next m)) v e, j)) i)
composed_is oper.Not at f g sc m is = λ i. after (resolve f sc (with_text m left_function)) (λ v k. after_assoc (resolve g (a_value left_function (next m) ∷ sc) (with_text k right_function)) (λ w j. inner_let at false (next m) (next k) w j) (λ e j. Ok (Let (name_alone (next m)) v e, j)) i)

composed_went : (op : Oper) (at : Place) (f g : SourceTerm) (l1 l2 r x : Text) (s s1 s2 s3 s4 s5 s6 u : Names) (h : ℕ) (n1 b1 n2 n3 : Result BindId Stop) (a c : Result (Bor Flat) Stop) (F : Result Functions Stop) (d : Result (Bor Flat) Stop)
    → Built1 (λ (f : Functions) z. held_term z ≡ composition at (is_then op) f.left (held_term f.left_function) f.right (held_term f.right_function) f.argument) F d → Gathered b1 a n2 c n3 F
    → Comes l2 n1 s2 s3 b1 → Numbers l1 s s1 n1 → Went held_term (resolve f) s1 s2 a → Numbers r s3 s4 n2 → Went held_term (resolve g) s4 s5 c → Numbers x s5 s6 n3
    → None ≡ operation_in op → l1 ≡ left_function → l2 ≡ left_function → r ≡ right_function → x ≡ composed_name → h ≡ length (scope_of s) → scope_of u ≡ outside h (scope_of s6) → made_of u ≡ made_of s6
    → Went held_term (resolve (joined op at f g)) s u d
unfolding after
composed_went op at f g l1 l2 r x s s1 s2 s3 s4 s5 s6 u h n1 b1 n2 n3 a c F _ no_memory1 gs t p q p2 q2 p3 isnt il il2 ir ix hs out mk = no_memory
composed_went op at f g l1 l2 r x s s1 s2 s3 s4 s5 s6 u h n1 b1 n2 n3 a c _ _ stops1 not_gathered t p q p2 q2 p3 isnt il il2 ir ix hs out mk = no_memory
composed_went op at f g l1 l2 r x s s1 s2 s3 s4 s5 s6 u h _ _ n2 n3 a c _ _ stops1 no_left comes_not p q p2 q2 p3 isnt il il2 ir ix hs out mk = no_memory
composed_went op at f g l1 l2 r x s s1 s2 s3 s4 s5 s6 u h _ _ n2 n3 a c _ _ stops1 no_left comes_stopped no_number q p2 q2 p3 isnt il il2 ir ix hs out mk = no_memory
composed_went op at f g l1 l2 r x s s1 s2 s3 s4 s5 s6 u h _ _ n2 n3 _ c _ _ stops1 no_left_function (comes sc mc bc) (numbers is more same held) no_memory p2 q2 p3 isnt il il2 ir ix hs out mk = no_memory
composed_went op at f g l1 l2 r x s s1 s2 s3 s4 s5 s6 u h _ _ n2 n3 _ c _ _ stops1 no_left_function (comes sc mc bc) (numbers is more same held) (refused ga) p2 q2 p3 isnt il il2 ir ix hs out mk =
    refused (composed_is op at f g (scope_of s) (made_of s) isnt ∙ ap (λ z. after z (λ v k. second_step at (is_then op) g (scope_of s) (next (made_of s)) v k)) ((λ i. resolve f (sym same i) (with_text (made_of s) (sym il i))) ∙ (λ i. resolve f (scope_of s1) (sym more i)) ∙ ga))
composed_went op at f g l1 l2 r x s s1 s2 s3 s4 s5 s6 u h _ _ _ n3 _ c _ _ stops1 no_right (comes sc mc bc) (numbers is more same held) (went ga sa) no_number q2 p3 isnt il il2 ir ix hs out mk = no_memory
composed_went op at f g l1 l2 r x s s1 s2 s3 s4 s5 s6 u h _ _ _ n3 _ _ _ _ stops1 no_right_function (comes sc mc bc) (numbers is more same held) (went ga sa) (numbers is2 more2 same2 held2) no_memory p3 isnt il il2 ir ix hs out mk = no_memory
composed_went op at f g l1 l2 r x s s1 s2 s3 s4 s5 s6 u h _ _ _ n3 _ _ _ _ stops1 no_right_function (comes sc mc bc) (numbers is more same held) (went {x = va} ga sa) (numbers is2 more2 same2 held2) (refused gc) p3 isnt il il2 ir ix hs out mk =
    refused (
    composed_is op at f g (scope_of s) (made_of s) isnt
    ∙ ap (λ z. after z (λ v k. second_step at (is_then op) g (scope_of s) (next (made_of s)) v k)) ((λ i. resolve f (sym same i) (with_text (made_of s) (sym il i))) ∙ (λ i. resolve f (scope_of s1) (sym more i)) ∙ ga)
    ∙ ap (λ z. after z (λ w k. Ok (composition at (is_then op) (next (made_of s)) (held_term va) (next (made_of s2)) w (next k), with_text k composed_name))) (
    (λ i. resolve g (a_value (sym il2 i) (sym is i) ∷ sym (sa ∙ same) i) (with_text (sym mc i) (sym ir i))) ∙ (λ i. resolve g (sym sc i) (sym more2 i)) ∙ (λ i. resolve g (sym same2 i) (made_of s4)) ∙ gc))
composed_went op at f g l1 l2 r x s s1 s2 s3 s4 s5 s6 u h _ _ _ _ _ _ _ _ stops1 no_argument (comes sc mc bc) (numbers is more same held) (went ga sa) (numbers is2 more2 same2 held2) (went gc sd) no_number isnt il il2 ir ix hs out mk = no_memory
composed_went op at f g l1 l2 r x s s1 s2 s3 s4 s5 s6 u h _ _ _ _ _ _ _ _ (built1 eq) gathered (comes {b = b} sc mc bc) (numbers is more same held) (went {x = va} ga sa) (numbers {b = b2} is2 more2 same2 held2) (went {x = vc} gc sd) (numbers {b = b3} is3 more3 same3 held3) isnt il il2 ir ix hs out mk =
    went (
    composed_is op at f g (scope_of s) (made_of s) isnt
    ∙ ap (λ z. after z (λ v k. second_step at (is_then op) g (scope_of s) (next (made_of s)) v k)) ((λ i. resolve f (sym same i) (with_text (made_of s) (sym il i))) ∙ (λ i. resolve f (scope_of s1) (sym more i)) ∙ ga)
    ∙ ap (λ z. after z (λ w k. Ok (composition at (is_then op) (next (made_of s)) (held_term va) (next (made_of s2)) w (next k), with_text k composed_name))) (
    (λ i. resolve g (a_value (sym il2 i) (sym is i) ∷ sym (sa ∙ same) i) (with_text (sym mc i) (sym ir i))) ∙ (λ i. resolve g (sym sc i) (sym more2 i)) ∙ (λ i. resolve g (sym same2 i) (made_of s4)) ∙ gc)
    ∙ (λ i. Ok (composition at (is_then op) (sym is i) (held_term va) (next (sym mc i)) (held_term vc) (sym is3 i), with_text (made_of s5) (sym ix i)))
    ∙ (λ i. Ok (composition at (is_then op) b (held_term va) (sym is2 i) (held_term vc) b3, sym (mk ∙ more3) i))
    ∙ (λ i. Ok (sym eq i, made_of u)))
    (out ∙ (λ i. outside (hs i) ((same3 ∙ sd ∙ same2 ∙ sc) i)) ∙ (λ i. outside (length (scope_of s)) (a_value l2 b ∷ (sa ∙ same) i)) ∙ back (one_above (a_value l2 b) (scope_of s)))

-- whatever tells which function is applied first
pub composed_at : (op : Oper) (lf : Bool) (at : Place) (f g : SourceTerm) (l1 l2 r x : Text) (s s1 s2 s3 s4 s5 s6 u : Names) (h : ℕ) (n1 b1 n2 n3 : Result BindId Stop) (a c : Result (Bor Flat) Stop) (F : Result Functions Stop) (d : Result (Bor Flat) Stop)
    → lf ≡ is_then op → Built1 (λ (f : Functions) z. held_term z ≡ composition at lf f.left (held_term f.left_function) f.right (held_term f.right_function) f.argument) F d → Gathered b1 a n2 c n3 F
    → Comes l2 n1 s2 s3 b1 → Numbers l1 s s1 n1 → Went held_term (resolve f) s1 s2 a → Numbers r s3 s4 n2 → Went held_term (resolve g) s4 s5 c → Numbers x s5 s6 n3
    → None ≡ operation_in op → l1 ≡ left_function → l2 ≡ left_function → r ≡ right_function → x ≡ composed_name → h ≡ length (scope_of s) → scope_of u ≡ outside h (scope_of s6) → made_of u ≡ made_of s6
    → Went held_term (resolve (joined op at f g)) s u d
composed_at op lf at f g l1 l2 r x s s1 s2 s3 s4 s5 s6 u h n1 b1 n2 n3 a c F d left built gs t p q p2 q2 p3 isnt il il2 ir ix hs out mk =
    composed_went op at f g l1 l2 r x s s1 s2 s3 s4 s5 s6 u h n1 b1 n2 n3 a c F d
    (subst (λ b. Built1 (λ (f : Functions) z. held_term z ≡ composition at b f.left (held_term f.left_function) f.right (held_term f.right_function) f.argument) F d) left built) gs t p q p2 q2 p3 isnt il il2 ir ix hs out mk
