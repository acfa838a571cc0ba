-- Which expressions are sections by a name, and that a name is looked for before them.
use Rattle.std.proofs.Common.{◌≡◌, ◌<◌, ◌≤◌, arith, ℕ, zero, suc, length, cond, Bool, true, false, List, [], ◌∷◌, map, Option, None, Some, Result, Ok, Err, refl, sym, ◌∙◌, ap, subst}
use Rattle.fut_scalar.specs.declared.place.Place.{Place}
use Rattle.fut_ast.specs.Sorts.{SourceExp, Text, Path}
use Rattle.fut_ast.specs.declared.node.Label.{Label}
use Rattle.fut_ast.specs.declared.node.Oper.{Oper}
use Rattle.fut_ast.specs.declared.node.Oper.TheVariants as oper
use Rattle.fut_tree.specs.declared.exp.Exp.TheInside.{Inside}
use Rattle.fut_tree.specs.declared.exp.Bind.{Bind}
use Rattle.fut_tree.specs.declared.exp.Form.{Form}
use Rattle.fut_tree.specs.declared.exp.Form.TheVariants as held_form
use Rattle.fut_tree.specs.Exps.{binds_of, exp_of}
use Rattle.fut_tree.specs.Names.{names}
use Rattle.fut_flat.specs.Sources.{SourcePattern, SourceTerm, SourceTurns, Spelled, applied_to, joined, lets, spelled, standing}
use Rattle.fut_flat.specs.Terms.{Binding, Operation, Patterns, Terms, Use, Strict, Lambda, Apply, Let, If, Loop}
use Rattle.fut_flat.proofs.SourceForms.{row_of}
use Rattle.elab_scopes.specs.Names.{Refusal}
use Rattle.elab_scopes.specs.Answers.{Entered, found_of, not_entered, viewed}
use Rattle.elab_scopes.specs.Resolve.{Numbered, after, led_by, section_name, where_found}
use Rattle.elab_scopes.specs.Scopes.{Found, Scope, value_of}
use Rattle.elab_scopes.specs.declared.values.Found.{Found as HeldFound}
use Rattle.elab_scopes.specs.declared.refusal.Refusal.{Refusal as HeldRefusal}
use Rattle.elab_scopes.specs.declared.refusal.Stop.{Stop}
use Rattle.elab_scopes.specs.declared.table.Names.{Names}
use Rattle.elab_exps.specs.Parts.{name_before, source_of}
use Rattle.elab_exps.specs.Sections.{applied_in, called_in, is_found, is_held_name, led, looked, spelled_of, use_in}
use Rattle.elab_exps.specs.declared.sections.Called.{Called}
use Rattle.elab_exps.proofs.Above.{Rises, rises_not}
use Rattle.elab_exps.proofs.HeldExps.{exp_held, held_layer}

-- ---- what is seen of an expression

-- What is looked for stands in a name, in an application or in a function without a declared type, and in no other form.
pub record Sees {A : Type 0} (see : SourceTerm → Option A) (name : Path → Place → Option A) (call : SourceTerm → SourceTerm → Option A) (body : SourceTerm → Option A) : Type 0 where
  pub used : (p : Spelled) (at : Place) (k : ℕ) → see (Use p at k) ≡ name p.path p.place
  pub applied : (behind : Bool) (f e : SourceTerm) → see (Apply (standing behind f) e) ≡ call f e
  pub lambda : (ps : Patterns Spelled Label) (e : SourceTerm) → see (Lambda ps e) ≡ body e
  pub declared : (o : Operation Spelled Label) (mark : Place) (ts : Terms Spelled Label) → body (Strict o mark ts) ≡ None
  pub strict : (o : Operation Spelled Label) (mark : Place) (ts : Terms Spelled Label) → see (Strict o mark ts) ≡ None
  pub bound : (b : Binding Spelled Label) (v e : SourceTerm) → see (Let b v e) ≡ None
  pub choice : (c a b : SourceTerm) → see (If c a b) ≡ None
  pub looped : (mark : Place) (sizes : List Label) (p : SourcePattern) (first : SourceTerm) (turns : SourceTurns) (body : SourceTerm) → see (Loop mark sizes p first turns body) ≡ None

abbrev pub alone : {A : Type 0} → (SourceTerm → Option A) → List Bind → SourceExp → Option A
alone see [] e = see (source_of e)
alone see (b ∷ bs) e = None

abbrev pub seen : {A : Type 0} → (SourceTerm → Option A) → (Path → Place → Option A) → (SourceTerm → SourceTerm → Option A) → (SourceTerm → Option A) → Form → Place → Option A
seen see name call body (held_form.Path p) at = name (names p.now) at
seen see name call body (held_form.Apply f e) at = call (source_of f.now) (source_of e.now)
seen see name call body (held_form.Lambda ps None e) at = body (source_of e.now)
seen see name call body (held_form.Lets bs e) at = alone see bs.now e.now
seen see name call body f at = None

module _ {A : Type 0} {see : SourceTerm → Option A} {name : Path → Place → Option A} {call : SourceTerm → SourceTerm → Option A} {body : SourceTerm → Option A} (s : Sees see name call body) where
  joined_is_none : (op : Oper) (mark : Place) (a b : SourceTerm) → see (joined op mark a b) ≡ None
  joined_is_none (oper.Bin op) mark a b = s.strict _ _ _
  joined_is_none oper.Then mark a b = s.bound _ _ _
  joined_is_none oper.After mark a b = s.bound _ _ _
  joined_is_none oper.Neg mark a b = s.bound _ _ _
  joined_is_none oper.Not mark a b = s.bound _ _ _

  lets_alone : (bs : List Bind) (e : SourceExp) → see (lets (map row_of (binds_of bs)) (source_of e)) ≡ alone see bs e
  unfolding lets
  lets_alone [] e = refl
  lets_alone (b ∷ bs) e = s.bound _ _ _

  layer_seen : (f : Form) (at mark : Place) → see (held_layer f at mark) ≡ seen see name call body f at
  unfolding applied_to source_of
  layer_seen (held_form.Path p) at mark = s.used _ _ _
  layer_seen (held_form.Int n t) at mark = s.strict _ _ _
  layer_seen (held_form.Bool b) at mark = s.strict _ _ _
  layer_seen held_form.Unit at mark = s.strict _ _ _
  layer_seen (held_form.Tuple es) at mark = s.strict _ _ _
  layer_seen (held_form.Record fs) at mark = s.strict _ _ _
  layer_seen (held_form.Array es) at mark = s.strict _ _ _
  layer_seen (held_form.Apply f e) at mark = s.applied _ _ _
  layer_seen (held_form.Binary op a b) at mark = joined_is_none op mark (source_of a.now) (source_of b.now)
  layer_seen (held_form.Unary op a) at mark = s.strict _ _ _
  layer_seen (held_form.Lambda ps None e) at mark = s.lambda _ _
  layer_seen (held_form.Lambda ps (Some t) e) at mark = s.lambda _ _ ∙ s.declared _ _ _
  layer_seen (held_form.Lets bs e) at mark = lets_alone bs.now e.now
  layer_seen (held_form.If c a b) at mark = s.choice _ _ _
  layer_seen (held_form.Loop sizes p e over body) at mark = s.looped _ _ _ _ _ _
  layer_seen (held_form.Index e ixs) at mark = s.strict _ _ _
  layer_seen (held_form.Field e x) at mark = s.strict _ _ _
  layer_seen (held_form.Update a es e) at mark = s.strict _ _ _
  layer_seen (held_form.Replace r x e) at mark = s.strict _ _ _
  layer_seen (held_form.Ascribe e t) at mark = s.strict _ _ _
  layer_seen (held_form.Coerce e t) at mark = s.strict _ _ _
  layer_seen (held_form.Assert c e) at mark = s.bound _ _ _
  layer_seen (held_form.Range e None end g) at mark = s.strict _ _ _
  layer_seen (held_form.Range e (Some f) end g) at mark = s.strict _ _ _

  pub held_seen : (e : Inside) → see (source_of (exp_of e)) ≡ seen see name call body e.form e.place
  held_seen e = ap see (exp_held e) ∙ layer_seen e.form e.place e.mark

-- ---- names, names that are applied, and sections

abbrev no_name : Path → Place → Option Spelled
no_name p at = None

abbrev no_call : SourceTerm → SourceTerm → Option Spelled
no_call f e = None

abbrev no_body : SourceTerm → Option Spelled
no_body e = None

sees_use : Sees use_in (λ p at. Some (spelled p at)) no_call no_body
sees_use = record { used = λ p at k. refl; applied = λ b f e. refl; lambda = λ ps e. refl; declared = λ o m ts. refl; strict = λ o m ts. refl; bound = λ b v e. refl; choice = λ c a b. refl; looped = λ m n p f t b. refl }

use_standing : (behind : Bool) (f : SourceTerm) → use_in (standing behind f) ≡ use_in f
use_standing behind (Use p at k) = refl
use_standing behind (Strict o mark ts) = refl
use_standing behind (Lambda ps e) = refl
use_standing behind (Apply f e) = refl
use_standing behind (Let b v e) = refl
use_standing behind (If c a b) = refl
use_standing behind (Loop mark sizes p first turns body) = refl

abbrev call_of_name : SourceTerm → SourceTerm → Option Spelled
call_of_name f e = use_in f

sees_applied : Sees applied_in no_name call_of_name no_body
sees_applied = record { used = λ p at k. refl; applied = λ b f e. use_standing b f; lambda = λ ps e. refl; declared = λ o m ts. refl; strict = λ o m ts. refl; bound = λ b v e. refl; choice = λ c a b. refl; looped = λ m n p f t b. refl }

applied_standing : (behind : Bool) (f : SourceTerm) → applied_in (standing behind f) ≡ applied_in f
applied_standing behind (Use p at k) = refl
applied_standing behind (Strict o mark ts) = refl
applied_standing behind (Lambda ps e) = refl
applied_standing behind (Apply f e) = refl
applied_standing behind (Let b v e) = refl
applied_standing behind (If c a b) = refl
applied_standing behind (Loop mark sizes p first turns body) = refl

abbrev call_with_held : SourceTerm → SourceTerm → Option Spelled
call_with_held f e = cond (is_held_name (use_in e)) (applied_in f) None

sees_called : Sees called_in no_name call_with_held no_body
sees_called = record { used = λ p at k. refl; applied = λ b f e. ap (λ c. cond (is_held_name (use_in e)) c None) (applied_standing b f); lambda = λ ps e. refl; declared = λ o m ts. refl; strict = λ o m ts. refl; bound = λ b v e. refl; choice = λ c a b. refl; looped = λ m n p f t b. refl }

none_either_way : (b : Bool) → ◌≡◌ {A = Option Spelled} None (cond b None None)
none_either_way true = refl
none_either_way false = refl

function_seen : (ps : Patterns Spelled Label) (e : SourceTerm) → section_name (Lambda ps e) ≡ called_in e
unfolding section_name
function_seen ps (Use v to l) = refl
function_seen ps (Strict o mark ts) = refl
function_seen ps (Lambda qs d) = refl
function_seen ps (Let b w d) = refl
function_seen ps (If c a d) = refl
function_seen ps (Loop mark sizes q first turns d) = refl
function_seen ps (Apply (Use p at k) e) = none_either_way (is_held_name (use_in e))
function_seen ps (Apply (Strict o mark ts) e) = none_either_way (is_held_name (use_in e))
function_seen ps (Apply (Lambda qs d) e) = none_either_way (is_held_name (use_in e))
function_seen ps (Apply (Let b w d) e) = none_either_way (is_held_name (use_in e))
function_seen ps (Apply (If c a d) e) = none_either_way (is_held_name (use_in e))
function_seen ps (Apply (Loop mark sizes q first turns d) e) = none_either_way (is_held_name (use_in e))
function_seen ps (Apply (Apply (Strict o mark ts) x) e) = none_either_way (is_held_name (use_in e))
function_seen ps (Apply (Apply (Lambda qs d) x) e) = none_either_way (is_held_name (use_in e))
function_seen ps (Apply (Apply (Apply g y) x) e) = none_either_way (is_held_name (use_in e))
function_seen ps (Apply (Apply (Let b w d) x) e) = none_either_way (is_held_name (use_in e))
function_seen ps (Apply (Apply (If c a d) x) e) = none_either_way (is_held_name (use_in e))
function_seen ps (Apply (Apply (Loop mark sizes q first turns d) x) e) = none_either_way (is_held_name (use_in e))
function_seen ps (Apply (Apply (Use p at k) x) (Use v to l)) = refl
function_seen ps (Apply (Apply (Use p at k) x) (Strict o mark ts)) = refl
function_seen ps (Apply (Apply (Use p at k) x) (Lambda qs d)) = refl
function_seen ps (Apply (Apply (Use p at k) x) (Apply g y)) = refl
function_seen ps (Apply (Apply (Use p at k) x) (Let b w d)) = refl
function_seen ps (Apply (Apply (Use p at k) x) (If c a d)) = refl
function_seen ps (Apply (Apply (Use p at k) x) (Loop mark sizes q first turns d)) = refl

sees_section : Sees section_name no_name no_call called_in
unfolding section_name
sees_section = record { used = λ p at k. refl; applied = λ b f e. refl; lambda = function_seen; declared = λ o m ts. refl; strict = λ o m ts. refl; bound = λ b v e. refl; choice = λ c a b. refl; looped = λ m n p f t b. refl }

pub use_held : (e : Inside) → use_in (source_of (exp_of e)) ≡ seen use_in (λ p at. Some (spelled p at)) no_call no_body e.form e.place
use_held = held_seen sees_use

pub applied_held : (e : Inside) → applied_in (source_of (exp_of e)) ≡ seen applied_in no_name call_of_name no_body e.form e.place
applied_held = held_seen sees_applied

pub called_held : (e : Inside) → called_in (source_of (exp_of e)) ≡ seen called_in no_name call_with_held no_body e.form e.place
called_held = held_seen sees_called

pub section_held : (e : Inside) → section_name (source_of (exp_of e)) ≡ seen section_name no_name no_call called_in e.form e.place
section_held = held_seen sees_section

-- ---- a name before a part

pub led_then : {A B : Type 0} (o : Option Spelled) (sc : Scope) (r : Numbered A) (k : A → List Text → Numbered B) → led_by o sc (after r k) ≡ after (led_by o sc r) k
unfolding led_by after
led_then None sc r k = refl
led_then (Some p) sc r k = found_then (value_of sc p)
  where
    found_then : (q : Result Found Refusal) → where_found q (after r k) ≡ after (where_found q r) k
    found_then (Ok f) = refl
    found_then (Err e) = refl

pub led_rises : {A : Type 0} {sc : Scope} {r : Numbered (A × Scope)} (o : Option Spelled) → Rises sc r → Rises sc (led_by o sc r)
unfolding led_by
led_rises None up = up
led_rises {sc = sc} {r = r} (Some p) up = found_rises (value_of sc p)
  where
    found_rises : (q : Result Found Refusal) → Rises sc (where_found q r)
    found_rises (Ok f) = up
    found_rises (Err e) = rises_not

pub led_bound : {A : Type 0} (o : Option Spelled) (sc : Scope) (r : Numbered A) (u : Unit {0}) → Ok u ≡ looked o sc → led_by o sc r ≡ r
unfolding led_by
led_bound None sc r u is = refl
led_bound (Some p) sc r u is = found (value_of sc p) is
  where
    found : (q : Result Found Refusal) → Ok u ≡ is_found q → where_found q r ≡ r
    found (Ok f) so = refl
    found (Err e) so = absurd (let z : ◌≡◌ {A = Result (Unit {0}) Refusal} (Ok u) (Err e) = so in cc)

pub led_refused : {A : Type 0} (o : Option Spelled) (sc : Scope) (r : Numbered A) (e : Refusal) → Err e ≡ looked o sc → led_by o sc r ≡ Err e
unfolding led_by
led_refused None sc r e is = absurd (let z : ◌≡◌ {A = Result (Unit {0}) Refusal} (Err e) (Ok tt) = is in cc)
led_refused (Some p) sc r e is = found (value_of sc p) is
  where
    found : (q : Result Found Refusal) → Err e ≡ is_found q → where_found q r ≡ Err e
    found (Ok f) so = absurd (let z : ◌≡◌ {A = Result (Unit {0}) Refusal} (Err e) (Ok tt) = so in cc)
    found (Err x) so = ap Err (let z : ◌≡◌ {A = Result (Unit {0}) Refusal} (Err e) (Err x) = so in cc)

-- of the answers for the name and for what is behind it
pub led_entered : {A R : Type 0} {view : R → A} {does : Numbered (A × Scope)} {t : Names} {a b : Result R Stop} (o : Option Spelled) (sc : Scope) (l : Result (Unit {0}) HeldRefusal) → viewed (λ u. u) l ≡ looked o sc → Entered view does t a → b ≡ led l a → Entered view (led_by o sc does) t b
led_entered {view = view} {does = does} {t = t} {b = b} o sc (Ok u) is w same = subst (λ d. Entered view d t b) (sym (led_bound o sc does u is)) (subst (Entered view does t) (sym same) w)
led_entered {view = view} {does = does} {t = t} o sc (Err e) is w same = subst (Entered view (led_by o sc does) t) (sym same) (not_entered (led_refused o sc does _ is))

-- a let behind which other lets stand is before no section's function
pub name_of_lets : (bs : List Bind) (e : SourceTerm) → section_name (lets (map row_of (binds_of bs)) e) ≡ name_before (length bs) e
unfolding section_name lets
name_of_lets [] e = refl
name_of_lets (b ∷ bs) e = refl

-- ---- the name before a let, which no other let may follow

pub looked_far : (n : ℕ) (e : SourceTerm) (sc : Scope) → 0 < n → viewed (λ (u : Unit {0}). u) (Ok tt) ≡ looked (name_before n e) sc
looked_far zero e sc k = absurd (omega (arith, k))
looked_far (suc n) e sc k = refl

looked_near : (n : ℕ) (e : SourceTerm) (sc : Scope) → n ≤ 0 → looked (section_name e) sc ≡ looked (name_before n e) sc
looked_near zero e sc k = refl
looked_near (suc n) e sc k = absurd (omega (arith, k))

pub looked_none : (n : ℕ) (e : SourceTerm) (sc : Scope) → n ≤ 0 → spelled_of None ≡ section_name e → viewed (λ (u : Unit {0}). u) (Ok tt) ≡ looked (name_before n e) sc
looked_none n e sc k is = ap (λ o. looked o sc) is ∙ looked_near n e sc k

pub looked_found : (n j : ℕ) (e : SourceTerm) (sc : Scope) (c : Called) (f : HeldFound) → n ≤ 0 → spelled_of (Some c) ≡ section_name e → viewed (found_of j) (Ok f) ≡ value_of sc (spelled (names c.path.now) c.place) → viewed (λ (u : Unit {0}). u) (Ok tt) ≡ looked (name_before n e) sc
looked_found n j e sc c f k is so = ap is_found so ∙ ap (λ o. looked o sc) is ∙ looked_near n e sc k

pub looked_refused : (n j : ℕ) (e : SourceTerm) (sc : Scope) (c : Called) (x : HeldRefusal) → n ≤ 0 → spelled_of (Some c) ≡ section_name e → viewed (found_of j) (Err x) ≡ value_of sc (spelled (names c.path.now) c.place) → viewed (λ (u : Unit {0}). u) (Err x) ≡ looked (name_before n e) sc
looked_refused n j e sc c x k is so = ap is_found so ∙ ap (λ o. looked o sc) is ∙ looked_near n e sc k

pub ruleset looked_rules = (looked_far, looked_none, looked_found, looked_refused)
