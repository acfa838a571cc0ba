-- What known values and scopes stand for, one level at a time.
use Rattle.std.proofs.Common.{◌≡◌, List, map, false, refl, sym, ◌∙◌, ap, subst}
use Rattle.std.specs.Borrow.{Bor}
use Rattle.fut_scalar.specs.declared.place.BindId.{BindId}
use Rattle.fut_ast.specs.Sorts.{Text}
use Rattle.fut_flat.specs.declared.prim.Primitive.{Primitive}
use Rattle.fut_flat.specs.Erased.{patterns, pattern_of, term_of, texts}
use Rattle.fut_meaning.specs.Knowns.{Known, Data, Known_tuple, Known_record, Known_function, Known_primitive, Scope, empty, branch, is_data}
use Rattle.unfold_measure.specs.declared.known.Known.{Known as Held_known, fold_out-Known}
use Rattle.unfold_measure.specs.declared.known.KnownForm.{KnownForm, KnownForm-F, fold-KnownForm, fold_out-KnownForm, out-KnownForm, roll-KnownForm, roll-out-KnownForm, map-KnownForm}
use Rattle.unfold_measure.specs.declared.known.KnownForm.TheVariants as form
use Rattle.unfold_measure.specs.declared.known.Closure.{Closure, fold_out-Closure}
use Rattle.unfold_measure.specs.declared.known.Scope.{Scope as Held_scope, Scope-F, fold_out-Scope, map-Scope}
use Rattle.unfold_measure.specs.declared.known.Scope.TheVariants as scope
use Rattle.unfold_measure.specs.Held.{knowns, named, known_form, scope_form, known_of, closure_of, scope_of}

unfoldable pub form_known : KnownForm → Known
form_known = fold-KnownForm Known Scope Known Known known_form scope_form (λ c. Known_function (patterns (map pattern_of c.params.now)) (term_of c.body.now) c.scope.now) (λ s. s.form.now)

abbrev pub Layer : Type 0
Layer = KnownForm-F KnownForm Held_scope Closure Held_known

abbrev pub layer : Layer → Known
layer KnownForm-F.Data = Data
layer (KnownForm-F.Tuple ss) = Known_tuple (knowns (map known_of ss.now))
layer (KnownForm-F.Record fs ss) = Known_record (named (texts fs.now) (map known_of ss.now))
layer (KnownForm-F.Function c) = closure_of c.now
layer (KnownForm-F.Primitive p ss) = Known_primitive p (knowns (map known_of ss.now))

layer_is : (l : Layer) → known_form (map-KnownForm KnownForm Held_scope Closure Held_known Known Scope Known Known form_known scope_of closure_of known_of l) ≡ layer l
unfolding known_form
layer_is KnownForm-F.Data = refl
layer_is (KnownForm-F.Tuple ss) = refl
layer_is (KnownForm-F.Record fs ss) = refl
layer_is (KnownForm-F.Function c) = refl
layer_is (KnownForm-F.Primitive p ss) = refl

known_at : (s : Held_known) (f : KnownForm) (l : Layer) → s.form.now ≡ f → out-KnownForm f ≡ l → known_of s ≡ layer l
unfolding known_of form_known scope_of closure_of
known_at s f l is o =
    fold_out-Known Known Scope Known Known known_form scope_form (λ c. Known_function (patterns (map pattern_of c.params.now)) (term_of c.body.now) c.scope.now) (λ s. s.form.now) s
    ∙ ap form_known is
    ∙ fold_out-KnownForm Known Scope Known Known known_form scope_form (λ c. Known_function (patterns (map pattern_of c.params.now)) (term_of c.body.now) c.scope.now) (λ s. s.form.now) f
    ∙ layer_is (out-KnownForm f)
    ∙ ap layer o

back : (f g : KnownForm) → out-KnownForm f ≡ out-KnownForm g → f ≡ g
back f g q = sym (roll-out-KnownForm f) ∙ ap roll-KnownForm q ∙ roll-out-KnownForm g

pub closure_is : (c : Closure) → closure_of c ≡ Known_function (patterns (map pattern_of c.params.now)) (term_of c.body.now) (scope_of c.scope.now)
unfolding closure_of known_of form_known scope_of
closure_is c = fold_out-Closure Known Scope Known Known known_form scope_form (λ c. Known_function (patterns (map pattern_of c.params.now)) (term_of c.body.now) c.scope.now) (λ s. s.form.now) c

-- what is said of each form is said of what is known
module _ (s : Held_known) (P : Known → Type 0) where
  pub by_form : (s.form.now ≡ form.Data → P Data) → ((ss : Bor (List Held_known)) → s.form.now ≡ form.Tuple ss → P (Known_tuple (knowns (map known_of ss.now)))) → ((fs : Bor (List (Bor Text))) (ss : Bor (List Held_known)) → s.form.now ≡ form.Record fs ss → P (Known_record (named (texts fs.now) (map known_of ss.now)))) → ((c : Bor Closure) → s.form.now ≡ form.Function c → P (Known_function (patterns (map pattern_of c.now.params.now)) (term_of c.now.body.now) (scope_of c.now.scope.now))) → ((p : Primitive) (ss : Bor (List Held_known)) → s.form.now ≡ form.Primitive p ss → P (Known_primitive p (knowns (map known_of ss.now)))) → P (known_of s)
  by_form d t r f p = at (out-KnownForm s.form.now) refl
    where
      at : (l : Layer) → out-KnownForm s.form.now ≡ l → P (known_of s)
      at KnownForm-F.Data q = subst P (sym (known_at s _ _ refl q)) (d (back _ _ (q ∙ sym form.outs-Data)))
      at (KnownForm-F.Tuple ss) q = subst P (sym (known_at s _ _ refl q)) (t ss (back _ _ (q ∙ sym (form.outs-Tuple ss))))
      at (KnownForm-F.Record fs ss) q = subst P (sym (known_at s _ _ refl q)) (r fs ss (back _ _ (q ∙ sym (form.outs-Record fs ss))))
      at (KnownForm-F.Function c) q = subst P (sym (known_at s _ _ refl q ∙ closure_is c.now)) (f c (back _ _ (q ∙ sym (form.outs-Function c))))
      at (KnownForm-F.Primitive p' ss) q = subst P (sym (known_at s _ _ refl q)) (p p' ss (back _ _ (q ∙ sym (form.outs-Primitive p' ss))))

pub not_data : (s : Held_known) → (s.form.now ≡ form.Data → ⊥) → is_data (known_of s) ≡ false
not_data s n = by_form s (λ k. is_data k ≡ false) (λ is. absurd (n is)) (λ ss is. refl) (λ fs ss is. refl) (λ c is. refl) (λ p ss is. refl)

pub known_data : (s : Held_known) → s.form.now ≡ form.Data → known_of s ≡ Data
known_data s is = known_at s _ _ is form.outs-Data

pub known_tuple : (s : Held_known) (ss : Bor (List Held_known)) → s.form.now ≡ form.Tuple ss → known_of s ≡ Known_tuple (knowns (map known_of ss.now))
known_tuple s ss is = known_at s _ _ is (form.outs-Tuple ss)

pub known_record : (s : Held_known) (fs : Bor (List (Bor Text))) (ss : Bor (List Held_known)) → s.form.now ≡ form.Record fs ss → known_of s ≡ Known_record (named (texts fs.now) (map known_of ss.now))
known_record s fs ss is = known_at s _ _ is (form.outs-Record fs ss)

pub known_closure : (s : Held_known) (c : Bor Closure) → s.form.now ≡ form.Function c → known_of s ≡ closure_of c.now
known_closure s c is = known_at s _ _ is (form.outs-Function c)

pub known_function : (s : Held_known) (c : Bor Closure) → s.form.now ≡ form.Function c → known_of s ≡ Known_function (patterns (map pattern_of c.now.params.now)) (term_of c.now.body.now) (scope_of c.now.scope.now)
known_function s c is = known_closure s c is ∙ closure_is c.now

pub known_primitive : (s : Held_known) (p : Primitive) (ss : Bor (List Held_known)) → s.form.now ≡ form.Primitive p ss → known_of s ≡ Known_primitive p (knowns (map known_of ss.now))
known_primitive s p ss is = known_at s _ _ is (form.outs-Primitive p ss)

scope_layer_is : (l : Scope-F KnownForm Held_scope Closure Held_known) (b : BindId) (s : Held_known) (even odd : Bor Held_scope) → l ≡ Scope-F.Bind b s even odd → scope_form (map-Scope KnownForm Held_scope Closure Held_known Known Scope Known Known form_known scope_of closure_of known_of l) ≡ branch b (known_of s) (scope_of even.now) (scope_of odd.now)
unfolding scope_form
scope_layer_is l b s even odd e = rw e refl

pub scope_empty : scope_of scope.Empty ≡ empty
unfolding scope_of scope_form known_of form_known closure_of
scope_empty = fold_out-Scope Known Scope Known Known known_form scope_form (λ c. Known_function (patterns (map pattern_of c.params.now)) (term_of c.body.now) c.scope.now) (λ s. s.form.now) scope.Empty ∙ ap (λ l. scope_form (map-Scope KnownForm Held_scope Closure Held_known Known Scope Known Known form_known scope_of closure_of known_of l)) scope.outs-Empty

pub scope_bind : (b : BindId) (s : Held_known) (even odd : Bor Held_scope) → scope_of (scope.Bind b s even odd) ≡ branch b (known_of s) (scope_of even.now) (scope_of odd.now)
unfolding scope_of known_of form_known closure_of
scope_bind b s even odd = fold_out-Scope Known Scope Known Known known_form scope_form (λ c. Known_function (patterns (map pattern_of c.params.now)) (term_of c.body.now) c.scope.now) (λ s. s.form.now) (scope.Bind b s even odd) ∙ scope_layer_is _ b s even odd (scope.outs-Bind b s even odd)

pub ruleset mirrors = (known_data, known_tuple, known_record, known_function, known_primitive, scope_empty, scope_bind)
