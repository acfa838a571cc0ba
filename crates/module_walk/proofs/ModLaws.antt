-- Module expressions, form by form.
use Rattle.std.proofs.Common.{◌≡◌, ℕ, suc, ◌+◌, ◌<◌, ◌≤◌, List, [], ◌∷◌, map, length, reverse, Bool, true, false, cond, nat_lt, Option, Some, None, Result, Ok, Err, refl, sym, ap, ◌∙◌, subst, arith}
use Rattle.std.proofs.lemmas.Bool.{le-ltb, lt-ltb}
use Rattle.std.specs.Borrow.{Bor}
use Rattle.fut_scalar.specs.declared.place.Place.{Place}
use Rattle.fut_ast.specs.Sorts.{Text, Path}
use Rattle.fut_ast.specs.declared.node.Label.{Label}
use Rattle.fut_ast.specs.declared.module.ModExp.{ModExp as PlainModExp, out-ModExp}
use Rattle.fut_ast.specs.declared.module.ModForm.{ModForm-F, out-ModForm}
use Rattle.fut_ast.specs.declared.module.ModType.{ModType}
use Rattle.fut_tree.specs.declared.held.Held.{Held}
use Rattle.fut_tree.specs.declared.module.ModExp.TheInside.{Inside}
use Rattle.fut_tree.specs.declared.module.ModForm.{ModForm}
use Rattle.fut_tree.specs.declared.module.ModForm.TheVariants as held_form
use Rattle.fut_tree.specs.Names.{names, all, maybe}
use Rattle.fut_tree.specs.ModTypes.{label_of}
use Rattle.fut_tree.specs.Mods.{decs_of, mod_of}
use Rattle.elab_scopes.specs.Names.{Refusal, TooManyApplications, Unbound}
use Rattle.elab_scopes.specs.Scopes.{Module_ref, Contents}
use Rattle.elab_scopes.specs.Resolve.{after}
use Rattle.elab_scopes.specs.Imports.{Source_file, imported_file}
use Rattle.elab_scopes.specs.Declarations.{Functor, Here, State, Step, Walks, applied_once, applied_to, bare, block_of, contents_of as contents_in_state, counted, function_in, given_by, hidden, import_of, in_body, lambda_with, looked_at, mod_with, module_met, new_functor, new_module, nothing, of_another, once_more, result_of, sealed_by, shown, the_body, within}
use Rattle.elab_scopes.specs.declared.meanings.ModuleRef.{ModuleRef}
use Rattle.elab_scopes.specs.declared.modules.Contents.{Contents as HeldContents}
use Rattle.elab_scopes.specs.declared.refusal.Refusal.TheVariants as held
use Rattle.elab_scopes.specs.declared.refusal.Stop.{Stop}
use Rattle.elab_scopes.specs.declared.refusal.Stop.TheVariants as stop
use Rattle.elab_scopes.specs.Held.{module_ref_of}
use Rattle.elab_scopes.specs.Modules.{contents_of, modules_of}
use Rattle.elab_scopes.specs.Table.{locals_of, made_of, modules_in}
use Rattle.module_state.specs.declared.state.Declaring.{Declaring}
use Rattle.module_state.specs.Standing.{Stands, Does, does, refuses, stops, definition_of, functor_of, loaded_of, signature_of}
use Rattle.module_state.specs.Steps.{called_of, contents_in, path_module}
use Rattle.module_state.proofs.Namings.{mod_layer, out_mod}
use Rattle.module_state.proofs.Stands.{same_step, same_where}
use Rattle.module_members.proofs.Steps.{goes, halts, nested, where_is}
use Rattle.module_walk.specs.Steps.{application, argument_applied, lambda_body, lambda_module, sealed_body, sealed_module}
use Rattle.module_walk.proofs.Laws.{function_seen}

-- ---- by its form

module _ (fs : List Source_file) (R : Walks) (h : Here) {d d1 : Declaring} {r : Result ModuleRef Stop} (m : Inside) (v : PlainModExp) (stands : mod_of m ≡ v) where
  by_form : (f : ModForm) → m.form ≡ f → Does module_ref_of (mod_with fs R h m.place (mod_layer f)) d d1 r → Does module_ref_of (mod_with fs R h (out-ModExp v).place (out-ModForm (out-ModExp v).form)) d d1 r
  by_form f is w = subst (λ x. Does module_ref_of (mod_with fs R h (out-ModExp x).place (out-ModForm (out-ModExp x).form)) d d1 r) stands
      (subst (λ l. Does module_ref_of (mod_with fs R h m.place l) d d1 r) (sym (out_mod m.form)) (subst (λ g. Does module_ref_of (mod_with fs R h m.place (mod_layer g)) d d1 r) (sym is) w))

  pub path_goes : (p : Bor (List (Bor Text))) → m.form ≡ held_form.Path p → Does module_ref_of (path_module h m.place (names p.now)) d d1 r → Does module_ref_of (mod_with fs R h (out-ModExp v).place (out-ModForm (out-ModExp v).form)) d d1 r
  unfolding mod_layer
  path_goes p is w = by_form (held_form.Path p) is (same_step module_ref_of (path_module h m.place (names p.now)) (mod_with fs R h m.place (ModForm-F.Path (names p.now))) (at_path (names p.now)) w)
    where
      at_path : (xs : Path) (s : State) → mod_with fs R h m.place (ModForm-F.Path xs) s ≡ path_module h m.place xs s
      at_path [] s = refl
      at_path (x ∷ xs) s = refl

  pub decs_go : (ds : _) → m.form ≡ held_form.Decs ds → Does module_ref_of (block_of fs R h false (decs_of ds.now)) d d1 r → Does module_ref_of (mod_with fs R h (out-ModExp v).place (out-ModForm (out-ModExp v).form)) d d1 r
  unfolding mod_layer
  decs_go ds is w = by_form (held_form.Decs ds) is w

  pub apply_goes : (f : _) (ms : _) → m.form ≡ held_form.Apply f ms → Does module_ref_of (application fs R h f.now (all ms.now)) d d1 r → Does module_ref_of (mod_with fs R h (out-ModExp v).place (out-ModForm (out-ModExp v).form)) d d1 r
  unfolding mod_layer
  apply_goes f ms is w = by_form (held_form.Apply f ms) is w

  pub import_goes : (x : _) → m.form ≡ held_form.Import x → Does module_ref_of (import_of fs R m.place x.now (imported_file fs h.file x.now)) d d1 r → Does module_ref_of (mod_with fs R h (out-ModExp v).place (out-ModForm (out-ModExp v).form)) d d1 r
  unfolding mod_layer
  import_goes x is w = by_form (held_form.Import x) is w

  pub lambda_goes : (x : _) (t : _) (u : _) (body : _) → m.form ≡ held_form.Lambda x t u body → Does module_ref_of (lambda_module fs R h (label_of x) t.now (maybe u) body.now) d d1 r → Does module_ref_of (mod_with fs R h (out-ModExp v).place (out-ModForm (out-ModExp v).form)) d d1 r
  unfolding mod_layer
  lambda_goes x t u body is w = by_form (held_form.Lambda x t u body) is w

  pub seal_goes : (body : _) (t : _) → m.form ≡ held_form.Seal body t → Does module_ref_of (sealed_module fs R h body.now t.now) d d1 r → Does module_ref_of (mod_with fs R h (out-ModExp v).place (out-ModForm (out-ModExp v).form)) d d1 r
  unfolding mod_layer
  seal_goes body t is w = by_form (held_form.Seal body t) is w

-- ---- a parametric module

module _ (fs : List Source_file) (R : Walks) (h : Here) (x : Label) (t : ModType) (u : Option ModType) (body : PlainModExp) where
  abbrev named_in : Module_ref → Here
  named_in p = in_body h x.name p h.names

  abbrev made_functor : Module_ref → Step Contents
  made_functor b = new_functor (record { file = h.file; parameter = x.name; bound = t; names = h.names; gives = the_body u body; bare = b })

  abbrev behind_seal : Module_ref → Module_ref → Step Contents
  behind_seal p m s = after (sealed_by fs R (bare (named_in p)) u m s) made_functor

  abbrev behind_look : Module_ref → Step Contents
  behind_look p s = after (R.module_of (bare (named_in p)) body s) (behind_seal p)

  abbrev behind_bound : Module_ref → Step Contents
  behind_bound p s = after (looked_at fs R (named_in p) u s) (λ c. behind_look p)

  body_is : (p : Module_ref) (s : State) → after (behind_look p s) new_module ≡ lambda_body fs R h (named_in p) x t u body s
  body_is p s = ap (λ q. after q new_module) (sym (nested (R.module_of (bare (named_in p)) body s) (sealed_by fs R (bare (named_in p)) u) made_functor)) ∙ nested (sealed_body fs R (bare (named_in p)) u body s) made_functor new_module

  lambda_is : (s : State) → lambda_module fs R h x t u body s ≡ after (module_met fs R (bare h) nothing t s) (λ p s. after (looked_at fs R (named_in p) u s) (λ c. lambda_body fs R h (named_in p) x t u body))
  lambda_is s = nested (module_met fs R (bare h) nothing t s) behind_bound new_module
      ∙ ap (after (module_met fs R (bare h) nothing t s)) (λ i p s. (nested (looked_at fs R (named_in p) u s) (λ c. behind_look p) new_module ∙ ap (after (looked_at fs R (named_in p) u s)) (λ j c s. body_is p s j)) i)

  pub lambda_does : {d d1 : Declaring} {r : Result ModuleRef Stop} → Does module_ref_of (λ s. after (module_met fs R (bare h) nothing t s) (λ p s. after (looked_at fs R (named_in p) u s) (λ c. lambda_body fs R h (named_in p) x t u body))) d d1 r → Does module_ref_of (lambda_module fs R h x t u body) d d1 r
  lambda_does w = same_step module_ref_of (λ s. after (module_met fs R (bare h) nothing t s) (λ p s. after (looked_at fs R (named_in p) u s) (λ c. lambda_body fs R h (named_in p) x t u body))) (lambda_module fs R h x t u body) lambda_is w

-- ---- applications

abbrev pub arguments_left : List Source_file → Walks → Here → PlainModExp → List (Held PlainModExp) → Module_ref → Step Module_ref
arguments_left fs R h f given m = applied_to fs R h (out-ModExp f).place (called_of f) (all given) m

pub arguments_more : (fs : List Source_file) (R : Walks) (h : Here) (f : PlainModExp) (a : Held PlainModExp) (given : List (Held PlainModExp)) (m : Module_ref) (s : State) → arguments_left fs R h f (a ∷ given) m s ≡ after (argument_applied fs R h f a.at.now m s) (arguments_left fs R h f given)
unfolding applied_to
arguments_more fs R h f a given m s = refl

pub arguments_none : (fs : List Source_file) (R : Walks) (h : Here) (f : PlainModExp) (m : Module_ref) (s : State) → arguments_left fs R h f [] m s ≡ Ok (m, s)
unfolding applied_to
arguments_none fs R h f m s = refl

abbrev applied_as : List Source_file → Walks → Here → PlainModExp → PlainModExp → Option ℕ → Step Module_ref
applied_as fs R h f a o = applied_once fs R h (out-ModExp f).place (called_of f) (out-ModExp a).place o a

module _ (fs : List Source_file) (R : Walks) (h : Here) (f a : PlainModExp) (m : Module_ref) {d : Declaring} (cs : List HeldContents) (same : modules_of cs ≡ modules_in d.names) (o : Option ℕ) (is : o ≡ function_in (contents_in (modules_of cs) m)) where
  pub argument_goes : (k : ℕ) {d1 : Declaring} {r : Result ModuleRef Stop} → o ≡ Some k → Does module_ref_of (λ s. after (R.module_of h a s) (counted fs R h.live h (out-ModExp a).place k)) d d1 r → Does module_ref_of (argument_applied fs R h f a m) d d1 r
  argument_goes k e w = same_where module_ref_of (applied_as fs R h f a (Some k)) (argument_applied fs R h f a m) (λ s st. ap (λ z. applied_as fs R h f a z s) (function_seen m cs same o is s st ∙ e)) w

  pub not_parametric : (v : Inside) (x : Bor Text) {d1 : Declaring} → o ≡ None → mod_of v ≡ f → x.now ≡ called_of f → Does module_ref_of (argument_applied fs R h f a m) d d1 (Err (stop.Refused (held.Unbound x v.place)))
  not_parametric v x e stands named = refuses (λ s st. ap (λ z. applied_as fs R h f a z s) (function_seen m cs same o is s st ∙ e) ∙ (λ i. Err (Unbound (sym named i) (out-ModExp (sym stands i)).place)))

module _ (fs : List Source_file) (R : Walks) (h : Here) (at : Place) (k : ℕ) (a : Module_ref) (l : Bool) where
  abbrev counted_as : Bool → Step Module_ref
  counted_as l = counted fs R l h at k a

  pub dry_counted : {d d1 : Declaring} {r : Result ModuleRef Stop} → l ≡ false → Does module_ref_of (R.applied h k a) d d1 r → Does module_ref_of (counted_as l) d d1 r
  dry_counted e w = where_is module_ref_of counted_as (sym e) w

  pub too_many : {d d2 : Declaring} → l ≡ true → 1024 ≤ d.applications → Does module_ref_of (counted_as l) d d2 (Err (stop.Refused (held.TooManyApplications at)))
  too_many {d} e le = where_is module_ref_of counted_as (sym e)
      (refuses (λ s st. ap (λ b. cond b (R.applied h k a (once_more s)) (Err (TooManyApplications at))) (ap (λ n. nat_lt n 1024) (sym st.applications) ∙ le-ltb d.applications 1024 le)))

  one_application : {d d1 : Declaring} (s : State) → d1.names ≡ d.names → d1.functors ≡ d.functors → d1.signatures ≡ d.signatures → d1.definitions ≡ d.definitions → d1.applications ≡ suc d.applications → d1.start ≡ d.start → d1.loaded ≡ d.loaded → Stands d s → Stands d1 (once_more s)
  one_application s ns fs gs ds n ss ls st = record { made = ap made_of ns ∙ st.made; modules = ap modules_in ns ∙ st.modules; functors = ap (map functor_of) fs ∙ st.functors; signatures = ap (map signature_of) gs ∙ st.signatures; definitions = ap (λ v. map definition_of v.items) ds ∙ st.definitions; applications = n ∙ ap suc st.applications; start = ap (λ b. b.now) ss ∙ st.start; loaded = ap (λ l. reverse (map loaded_of l)) ls ∙ st.loaded; locals = ap locals_of ns ∙ st.locals }

  at_count : {d d1 d2 : Declaring} {r : Result ModuleRef Stop} → nat_lt d.applications 1024 ≡ true → ((s : State) → Stands d s → Stands d1 (once_more s)) → Does module_ref_of (R.applied h k a) d1 d2 r → Does module_ref_of (counted_as true) d d2 r
  at_count {d} lt c (does g) = does (λ s st. let x = g (once_more s) (c s st) in record { state = x.state; is = ap (λ b. cond b (R.applied h k a (once_more s)) (Err (TooManyApplications at))) (ap (λ n. nat_lt n 1024) (sym st.applications) ∙ lt) ∙ x.is; stands = x.stands })
  at_count {d} lt c (refuses g) = refuses (λ s st. ap (λ b. cond b (R.applied h k a (once_more s)) (Err (TooManyApplications at))) (ap (λ n. nat_lt n 1024) (sym st.applications) ∙ lt) ∙ g (once_more s) (c s st))
  at_count lt c stops = stops

  pub counted_goes : {d d1 d2 : Declaring} {r : Result ModuleRef Stop} → l ≡ true → d.applications < 1024 → d1.names ≡ d.names → d1.functors ≡ d.functors → d1.signatures ≡ d.signatures → d1.definitions ≡ d.definitions → d1.applications ≡ d.applications + 1 → d1.start ≡ d.start → d1.loaded ≡ d.loaded
      → Does module_ref_of (R.applied h k a) d1 d2 r → Does module_ref_of (counted_as l) d d2 r
  counted_goes e lt ns fs gs ds n ss ls w = where_is module_ref_of counted_as (sym e) (at_count (lt-ltb _ _ lt) (λ s st. one_application s ns fs gs ds (n ∙ omega arith) ss ls st) w)

-- ---- what an application gives

module _ (fs : List Source_file) (R : Walks) (h : Here) (f : Functor) (p : Module_ref) where
  pub another_is : (k : ℕ) (hides : Bool) (t : ModType) (s : State) → given_by fs R h f (of_another k hides t) p s ≡ after (R.applied h k p s) (λ m. module_met fs R (within h f p) (cond hides (hidden m []) (shown m [])) t)
  another_is k true t s = refl
  another_is k false t s = refl

  pub another_does : (k : ℕ) (hides : Bool) (t : ModType) {d d1 : Declaring} {r : Result ModuleRef Stop} → Does module_ref_of (λ s. after (R.applied h k p s) (λ m. module_met fs R (within h f p) (cond hides (hidden m []) (shown m [])) t)) d d1 r → Does module_ref_of (given_by fs R h f (of_another k hides t) p) d d1 r
  another_does k hides t w = same_step module_ref_of (λ s. after (R.applied h k p s) (λ m. module_met fs R (within h f p) (cond hides (hidden m []) (shown m [])) t)) (given_by fs R h f (of_another k hides t) p) (another_is k hides t) w
