-- How a module expression is called that is refused, and where it stands.
use Rattle.std.proofs.Common.{codes, slice_index_or, get_or, ◌≡◌, ℕ, zero, suc, ◌+◌, ◌-◌, ◌<◌, ◌≤◌, List, [], ◌∷◌, ◌++◌, length, take, drop, Result, Ok, Err, IfOk, refl, sym, ap, ◌∙◌, subst, arith}
use Rattle.std.proofs.lemmas.List.{append_assoc, map-append, take_all, take_more}
use Rattle.std.specs.Borrow.{Bor}
use Rattle.fut_ast.specs.Sorts.{Text, Path}
use Rattle.fut_ast.specs.declared.module.ModExp.{ModExp as PlainModExp, out-ModExp}
use Rattle.fut_ast.specs.declared.module.ModForm.{ModForm-F, out-ModForm}
use Rattle.fut_ast.specs.declared.module.ModForm.TheVariants as form
use Rattle.fut_tree.specs.declared.module.ModExp.TheInside.{Inside}
use Rattle.fut_tree.specs.declared.module.ModForm.{ModForm}
use Rattle.fut_tree.specs.declared.module.ModForm.TheVariants as held_form
use Rattle.fut_tree.specs.Names.{names, all, maybe}
use Rattle.fut_tree.specs.ModTypes.{label_of}
use Rattle.fut_tree.specs.Mods.{decs_of, mod_form_of, mod_of}
use Rattle.elab_scopes.specs.Declarations.{called, joined, ModLayer, Step}
use Rattle.elab_scopes.specs.declared.refusal.Stop.{Stop}
use Rattle.elab_scopes.specs.declared.refusal.Stop.TheVariants as stop
use Rattle.module_state.specs.declared.state.Declaring.{Declaring}
use Rattle.module_state.specs.Standing.{Does, stops}
use Rattle.module_state.specs.Steps.{called_of}

unfoldable pub mod_layer : ModForm → ModLayer
mod_layer (held_form.Path p) = ModForm-F.Path (names p.now)
mod_layer (held_form.Decs ds) = ModForm-F.Decs (decs_of ds.now)
mod_layer (held_form.Apply m ms) = ModForm-F.Apply m.now (all ms.now)
mod_layer (held_form.Import file) = ModForm-F.«ModForm::Import» file.now
mod_layer (held_form.Lambda x t u m) = ModForm-F.Lambda (label_of x) t.now (maybe u) m.now
mod_layer (held_form.Seal m t) = ModForm-F.Seal m.now t.now

pub out_mod : (f : ModForm) → out-ModForm (mod_form_of f) ≡ mod_layer f
unfolding mod_layer
out_mod (held_form.Path p) = form.outs-Path _
out_mod (held_form.Decs ds) = form.outs-Decs _
out_mod (held_form.Apply m ms) = form.outs-Apply _ _
out_mod (held_form.Import file) = form.outs-Import _
out_mod (held_form.Lambda x t u m) = form.outs-Lambda _ _ _ _
out_mod (held_form.Seal m t) = form.outs-Seal _ _

-- ---- the names of a path with dots between them

one_more_name : (x : Text) (ys : Path) (y : Text) → joined x (ys ++ y ∷ []) ≡ joined x ys ++ 46 ∷ y
one_more_name x [] y = refl
one_more_name x (z ∷ zs) y = ap (λ l. x ++ 46 ∷ l) (one_more_name z zs y) ∙ sym (append_assoc x (46 ∷ joined z zs) (46 ∷ y))

same_at : {A : Type 0} (xs : List A) (i : ℕ) (d : A) → get_or xs i d ≡ slice_index_or xs i d
same_at [] i d = refl
same_at (x ∷ xs) zero d = refl
same_at (x ∷ xs) (suc i) d = same_at xs i d

names_to : (ps : List (Bor Text)) (i : ℕ) (d : Bor Text) → i < length ps → names (take (i + 1) ps) ≡ names (take i ps) ++ (slice_index_or ps i d).now ∷ []
names_to ps i d lt = ap names (take_more ps i d lt ∙ ap (λ y. take i ps ++ y ∷ []) (same_at ps i d)) ∙ map-append (λ (b : Bor Text). b.now) (take i ps) (slice_index_or ps i d ∷ [])

module _ (x : Text) (ps : List (Bor Text)) where
  pub text_begins : (t : Text) → t ≡ x → t ≡ joined x (names (take 0 ps))
  text_begins t e = e

  pub text_grows : (i : ℕ) (t u v : Text) (d : Bor Text) → t ≡ joined x (names (take i ps)) → i < length ps → u ≡ t ++ 46 ∷ [] → v ≡ u ++ (slice_index_or ps i d).now → v ≡ joined x (names (take (i + 1) ps))
  text_grows i t u v d e lt dot is = is ∙ ap (λ l. l ++ (slice_index_or ps i d).now) dot ∙ append_assoc t (46 ∷ []) (slice_index_or ps i d).now
      ∙ ap (λ l. l ++ 46 ∷ (slice_index_or ps i d).now) e ∙ sym (one_more_name x (names (take i ps)) (slice_index_or ps i d).now) ∙ ap (joined x) (sym (names_to ps i d lt))

  pub text_ends : (i : ℕ) (t : Text) → t ≡ joined x (names (take i ps)) → length ps ≤ i → t ≡ joined x (names ps)
  text_ends i t e le = e ∙ ap (λ l. joined x (names l)) (take_all i ps le)

pub ruleset texts = (text_begins, text_grows, text_ends)

-- ---- how a module expression is called

called_as : (m : Inside) (v : PlainModExp) (f : ModForm) → mod_of m ≡ v → m.form ≡ f → called (mod_layer f) ≡ called_of v
called_as m v f stands is = sym (ap called_of (sym stands) ∙ ap called (out_mod m.form) ∙ ap (λ g. called (mod_layer g)) is)

path_called : (m : Inside) (v : PlainModExp) → mod_of m ≡ v → (p : Bor (List (Bor Text))) → m.form ≡ held_form.Path p → called (ModForm-F.Path (names p.now)) ≡ called_of v
unfolding mod_layer
path_called m v stands p is = called_as m v (held_form.Path p) stands is

no_names : (ps : List (Bor Text)) → length ps < 1 → codes "module" ≡ called (ModForm-F.Path (names ps))
no_names [] le = refl
no_names (q ∷ ps) le = absurd (omega (arith, le))

some_names : (ps : List (Bor Text)) (x : Bor Text) → 1 ≤ length ps → joined (slice_index_or ps 0 x).now (names (take (length ps - 1) (drop 1 ps))) ≡ called (ModForm-F.Path (names ps))
some_names [] x le = absurd (omega (arith, le))
some_names (q ∷ ps) x le = ap (λ l. joined q.now (names l)) (take_all (length (q ∷ ps) - 1) ps (omega arith))

module _ (m : Inside) (v : PlainModExp) (stands : mod_of m ≡ v) where
  pub called_decs : (ds : _) → m.form ≡ held_form.Decs ds → codes "module" ≡ called_of v
  unfolding mod_layer
  called_decs ds is = called_as m v (held_form.Decs ds) stands is

  pub called_apply : (f : _) (ms : _) → m.form ≡ held_form.Apply f ms → codes "module" ≡ called_of v
  unfolding mod_layer
  called_apply f ms is = called_as m v (held_form.Apply f ms) stands is

  pub called_import : (x : _) → m.form ≡ held_form.Import x → codes "module" ≡ called_of v
  unfolding mod_layer
  called_import x is = called_as m v (held_form.Import x) stands is

  pub called_lambda : (x : _) (t : _) (u : _) (b : _) → m.form ≡ held_form.Lambda x t u b → codes "module" ≡ called_of v
  unfolding mod_layer
  called_lambda x t u b is = called_as m v (held_form.Lambda x t u b) stands is

  pub called_seal : (b : _) (t : _) → m.form ≡ held_form.Seal b t → codes "module" ≡ called_of v
  unfolding mod_layer
  called_seal b t is = called_as m v (held_form.Seal b t) stands is

  pub called_nothing : (p : Bor (List (Bor Text))) → m.form ≡ held_form.Path p → length p.now < 1 → codes "module" ≡ called_of v
  called_nothing p is le = no_names p.now le ∙ path_called m v stands p is

  pub called_some : (p : Bor (List (Bor Text))) (x : Bor Text) {E : Type 0} (r : Result (Bor Text) E) → m.form ≡ held_form.Path p → 1 ≤ length p.now
      → IfOk r (λ t. t.now ≡ joined (slice_index_or p.now 0 x).now (names (take (length p.now - 1) (drop 1 p.now)))) → IfOk r (λ t. t.now ≡ called_of v)
  called_some p x (Ok t) is le e = e ∙ some_names p.now x le ∙ path_called m v stands p is
  called_some p x (Err e) is le i = i

pub function_place : (m : Inside) (v : PlainModExp) → mod_of m ≡ v → m.place ≡ (out-ModExp v).place
function_place m v e = ap (λ x. (out-ModExp x).place) e

pub stopped : {R A : Type 0} {view : R → A} {step : Step A} {d d1 : Declaring} {e : Stop} → e ≡ stop.Memory → Does view step d d1 (Err e)
stopped {view = view} {step = step} {d = d} {d1 = d1} i = subst (λ z. Does view step d d1 (Err z)) (sym i) stops
