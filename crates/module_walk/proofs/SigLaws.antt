-- Module types, form by form.
use Rattle.std.proofs.Common.{◌≡◌, ℕ, List, [], ◌∷◌, map, Bool, true, false, Option, Some, None, Result, Ok, Err, refl, sym, ap, ◌∙◌, subst}
use Rattle.std.specs.Borrow.{Bor}
use Rattle.fut_scalar.specs.declared.place.Place.{Place}
use Rattle.fut_ast.specs.Sorts.{Text, Path}
use Rattle.fut_ast.specs.declared.node.Label.{Label as PlainLabel}
use Rattle.fut_ast.specs.declared.module.ModType.{ModType as PlainModType, out-ModType}
use Rattle.fut_ast.specs.declared.module.ModTypeForm.{ModTypeForm-F, out-ModTypeForm}
use Rattle.fut_ast.specs.declared.module.SpecForm.{SpecForm-F, out-SpecForm}
use Rattle.fut_ast.specs.declared.module.SpecForm.TheVariants as plain_spec
use Rattle.fut_tree.specs.declared.module.Label.{Label}
use Rattle.fut_tree.specs.declared.module.ModType.TheInside.{Inside}
use Rattle.fut_tree.specs.declared.module.ModTypeForm.{ModTypeForm}
use Rattle.fut_tree.specs.declared.module.ModTypeForm.TheVariants as held_form
use Rattle.fut_tree.specs.declared.module.Spec.{Spec}
use Rattle.fut_tree.specs.declared.module.SpecForm.{SpecForm}
use Rattle.fut_tree.specs.declared.module.SpecForm.TheVariants as held_spec
use Rattle.fut_tree.specs.Names.{names, maybe}
use Rattle.fut_tree.specs.Pats.{heads_of}
use Rattle.fut_tree.specs.ModTypes.{label_of, mtype_of, spec_form_of, specs_of, withs_of}
use Rattle.elab_scopes.specs.Names.{Refusal, SealMissing}
use Rattle.elab_scopes.specs.Scopes.{Module_ref, Member, Contents, module_member, module_in_module}
use Rattle.elab_scopes.specs.Resolve.{after}
use Rattle.elab_scopes.specs.Table.{modules_in}
use Rattle.elab_scopes.specs.Imports.{Source_file, item}
use Rattle.elab_scopes.specs.Declarations.{Given_type, Here, Meeting, hidden, shown, nothing, Signature, SpecLayer, State, Step, Walks, arrow_met, as_module, contents_of as contents_in_state, function_in, function_met, given_within, included, member_of_met, module_met, module_spec, refined_met, seeing, seen_later, sig_with, signature_met, spec_with, specs_with, type_spec, value_spec}
use Rattle.elab_scopes.specs.declared.meanings.ModuleRef.{ModuleRef}
use Rattle.elab_scopes.specs.declared.meanings.Member.{Member as HeldMember}
use Rattle.elab_scopes.specs.declared.modules.Contents.{Contents as HeldContents}
use Rattle.elab_scopes.specs.declared.refusal.Refusal.TheVariants as held
use Rattle.elab_scopes.specs.declared.refusal.Stop.{Stop}
use Rattle.elab_scopes.specs.declared.refusal.Stop.TheVariants as stop
use Rattle.elab_scopes.specs.Held.{module_ref_of}
use Rattle.elab_scopes.specs.Modules.{contents_of, modules_of}
use Rattle.module_state.specs.declared.state.Declaring.{Declaring}
use Rattle.module_state.specs.declared.state.Specified.{Specified}
use Rattle.module_state.specs.Standing.{Stands, Does, refuses, alone, specified_of}
use Rattle.module_state.specs.Steps.{contents_in, type_called_of}
use Rattle.module_state.proofs.Stands.{same_step, same_where}
use Rattle.module_state.proofs.TypeNamings.{out_type, type_layer}
use Rattle.module_members.specs.Steps.{Behind, include_step, more_specified}
use Rattle.module_members.proofs.Steps.{behind_makes, nested, then_made, where_is}
use Rattle.module_walk.specs.Steps.{arrow, function_of_met, inner_meeting, meeting_within, meets, path_met, spec_step, specs_behind, specs_met, with_met}
use Rattle.module_walk.proofs.Laws.{function_seen}

-- ---- by its form

module _ (fs : List Source_file) (R : Walks) (h : Here) (meeting : Meeting) {d d1 : Declaring} {r : Result HeldContents Stop} (t : Inside) (v : PlainModType) (stands : mtype_of t ≡ v) where
  by_type : (f : ModTypeForm) → t.form ≡ f → Does contents_of (sig_with fs R h meeting t.place (type_layer f)) d d1 r → Does contents_of (sig_with fs R h meeting (out-ModType v).place (out-ModTypeForm (out-ModType v).form)) d d1 r
  by_type f is w = subst (λ x. Does contents_of (sig_with fs R h meeting (out-ModType x).place (out-ModTypeForm (out-ModType x).form)) d d1 r) stands
      (subst (λ l. Does contents_of (sig_with fs R h meeting t.place l) d d1 r) (sym (out_type t.form)) (subst (λ g. Does contents_of (sig_with fs R h meeting t.place (type_layer g)) d d1 r) (sym is) w))

  pub path_goes : (p : _) → t.form ≡ held_form.Path p → Does contents_of (path_met fs R h meeting t.place (names p.now)) d d1 r → Does contents_of (sig_with fs R h meeting (out-ModType v).place (out-ModTypeForm (out-ModType v).form)) d d1 r
  unfolding type_layer
  path_goes p is w = by_type (held_form.Path p) is w

  pub specs_go : (ss : _) → t.form ≡ held_form.Specs ss → Does contents_of (specs_met fs R h meeting (specs_of ss.now)) d d1 r → Does contents_of (sig_with fs R h meeting (out-ModType v).place (out-ModTypeForm (out-ModType v).form)) d d1 r
  unfolding type_layer
  specs_go ss is w = by_type (held_form.Specs ss) is w

  pub with_goes : (u : _) (ws : _) → t.form ≡ held_form.With u ws → Does contents_of (with_met fs R h meeting u.now (withs_of ws.now)) d d1 r → Does contents_of (sig_with fs R h meeting (out-ModType v).place (out-ModTypeForm (out-ModType v).form)) d d1 r
  unfolding type_layer
  with_goes u ws is w = by_type (held_form.With u ws) is w

  pub arrow_goes : (x : _) (b : _) (u : _) → t.form ≡ held_form.Arrow x b u → Does contents_of (arrow fs R h meeting (label_of x) b.now u.now) d d1 r → Does contents_of (sig_with fs R h meeting (out-ModType v).place (out-ModTypeForm (out-ModType v).form)) d d1 r
  unfolding type_layer
  arrow_goes x b u is w = by_type (held_form.Arrow x b u) is w

-- ---- a module type by its number

pub signature_there : (fs : List Source_file) (R : Walks) (h : Here) (meeting : Meeting) (k : ℕ) (g : Signature) {d d1 : Declaring} {r : Result HeldContents Stop} → ((s : State) → Stands d s → Some g ≡ item s.signatures k) → Does contents_of (R.met (seeing g.names h) meeting g.tree) d d1 r → Does contents_of (λ s. signature_met fs R h meeting (item s.signatures k) s) d d1 r
signature_there fs R h meeting k g there w = same_where contents_of (R.met (seeing g.names h) meeting g.tree) (λ s. signature_met fs R h meeting (item s.signatures k) s) (λ s st. ap (λ o. signature_met fs R h meeting o s) (sym (there s st))) w

-- ---- members one after the other

unfoldable pub spec_layer : SpecForm → SpecLayer
spec_layer (held_spec.Value x heads t) = SpecForm-F.Value (label_of x) (heads_of heads.now) t.now
spec_layer (held_spec.TypeName x t) = SpecForm-F.TypeName (label_of x) (maybe t)
spec_layer (held_spec.Module x t) = SpecForm-F.Module (label_of x) t.now
spec_layer (held_spec.Include t) = SpecForm-F.Include t.now

out_spec : (f : SpecForm) → out-SpecForm (spec_form_of f) ≡ spec_layer f
unfolding spec_layer
out_spec (held_spec.Value x heads t) = plain_spec.outs-Value _ _ _
out_spec (held_spec.TypeName x t) = plain_spec.outs-TypeName _ _
out_spec (held_spec.Module x t) = plain_spec.outs-Module _ _
out_spec (held_spec.Include t) = plain_spec.outs-Include _

abbrev pub specs_left : List Source_file → Walks → Here → Meeting → List Spec → List Member × List Member → Step (List Member)
specs_left fs R h meeting ss b = specs_behind fs R h meeting (specs_of ss) b

abbrev pub one_spec : List Source_file → Walks → Here → Meeting → Spec → List Member × List Member → Step (List Member × List Member)
one_spec fs R h meeting sp b = spec_step fs R (seeing b.0 h) meeting (out-SpecForm (spec_form_of sp.form)) b

pub specs_more : (fs : List Source_file) (R : Walks) (h : Here) (meeting : Meeting) (sp : Spec) (ss : List Spec) (b : List Member × List Member) (s : State) → specs_left fs R h meeting (sp ∷ ss) b s ≡ after (one_spec fs R h meeting sp b s) (specs_left fs R h meeting ss)
unfolding specs_with
specs_more fs R h meeting sp ss b s = sym (then_made (spec_with fs R (seeing b.0 h) meeting (out-SpecForm (spec_form_of sp.form)) s) (λ ms. more_specified ms b) (specs_left fs R h meeting ss))

pub specs_none : (fs : List Source_file) (R : Walks) (h : Here) (meeting : Meeting) (b : List Member × List Member) (s : State) → specs_left fs R h meeting [] b s ≡ Ok (b.1, s)
unfolding specs_with
specs_none fs R h meeting b s = refl

module _ (fs : List Source_file) (R : Walks) (h : Here) (meeting : Meeting) (b : Specified) (f : SpecForm) where
  abbrev step_by : SpecLayer → Step (List Member × List Member)
  step_by l = spec_step fs R h meeting l (specified_of b)

  by_spec : {d d1 : Declaring} {r : Result Specified Stop} (g : SpecForm) → f ≡ g → Does specified_of (step_by (spec_layer g)) d d1 r → Does specified_of (step_by (out-SpecForm (spec_form_of f))) d d1 r
  by_spec {d} {d1} {r} g is w = subst (λ l. Does specified_of (step_by l) d d1 r) (sym (out_spec f)) (subst (λ z. Does specified_of (step_by (spec_layer z)) d d1 r) (sym is) w)

  pub value_goes : {d d1 : Declaring} {r : Result Specified Stop} (x : _) (heads : _) (t : _) {q : Result HeldMember Stop} → f ≡ held_spec.Value x heads t → Does alone (value_spec h meeting (label_of x) (heads_of heads.now) t.now) d d1 q → Behind alone specified_of (λ ms. more_specified ms (specified_of b)) q r → Does specified_of (step_by (out-SpecForm (spec_form_of f))) d d1 r
  unfolding spec_layer
  value_goes x heads t is w behind = by_spec (held_spec.Value x heads t) is (behind_makes alone specified_of (value_spec h meeting (label_of x) (heads_of heads.now) t.now) (λ ms. more_specified ms (specified_of b)) w behind)

  pub type_goes : {d d1 : Declaring} {r : Result Specified Stop} (x : _) (t : _) {q : Result HeldMember Stop} → f ≡ held_spec.TypeName x t → Does alone (type_spec h meeting (label_of x) (maybe t)) d d1 q → Behind alone specified_of (λ ms. more_specified ms (specified_of b)) q r → Does specified_of (step_by (out-SpecForm (spec_form_of f))) d d1 r
  unfolding spec_layer
  type_goes x t is w behind = by_spec (held_spec.TypeName x t) is (behind_makes alone specified_of (type_spec h meeting (label_of x) (maybe t)) (λ ms. more_specified ms (specified_of b)) w behind)

  pub module_goes : {d d1 : Declaring} {r : Result Specified Stop} (x : _) (t : _) {q : Result HeldMember Stop} → f ≡ held_spec.Module x t → Does alone (module_spec fs R h meeting (label_of x) t.now) d d1 q → Behind alone specified_of (λ ms. more_specified ms (specified_of b)) q r → Does specified_of (step_by (out-SpecForm (spec_form_of f))) d d1 r
  unfolding spec_layer
  module_goes x t is w behind = by_spec (held_spec.Module x t) is (behind_makes alone specified_of (module_spec fs R h meeting (label_of x) t.now) (λ ms. more_specified ms (specified_of b)) w behind)

  pub include_goes : {d d1 : Declaring} {r : Result Specified Stop} (t : _) → f ≡ held_spec.Include t → Does specified_of (λ s. after (R.met h meeting t.now s) (λ c. include_step t.now c (specified_of b))) d d1 r → Does specified_of (step_by (out-SpecForm (spec_form_of f))) d d1 r
  unfolding spec_layer
  include_goes t is w = by_spec (held_spec.Include t) is (same_step specified_of (λ s. after (R.met h meeting t.now s) (λ c. include_step t.now c (specified_of b))) (step_by (SpecForm-F.Include t.now))
      (λ s. nested (R.met h meeting t.now s) (included (out-ModType t.now).place (type_called_of t.now)) (λ ms s. Ok (more_specified ms (specified_of b), s))) w)

-- ---- a module that a module type asks for

spec_of_met : {A : Type 0} (x : PlainLabel) (o : Option A) (f : A → Meeting) (k : Meeting → Step (List Member)) (s : State) → member_of_met x o (λ n. k (f n)) s ≡ after (member_of_met x o (λ n s. Ok (f n, s)) s) k
unfolding after member_of_met
spec_of_met x None f k s = refl
spec_of_met x (Some n) f k s = refl

pub module_spec_is : (fs : List Source_file) (R : Walks) (h : Here) (meeting : Meeting) (x : PlainLabel) (t : PlainModType) (s : State) → module_spec fs R h meeting x t s ≡ after (meeting_within x meeting s) (λ inner. as_module x.name (module_met fs R h inner t))
unfolding after
module_spec_is fs R h nothing x t s = refl
module_spec_is fs R h (hidden m gs) x t s = spec_of_met x (module_in_module s.modules m x.name) (λ n. hidden n (given_within gs x.name)) (λ inner. as_module x.name (module_met fs R h inner t)) s
module_spec_is fs R h (shown m gs) x t s = spec_of_met x (module_in_module s.modules m x.name) (λ n. shown n (given_within gs x.name)) (λ inner. as_module x.name (module_met fs R h inner t)) s

pub module_spec_does : (fs : List Source_file) (R : Walks) (h : Here) (meeting : Meeting) (x : PlainLabel) (t : PlainModType) {d d1 : Declaring} {r : Result HeldMember Stop} → Does alone (λ s. after (meeting_within x meeting s) (λ inner. as_module x.name (module_met fs R h inner t))) d d1 r → Does alone (module_spec fs R h meeting x t) d d1 r
module_spec_does fs R h meeting x t w = same_step alone (λ s. after (meeting_within x meeting s) (λ inner. as_module x.name (module_met fs R h inner t))) (module_spec fs R h meeting x t) (module_spec_is fs R h meeting x t) w

-- ---- module types of parametric modules

module _ (fs : List Source_file) (R : Walks) (h : Here) (hides : Bool) (m : Module_ref) (x : Label) (t u : PlainModType) (p : Module_ref) {d : Declaring} (cs : List HeldContents) (same : modules_of cs ≡ modules_in d.names) (o : Option ℕ) (is : o ≡ function_in (contents_in (modules_of cs) m)) where
  pub function_goes : (k : ℕ) {d1 : Declaring} {r : Result HeldContents Stop} → o ≡ Some k → Does contents_of (function_met fs R h hides (label_of x) t u p k) d d1 r → Does contents_of (function_of_met fs R h hides m (label_of x) t u p) d d1 r
  unfolding member_of_met
  function_goes k e w = same_where contents_of (function_met fs R h hides (label_of x) t u p k) (function_of_met fs R h hides m (label_of x) t u p) (λ s st. ap (λ z. member_of_met (label_of x) z (function_met fs R h hides (label_of x) t u p) s) (function_seen m cs same o is s st ∙ e)) w

  pub no_function : {d1 : Declaring} → o ≡ None → Does contents_of (function_of_met fs R h hides m (label_of x) t u p) d d1 (Err (stop.Refused (held.SealMissing x.name x.place)))
  unfolding member_of_met
  no_function e = refuses (λ s st. ap (λ z. member_of_met (label_of x) z (function_met fs R h hides (label_of x) t u p) s) (function_seen m cs same o is s st ∙ e))
