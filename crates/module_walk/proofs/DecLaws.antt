-- Declarations, form by form.
use Rattle.std.proofs.Common.{◌≡◌, ℕ, ◌<◌, ◌≤◌, ◌&&◌, List, [], ◌∷◌, length, not, is_some, Bool, true, false, Option, Some, None, Result, Ok, Err, refl, sym, ap, ◌∙◌, subst, arith}
use Rattle.fut_scalar.specs.declared.place.Place.{Place}
use Rattle.fut_ast.specs.Sorts.{Text}
use Rattle.fut_ast.specs.declared.node.Label.{Label as PlainLabel}
use Rattle.fut_ast.specs.declared.pat.Head.{Head}
use Rattle.fut_ast.specs.declared.module.DecForm.{DecForm-F, out-DecForm}
use Rattle.fut_ast.specs.declared.module.DecForm.TheVariants as plain_dec
use Rattle.fut_ast.specs.declared.module.ModExp.{ModExp as PlainModExp}
use Rattle.fut_ast.specs.declared.module.ModType.{ModType as PlainModType}
use Rattle.fut_ast.specs.declared.module.Param.{Param as PlainParam}
use Rattle.fut_flat.specs.declared.prim.Ref.{Ref}
use Rattle.fut_flat.specs.Sources.{SourceTerm, source_type}
use Rattle.fut_tree.specs.declared.module.Label.{Label}
use Rattle.fut_tree.specs.declared.module.Dec.{Dec}
use Rattle.fut_tree.specs.declared.module.DecForm.{DecForm}
use Rattle.fut_tree.specs.declared.module.DecForm.TheVariants as held_dec
use Rattle.fut_tree.specs.declared.module.Param.{Param}
use Rattle.fut_tree.specs.Names.{all, maybe}
use Rattle.fut_tree.specs.Pats.{heads_of}
use Rattle.fut_tree.specs.ModTypes.{label_of, params_of}
use Rattle.fut_tree.specs.Mods.{dec_form_of, decs_of}
use Rattle.elab_scopes.specs.Names.{Refusal, Twice}
use Rattle.elab_scopes.specs.Scopes.{Module_ref, Member, value_among, type_among, module_among, signature_among, module_member, signature_member}
use Rattle.elab_scopes.specs.Resolve.{after}
use Rattle.elab_scopes.specs.Programs.{DecLayer, definition_term}
use Rattle.elab_scopes.specs.Imports.{Source_file}
use Rattle.elab_scopes.specs.Declarations.{Block, Here, Signature, State, Step, Walks, as_module, bare, brought, dec_with, declares, decs_with, may_begin, module_with, nothing, once, seeing, signature_with, type_term}
use Rattle.elab_scopes.specs.declared.meanings.Member.{Member as HeldMember}
use Rattle.elab_scopes.specs.declared.meanings.ModuleRef.{ModuleRef}
use Rattle.elab_scopes.specs.declared.refusal.Refusal.TheVariants as held
use Rattle.elab_scopes.specs.declared.refusal.Stop.{Stop}
use Rattle.elab_scopes.specs.declared.refusal.Stop.TheVariants as stop
use Rattle.elab_scopes.specs.Held.{module_ref_of}
use Rattle.module_state.specs.declared.state.Block.{Block as HeldBlock}
use Rattle.module_state.specs.declared.state.Declaring.{Declaring}
use Rattle.module_state.specs.Standing.{Does, refuses, alone, block_of}
use Rattle.module_state.specs.Steps.{new_signature, with_parameters}
use Rattle.module_state.proofs.Stands.{same_step}
use Rattle.module_members.specs.Steps.{Behind}
use Rattle.module_members.proofs.Steps.{behind_makes, nested, then_made, where_is}
use Rattle.module_walk.specs.Steps.{open_import, open_module, signature_declared, type_declared, value_declared}

-- ---- a name may be declared once

once_is : {A : Type 0} (t : Bool) (x : PlainLabel) (o : Option A) (k : Step Block) → (not t && is_some o) ≡ false → (s : State) → once t x o k s ≡ k s
unfolding once
once_is true x o k e s = refl
once_is false x None k e s = refl
once_is false x (Some a) k e s = absurd (let z : true ≡ false = e in cc)

twice_is : {A : Type 0} (t : Bool) (x : PlainLabel) (o : Option A) (k : Step Block) → (not t && is_some o) ≡ true → (s : State) → once t x o k s ≡ Err (Twice x.name x.place)
unfolding once
twice_is true x o k e s = absurd (let z : false ≡ true = e in cc)
twice_is false x None k e s = absurd (let z : false ≡ true = e in cc)
twice_is false x (Some a) k e s = refl

module _ {A : Type 0} (t : Bool) (x : Label) (o : Option A) (k : Step Block) {d d1 : Declaring} (again : Bool) (is : again ≡ (not t && is_some o)) where
  pub once_new : {r : Result HeldBlock Stop} → again ≡ false → Does block_of k d d1 r → Does block_of (once t (label_of x) o k) d d1 r
  once_new e w = same_step block_of k (once t (label_of x) o k) (once_is t (label_of x) o k (sym is ∙ e)) w

  pub once_again : (e : Stop) → again ≡ true → e ≡ stop.Refused (held.Twice x.name x.place) → Does block_of (once t (label_of x) o k) d d1 (Err e)
  once_again e i told = subst (λ z. Does block_of (once t (label_of x) o k) d d1 (Err z)) (sym told) (refuses (λ s st. twice_is t (label_of x) o k (sym is ∙ i) s))

-- ---- what a declaration brings

module _ (is_local : Bool) (b : HeldBlock) (x : Text) where
  pub members_brought : (step : Step (List Member)) {d d1 : Declaring} {r : Result HeldBlock Stop} {q : Result HeldMember Stop} → Does alone step d d1 q → Behind alone block_of (λ ms. brought is_local ms ms (block_of b)) q r → Does block_of (declares is_local (block_of b) step) d d1 r
  members_brought step w behind = behind_makes alone block_of step (λ ms. brought is_local ms ms (block_of b)) w behind

  abbrev module_brings : Module_ref → Block
  module_brings m = brought is_local (module_member x m ∷ []) (module_member x m ∷ []) (block_of b)

  pub module_brought : (step : Step Module_ref) {d d1 : Declaring} {r : Result HeldBlock Stop} {q : Result ModuleRef Stop} → Does module_ref_of step d d1 q → Behind module_ref_of block_of module_brings q r → Does block_of (declares is_local (block_of b) (as_module x step)) d d1 r
  module_brought step w behind = same_step block_of (λ s. after (step s) (λ m s. Ok (module_brings m, s))) (declares is_local (block_of b) (as_module x step))
      (λ s. then_made (step s) (λ m. module_member x m ∷ []) (λ ms s. Ok (brought is_local ms ms (block_of b), s))) (behind_makes module_ref_of block_of step module_brings w behind)

  abbrev signature_brings : ℕ → Block
  signature_brings k = brought is_local (signature_member x k ∷ []) (signature_member x k ∷ []) (block_of b)

  signature_is : (fs : List Source_file) (R : Walks) (h : Here) (t : PlainModType) (s : State) → declares is_local (block_of b) (signature_with fs R h x t) s ≡ after (signature_declared fs R h t s) (λ k s. Ok (signature_brings k, s))
  unfolding after
  signature_is fs R h t s = nested (R.met (bare h) nothing t s) _ _ ∙ by_number ∙ sym (nested (R.met (bare h) nothing t s) _ _)
    where
      by_number : after (R.met (bare h) nothing t s) (λ c s. after (after (new_signature (record { tree = t; names = h.names }) s) (λ k s. Ok (signature_member x k ∷ [], s))) (λ ms s. Ok (brought is_local ms ms (block_of b), s))) ≡ after (R.met (bare h) nothing t s) (λ c s. after (new_signature (record { tree = t; names = h.names }) s) (λ k s. Ok (signature_brings k, s)))
      by_number = ap (after (R.met (bare h) nothing t s)) (λ i c s. then_made (new_signature (record { tree = t; names = h.names }) s) (λ k. signature_member x k ∷ []) (λ ms s. Ok (brought is_local ms ms (block_of b), s)) i)

  pub signature_brought : (fs : List Source_file) (R : Walks) (h : Here) (t : PlainModType) {d d1 : Declaring} {r : Result HeldBlock Stop} {q : Result ℕ Stop} → Does (λ (k : ℕ). k) (signature_declared fs R h t) d d1 q → Behind (λ (k : ℕ). k) block_of signature_brings q r → Does block_of (declares is_local (block_of b) (signature_with fs R h x t)) d d1 r
  signature_brought fs R h t w behind = same_step block_of (λ s. after (signature_declared fs R h t s) (λ k s. Ok (signature_brings k, s))) (declares is_local (block_of b) (signature_with fs R h x t)) (signature_is fs R h t)
      (behind_makes (λ (k : ℕ). k) block_of (signature_declared fs R h t) signature_brings w behind)

-- ---- by its form

unfoldable pub dec_layer : DecForm → DecLayer
dec_layer (held_dec.Def is_entry x heads ps t e) = DecForm-F.Def is_entry (label_of x) (heads_of heads.now) (all ps.now) (maybe t) e.now
dec_layer (held_dec.TypeName x heads t) = DecForm-F.TypeName (label_of x) (heads_of heads.now) t.now
dec_layer (held_dec.Module x ps t m) = DecForm-F.Module (label_of x) (params_of ps.now) (maybe t) m.now
dec_layer (held_dec.ModType x t) = DecForm-F.ModType (label_of x) t.now
dec_layer (held_dec.Open m) = DecForm-F.Open m.now
dec_layer (held_dec.Import file) = DecForm-F.«DecForm::Import» file.now

out_dec : (f : DecForm) → out-DecForm (dec_form_of f) ≡ dec_layer f
unfolding dec_layer
out_dec (held_dec.Def is_entry x heads ps t e) = plain_dec.outs-Def _ _ _ _ _ _
out_dec (held_dec.TypeName x heads t) = plain_dec.outs-TypeName _ _ _
out_dec (held_dec.Module x ps t m) = plain_dec.outs-Module _ _ _ _
out_dec (held_dec.ModType x t) = plain_dec.outs-ModType _ _
out_dec (held_dec.Open m) = plain_dec.outs-Open _
out_dec (held_dec.Import file) = plain_dec.outs-Import _

module _ (fs : List Source_file) (R : Walks) (h : Here) (is_top is_local : Bool) (at : Place) (b : Block) (f : DecForm) where
  abbrev dec_by : DecLayer → Step Block
  dec_by l = dec_with fs R h is_top is_local at l b

  by_dec : {d d1 : Declaring} {r : Result HeldBlock Stop} (g : DecForm) → f ≡ g → Does block_of (dec_by (dec_layer g)) d d1 r → Does block_of (dec_by (out-DecForm (dec_form_of f))) d d1 r
  by_dec {d} {d1} {r} g is w = subst (λ l. Does block_of (dec_by l) d d1 r) (sym (out_dec f)) (subst (λ z. Does block_of (dec_by (dec_layer z)) d d1 r) (sym is) w)

  pub def_goes : {d d1 : Declaring} {r : Result HeldBlock Stop} (is_entry : Bool) (x : _) (heads : _) (ps : _) (t : _) (e : _) (begins : Bool) → f ≡ held_dec.Def is_entry x heads ps t e → begins ≡ may_begin is_top is_entry x.name.now → Does block_of (value_declared h is_local begins (label_of x) (heads_of heads.now) (definition_term (all ps.now) (maybe t) e.now) b) d d1 r → Does block_of (dec_by (out-DecForm (dec_form_of f))) d d1 r
  unfolding dec_layer
  def_goes is_entry x heads ps t e begins is same w = by_dec (held_dec.Def is_entry x heads ps t e) is (where_is block_of (λ z. value_declared h is_local z (label_of x) (heads_of heads.now) (definition_term (all ps.now) (maybe t) e.now) b) same w)

  pub type_goes : {d d1 : Declaring} {r : Result HeldBlock Stop} (x : _) (heads : _) (t : _) → f ≡ held_dec.TypeName x heads t → Does block_of (type_declared h is_local (label_of x) (heads_of heads.now) (type_term x.place (source_type t.now)) b) d d1 r → Does block_of (dec_by (out-DecForm (dec_form_of f))) d d1 r
  unfolding dec_layer
  type_goes x heads t is w = by_dec (held_dec.TypeName x heads t) is w

  pub module_goes : {d d1 : Declaring} {r : Result HeldBlock Stop} (x : _) (ps : _) (t : _) (m : _) → f ≡ held_dec.Module x ps t m → Does block_of (once is_local (label_of x) (module_among b.own x.name.now) (declares is_local b (as_module x.name.now (module_with fs R h at (params_of ps.now) (maybe t) m.now)))) d d1 r → Does block_of (dec_by (out-DecForm (dec_form_of f))) d d1 r
  unfolding dec_layer
  module_goes x ps t m is w = by_dec (held_dec.Module x ps t m) is w

  pub signature_goes : {d d1 : Declaring} {r : Result HeldBlock Stop} (x : _) (t : _) → f ≡ held_dec.ModType x t → Does block_of (once is_local (label_of x) (signature_among b.own x.name.now) (declares is_local b (signature_with fs R h x.name.now t.now))) d d1 r → Does block_of (dec_by (out-DecForm (dec_form_of f))) d d1 r
  unfolding dec_layer
  signature_goes x t is w = by_dec (held_dec.ModType x t) is w

  pub open_goes : {d d1 : Declaring} {r : Result HeldBlock Stop} (m : _) → f ≡ held_dec.Open m → Does block_of (open_module fs R h is_local m.now b) d d1 r → Does block_of (dec_by (out-DecForm (dec_form_of f))) d d1 r
  unfolding dec_layer
  open_goes m is w = by_dec (held_dec.Open m) is w

  pub import_goes : {d d1 : Declaring} {r : Result HeldBlock Stop} (x : _) → f ≡ held_dec.Import x → Does block_of (open_import fs R h at x.now b) d d1 r → Does block_of (dec_by (out-DecForm (dec_form_of f))) d d1 r
  unfolding dec_layer
  import_goes x is w = by_dec (held_dec.Import x) is w

-- ---- declarations one after the other

abbrev pub decs_left : List Source_file → Walks → Here → Bool → List Dec → Block → Step Block
decs_left fs R h is_top ds b = decs_with fs R h is_top (decs_of ds) b

abbrev pub one_dec : List Source_file → Walks → Here → Bool → Dec → Block → Step Block
one_dec fs R h is_top x b = dec_with fs R (seeing b.names h) is_top x.local x.place (out-DecForm (dec_form_of x.form)) b

pub decs_more : (fs : List Source_file) (R : Walks) (h : Here) (is_top : Bool) (x : Dec) (ds : List Dec) (b : Block) (s : State) → decs_left fs R h is_top (x ∷ ds) b s ≡ after (one_dec fs R h is_top x b s) (decs_left fs R h is_top ds)
unfolding decs_with
decs_more fs R h is_top x ds b s = refl

pub decs_none : (fs : List Source_file) (R : Walks) (h : Here) (is_top : Bool) (b : Block) (s : State) → decs_left fs R h is_top [] b s ≡ Ok (b, s)
unfolding decs_with
decs_none fs R h is_top b s = refl

-- ---- parameters

pub no_params : (ps : List Param) → length ps < 1 → params_of ps ≡ []
no_params [] lt = refl
no_params (p ∷ ps) lt = absurd (omega (arith, lt))

module _ (fs : List Source_file) (R : Walks) (h : Here) (at : Place) (t : Option PlainModType) (m : PlainModExp) where
  behind_params : (ps : List Param) → 1 ≤ length ps → (s : State) → module_with fs R h at (params_of ps) t m s ≡ R.module_of h (with_parameters at (params_of ps) t m) s
  behind_params [] le s = absurd (omega (arith, le))
  behind_params (p ∷ ps) le s = refl

  pub params_go : (ps : List Param) (g : PlainModExp) {d d1 : Declaring} {r : Result ModuleRef Stop} → 1 ≤ length ps → g ≡ with_parameters at (params_of ps) t m → Does module_ref_of (R.module_of h g) d d1 r → Does module_ref_of (module_with fs R h at (params_of ps) t m) d d1 r
  params_go ps g le is w = same_step module_ref_of (R.module_of h (with_parameters at (params_of ps) t m)) (module_with fs R h at (params_of ps) t m) (behind_params ps le) (where_is module_ref_of (R.module_of h) is w)
