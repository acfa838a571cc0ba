-- What paths and numbers of modules stand for.
use Rattle.std.proofs.Common.{◌≡◌, ℕ, zero, suc, ◌-◌, ◌<◌, ◌≤◌, List, [], ◌∷◌, map, length, take, drop, slice_index_or, Some, None, Result, Ok, Err, refl, sym, ap, ◌∙◌, subst, arith}
use Rattle.std.specs.Borrow.{Bor}
use Rattle.std.proofs.lemmas.List.{take_all}
use Rattle.fut_tree.specs.Names.{names}
use Rattle.fut_scalar.specs.declared.place.Place.{Place}
use Rattle.fut_ast.specs.Sorts.{Text, Path}
use Rattle.elab_scopes.specs.Names.{Unbound}
use Rattle.elab_scopes.specs.Imports.{item}
use Rattle.elab_scopes.specs.Scopes.{module_at, signature_at}
use Rattle.elab_scopes.specs.Declarations.{Here, State, from}
use Rattle.elab_scopes.specs.declared.refusal.Refusal.{Refusal as HeldRefusal}
use Rattle.elab_scopes.specs.declared.refusal.Refusal.TheVariants as held
use Rattle.elab_scopes.specs.declared.refusal.Stop.TheVariants as stop
use Rattle.elab_scopes.specs.declared.meanings.ModuleRef.{ModuleRef}
use Rattle.elab_scopes.specs.declared.modules.Contents.{Contents as HeldContents}
use Rattle.elab_scopes.specs.Answers.{viewed}
use Rattle.elab_scopes.specs.Held.{module_ref_of}
use Rattle.elab_scopes.specs.Modules.{modules_of, world}
use Rattle.elab_scopes.specs.Table.{modules_in}
use Rattle.module_state.specs.declared.state.Declaring.{Declaring}
use Rattle.module_state.specs.declared.state.Functor.{Functor as HeldFunctor}
use Rattle.module_state.specs.declared.state.Signature.{Signature as HeldSignature}
use Rattle.module_state.specs.Standing.{functor_of, signature_of, Stands, Does, does, refuses}
use Rattle.module_state.specs.Steps.{named_signature, path_module}

-- ---- paths

module _ (x : Text) (xs : Path) (h : Here) (at : Place) (d : Declaring) (r : Result ModuleRef HeldRefusal) (is : viewed module_ref_of r ≡ module_at (record { names = h.names; modules = modules_in d.names }) at x xs) where
  asked_of : (s : State) → Stands d s → path_module h at (x ∷ xs) s ≡ from (viewed module_ref_of r) s
  asked_of s st = ap (λ cs. from (module_at (record { names = h.names; modules = cs }) at x xs) s) (sym st.modules) ∙ ap (λ q. from q s) (sym is)

  path_found : (m : ModuleRef) → r ≡ Ok m → Does module_ref_of (path_module h at (x ∷ xs)) d d (Ok m)
  path_found m ok = does (λ s st. record { state = s; is = asked_of s st ∙ ap (λ q. from (viewed module_ref_of q) s) ok; stands = st })

  path_refused : (e : HeldRefusal) → r ≡ Err e → Does module_ref_of (path_module h at (x ∷ xs)) d d (Err (stop.Refused e))
  path_refused e err = refuses (λ s st. asked_of s st ∙ ap (λ q. from (viewed module_ref_of q) s) err)

pub path_split : (ps : List (Bor Text)) (b : Bor Text) → 1 ≤ length ps → names ps ≡ (slice_index_or ps 0 b).now ∷ names (take (length ps - 1) (drop 1 ps))
path_split [] b le = absurd (omega (arith, le))
path_split (p ∷ ps) b le = ap (λ l. p.now ∷ names l) (sym (take_all (length (p ∷ ps) - 1) ps (omega arith)))

module _ (ps : List (Bor Text)) (b : Bor Text) (h : Here) (at : Place) (d : Declaring) (r : Result ModuleRef HeldRefusal) (le : 1 ≤ length ps) (cs : List HeldContents) (same : modules_of cs ≡ modules_in d.names) (is : viewed module_ref_of r ≡ module_at (world h.names cs) at (slice_index_or ps 0 b).now (names (take (length ps - 1) (drop 1 ps)))) where
  here_asked : viewed module_ref_of r ≡ module_at (record { names = h.names; modules = modules_in d.names }) at (slice_index_or ps 0 b).now (names (take (length ps - 1) (drop 1 ps)))
  here_asked = is ∙ ap (λ z. module_at (record { names = h.names; modules = z }) at (slice_index_or ps 0 b).now (names (take (length ps - 1) (drop 1 ps)))) same

  pub path_went : (m : ModuleRef) → r ≡ Ok m → Does module_ref_of (path_module h at (names ps)) d d (Ok m)
  path_went m ok = subst (λ l. Does module_ref_of (path_module h at l) d d (Ok m)) (sym (path_split ps b le)) (path_found _ _ h at d r here_asked m ok)

  pub path_stopped : (e : HeldRefusal) → r ≡ Err e → Does module_ref_of (path_module h at (names ps)) d d (Err (stop.Refused e))
  path_stopped e err = subst (λ l. Does module_ref_of (path_module h at l) d d (Err (stop.Refused e))) (sym (path_split ps b le)) (path_refused _ _ h at d r here_asked e err)

pub path_empty : (ps : List (Bor Text)) (h : Here) (at : Place) (d d1 : Declaring) (x : Bor Text) → length ps < 1 → x.now ≡ [] → Does module_ref_of (path_module h at (names ps)) d d1 (Err (stop.Refused (held.Unbound x at)))
path_empty [] h at d d1 x le e = refuses (λ s st. ap (λ y. Err (Unbound y at)) (sym e))
path_empty (p ∷ ps) h at d d1 x le e = absurd (omega (arith, le))

-- ---- parametric modules by their numbers

in_row : {A B : Type 0} (f : A → B) (xs : List A) (j : ℕ) (e : A) → j < length xs → Some (f (slice_index_or xs j e)) ≡ item (map f xs) j
unfolding item
in_row f [] j e lt = absurd (omega (arith, lt))
in_row f (x ∷ xs) zero e lt = refl
in_row f (x ∷ xs) (suc j) e lt = in_row f xs j e (omega (arith, lt))

past_row : {A B : Type 0} (f : A → B) (xs : List A) (j : ℕ) → length xs ≤ j → None ≡ item (map f xs) j
unfolding item
past_row f [] j le = refl
past_row f (x ∷ xs) zero le = absurd (omega (arith, le))
past_row f (x ∷ xs) (suc j) le = past_row f xs j (omega (arith, le))

pub functor_there : (d : Declaring) (j : ℕ) (e : HeldFunctor) → j < length d.functors → (s : State) → Stands d s → Some (functor_of (slice_index_or d.functors j e)) ≡ item s.functors j
functor_there d j e lt s st = in_row functor_of d.functors j e lt ∙ ap (λ fs. item fs j) st.functors

pub functor_past : (d : Declaring) (j : ℕ) → length d.functors ≤ j → (s : State) → Stands d s → None ≡ item s.functors j
functor_past d j le s st = past_row functor_of d.functors j le ∙ ap (λ fs. item fs j) st.functors

pub ruleset functors = (functor_there, functor_past)

-- ---- module types by their numbers

pub signature_there : (d : Declaring) (j : ℕ) (e : HeldSignature) → j < length d.signatures → (s : State) → Stands d s → Some (signature_of (slice_index_or d.signatures j e)) ≡ item s.signatures j
signature_there d j e lt s st = in_row signature_of d.signatures j e lt ∙ ap (λ gs. item gs j) st.signatures

pub signature_past : (d : Declaring) (j : ℕ) → length d.signatures ≤ j → (s : State) → Stands d s → None ≡ item s.signatures j
signature_past d j le s st = past_row signature_of d.signatures j le ∙ ap (λ gs. item gs j) st.signatures

pub ruleset signatures = (signature_there, signature_past)

module _ (p : Path) (h : Here) (at : Place) (d : Declaring) (r : Result ℕ HeldRefusal) (cs : List HeldContents) (same : modules_of cs ≡ modules_in d.names) (is : viewed (λ (k : ℕ). k) r ≡ signature_at (world h.names cs) at p) where
  signature_asked : (s : State) → Stands d s → named_signature h at p s ≡ from (viewed (λ (k : ℕ). k) r) s
  signature_asked s st = ap (λ ms. from (signature_at (record { names = h.names; modules = ms }) at p) s) (sym st.modules) ∙ ap (λ q. from q s) (sym (is ∙ ap (λ z. signature_at (record { names = h.names; modules = z }) at p) same))

  pub signature_went : (k : ℕ) → r ≡ Ok k → Does (λ (k : ℕ). k) (named_signature h at p) d d (Ok k)
  signature_went k ok = does (λ s st. record { state = s; is = signature_asked s st ∙ ap (λ q. from (viewed (λ (k : ℕ). k) q) s) ok; stands = st })

  pub signature_stopped : (e : HeldRefusal) → r ≡ Err e → Does (λ (k : ℕ). k) (named_signature h at p) d d (Err (stop.Refused e))
  signature_stopped e err = refuses (λ s st. signature_asked s st ∙ ap (λ q. from (viewed (λ (k : ℕ). k) q) s) err)
