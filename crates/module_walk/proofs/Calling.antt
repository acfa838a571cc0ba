-- What files declare.
use Rattle.std.proofs.Common.{◌≡◌, ℕ, List, [], ◌∷◌, map, reverse, Result, Ok, Err, refl, sym, ap, ◌∙◌, subst}
use Rattle.elab_scopes.specs.Scopes.{Module_ref, Member, members_of}
use Rattle.elab_scopes.specs.Imports.{Source_file}
use Rattle.elab_scopes.specs.Table.{locals_of, made_of, modules_in}
use Rattle.elab_scopes.specs.Declarations.{State, Step, Walks, at_first, declared_by, started, starting_with, walks}
use Rattle.elab_scopes.specs.declared.meanings.ModuleRef.{ModuleRef}
use Rattle.elab_scopes.specs.declared.modules.Contents.{Contents as HeldContents}
use Rattle.elab_scopes.specs.declared.refusal.Stop.{Stop}
use Rattle.elab_scopes.specs.declared.refusal.Stop.TheVariants as stop
use Rattle.elab_scopes.specs.Held.{module_ref_of}
use Rattle.elab_scopes.specs.Modules.{contents_of, modules_of}
use Rattle.module_state.specs.declared.state.Declaring.{Declaring}
use Rattle.module_state.specs.Standing.{Stands, Does, does, refuses, stops, definition_of, functor_of, loaded_of, signature_of}
use Rattle.module_state.specs.Steps.{contents_in}
use Rattle.module_members.proofs.Steps.{in_state}
use Rattle.module_walk.specs.declared.call.DeclaredFiles.{DeclaredFiles}
use Rattle.module_walk.specs.Told.{Files_declared, are_declared, are_refused, no_memory}
use Rattle.module_walk.specs.Steps.{both_files, second_file}

-- a step behind a change of the state
changed : {R A : Type 0} (view : R → A) (step : Step A) (f : State → State) {d d1 d2 : Declaring} {r : Result R Stop} → ((s : State) → Stands d s → Stands d1 (f s)) → Does view step d1 d2 r → Does view (λ s. step (f s)) d d2 r
changed view step f c (does g) = does (λ s st. g (f s) (c s st))
changed view step f c (refuses g) = refuses (λ s st. g (f s) (c s st))
changed view step f c stops = stops

pub starting : (ms : List Member) (d d1 : Declaring) → d1.start.now ≡ ms → d1.names ≡ d.names → d1.functors ≡ d.functors → d1.signatures ≡ d.signatures → d1.definitions ≡ d.definitions → d1.applications ≡ d.applications → d1.loaded ≡ d.loaded → (s : State) → Stands d s → Stands d1 (starting_with ms s)
starting ms d d1 now ns fs gs ds as' ls s st = record {
  made = ap made_of ns ∙ st.made;
  modules = ap modules_in ns ∙ st.modules;
  functors = ap (map functor_of) fs ∙ st.functors;
  signatures = ap (map signature_of) gs ∙ st.signatures;
  definitions = ap (λ v. map definition_of v.items) ds ∙ st.definitions;
  applications = as' ∙ st.applications;
  start = now;
  loaded = ap (λ l. reverse (map loaded_of l)) ls ∙ st.loaded;
  locals = ap locals_of ns ∙ st.locals;
}

pub starts : (R : Walks) (m : Module_ref) (cs : List HeldContents) (c : HeldContents) (ms : List Member) {d d1 d2 : Declaring} {r : Result ModuleRef Stop} → modules_of cs ≡ modules_in d.names → contents_of c ≡ contents_in (modules_of cs) m → ms ≡ members_of (contents_of c)
    → ((s : State) → Stands d s → Stands d1 (starting_with ms s)) → Does module_ref_of (R.file_of 1) d1 d2 r → Does module_ref_of (second_file R m) d d2 r
starts R m cs c ms {d1 = d1} same is e start w = changed module_ref_of (R.file_of 1) (λ s. started s m) (λ s st.
    subst (λ l. Stands d1 (starting_with l s)) (e ∙ ap members_of (is ∙ ap (λ z. contents_in z m) (same ∙ st.modules) ∙ sym (in_state s m))) (start s st)) w

-- ---- the whole

pub nothing_yet : (d : Declaring) → made_of d.names ≡ [] → modules_in d.names ≡ [] → locals_of d.names ≡ [] → d.functors ≡ [] → d.signatures ≡ [] → d.definitions.items ≡ [] → d.applications ≡ 0 → d.start.now ≡ [] → d.loaded ≡ [] → Stands d at_first
nothing_yet d mk ms lc fs gs ds as' ss ls = record {
  made = mk;
  modules = ms;
  functors = ap (map functor_of) fs;
  signatures = ap (map signature_of) gs;
  definitions = ap (map definition_of) ds;
  applications = as';
  start = ss;
  loaded = ap (λ l. reverse (map loaded_of l)) ls;
  locals = lc;
}

module _ (fs : List Source_file) (depth : ℕ) (d d1 : Declaring) (first : Stands d at_first) where
  pub declares : (m : ModuleRef) → Does module_ref_of (both_files (walks fs depth)) d d1 (Ok m) → Files_declared fs (Ok (record { made = m; state = d1 }))
  unfolding declared_by
  declares m (does f) = let a = f at_first first in are_declared depth a.state a.is a.stands

  pub refuses_all : (e : Stop) → Does module_ref_of (both_files (walks fs depth)) d d1 (Err e) → Files_declared fs (Err e)
  unfolding declared_by
  refuses_all _ (refuses f) = are_refused depth (f at_first first)
  refuses_all _ stops = no_memory

pub no_memory_is_left : (fs : List Source_file) → Files_declared fs (Err stop.Memory)
no_memory_is_left fs = no_memory
