-- One step after another, and what is added to what is held.
use Rattle.std.proofs.Common.{◌≡◌, ℕ, [], ◌∷◌, ◌++◌, map, reverse, length, Result, Ok, Err, sym, ap, ◌∙◌, refl, subst}
use Rattle.std.proofs.lemmas.List.{map-append, length-map}
use Rattle.elab_scopes.specs.Scopes.{parametric, made_module}
use Rattle.elab_scopes.specs.Resolve.{after}
use Rattle.elab_scopes.specs.declared.table.Names.{Names}
use Rattle.elab_scopes.specs.Table.{locals_of, made_of, modules_in}
use Rattle.elab_scopes.specs.Declarations.{State, Step, with_module, new_module, with_functor, new_functor, with_signature}
use Rattle.elab_scopes.specs.declared.refusal.Stop.{Stop}
use Rattle.elab_scopes.specs.declared.refusal.Stop.TheVariants as stop
use Rattle.elab_scopes.specs.declared.modules.Contents.{Contents as HeldContents}
use Rattle.elab_scopes.specs.declared.modules.Contents.TheVariants as held_contents
use Rattle.elab_scopes.specs.declared.meanings.ModuleRef.TheVariants as held_module
use Rattle.elab_scopes.specs.Held.{module_ref_of}
use Rattle.elab_scopes.specs.Modules.{contents_of}
use Rattle.module_state.specs.declared.state.Functor.{Functor as HeldFunctor}
use Rattle.module_state.specs.declared.state.Signature.{Signature as HeldSignature}
use Rattle.module_state.specs.declared.state.Declaring.{Declaring}
use Rattle.module_state.specs.Standing.{functor_of, signature_of, definition_of, loaded_of, Stands, Does, does, refuses, stops}
use Rattle.module_state.specs.Steps.{new_signature}

-- ---- one step after another

pub then_does : {R A Q B : Type 0} (view : R → A) (show : Q → B) (step : Step A) (k : A → Step B) {d d1 d2 : Declaring} {x : R} {r : Result Q Stop} → Does view step d d1 (Ok x) → Does show (k (view x)) d1 d2 r → Does show (λ s. after (step s) k) d d2 r
unfolding after
then_does view show step k {d} {d1} {d2} {x} (does f) (does {x = y} g) = does (λ s st.
    let a = f s st in
    let b = g a.state a.stands in
    record { state = b.state; is = ap (λ r. after r k) a.is ∙ b.is; stands = b.stands })
then_does view show step k {d} {d1} {d2} {x} (does f) (refuses g) = refuses (λ s st.
    let a = f s st in
    ap (λ r. after r k) a.is ∙ g a.state a.stands)
then_does view show step k h stops = stops

pub first_stops : {R A Q B : Type 0} (view : R → A) (show : Q → B) (step : Step A) (k : A → Step B) {d d1 d2 : Declaring} {e : Stop} → Does view step d d1 (Err e) → Does show (λ s. after (step s) k) d d2 (Err e)
unfolding after
first_stops view show step k (refuses f) = refuses (λ s st. ap (λ r. after r k) (f s st))
first_stops view show step k stops = stops

-- the same step in other words
pub same_step : {R A : Type 0} (view : R → A) (f g : Step A) {d d1 : Declaring} {r : Result R Stop} → ((s : State) → g s ≡ f s) → Does view f d d1 r → Does view g d d1 r
same_step view f g e (does h) = does (λ s st. let a = h s st in record { state = a.state; is = e s ∙ a.is; stands = a.stands })
same_step view f g e (refuses h) = refuses (λ s st. e s ∙ h s st)
same_step view f g e stops = stops

-- the same of what stands for what is held
pub same_where : {R A : Type 0} (view : R → A) (f g : Step A) {d d1 : Declaring} {r : Result R Stop} → ((s : State) → Stands d s → g s ≡ f s) → Does view f d d1 r → Does view g d d1 r
same_where view f g e (does h) = does (λ s st. let a = h s st in record { state = a.state; is = e s st ∙ a.is; stands = a.stands })
same_where view f g e (refuses h) = refuses (λ s st. e s st ∙ h s st)
same_where view f g e stops = stops

-- what a step gives is made into something else
pub makes : {R A Q B : Type 0} (view : R → A) (show : Q → B) (step : Step A) (f : A → B) {d d1 : Declaring} {x : R} (y : Q) → show y ≡ f (view x) → Does view step d d1 (Ok x) → Does show (λ s. after (step s) (λ a s. Ok (f a, s))) d d1 (Ok y)
unfolding after
makes view show step f y e (does h) = does (λ s st. let a = h s st in record { state = a.state; is = ap (λ r. after r (λ a s. Ok (f a, s))) a.is ∙ (λ i. Ok (sym e i, a.state)); stands = a.stands })

-- the same answer in other words
pub told : {R A : Type 0} (view : R → A) (f : Step A) {d d1 : Declaring} {q r : Result R Stop} → q ≡ r → Does view f d d1 q → Does view f d d1 r
told view f {d} {d1} e w = subst (λ x. Does view f d d1 x) e w

-- what needs no step
pub at_once : {R A : Type 0} (view : R → A) (x : R) (d : Declaring) → Does view (λ s. Ok (view x, s)) d d (Ok x)
at_once view x d = does (λ s st. record { state = s; is = refl; stands = st })

-- ---- what is added

pub module_added : (c : HeldContents) (d d1 : Declaring) (ns : Names) (k : ℕ) → k ≡ length (modules_in d.names) → modules_in ns ≡ modules_in d.names ++ contents_of c ∷ [] → made_of ns ≡ made_of d.names → locals_of ns ≡ locals_of d.names → d1.names ≡ ns
    → d1.functors ≡ d.functors → d1.signatures ≡ d.signatures → d1.definitions ≡ d.definitions → d1.applications ≡ d.applications → d1.start ≡ d.start → d1.loaded ≡ d.loaded
    → Does module_ref_of (new_module (contents_of c)) d d1 (Ok (held_module.Made k))
module_added c d d1 ns k number more mk lc is fs gs ds as' ss ls = does (λ s st. record {
  state = with_module (contents_of c) s;
  is = ap (λ n. Ok (made_module n, with_module (contents_of c) s)) (sym (number ∙ ap length st.modules));
  stands = record { made = ap made_of is ∙ mk ∙ st.made; modules = ap modules_in is ∙ more ∙ ap (λ ms. ms ++ contents_of c ∷ []) st.modules; functors = ap (map functor_of) fs ∙ st.functors; signatures = ap (map signature_of) gs ∙ st.signatures; definitions = ap (λ v. map definition_of v.items) ds ∙ st.definitions; applications = as' ∙ st.applications; start = ap (λ b. b.now) ss ∙ st.start; loaded = ap (λ l. reverse (map loaded_of l)) ls ∙ st.loaded; locals = ap locals_of is ∙ lc ∙ st.locals };
})

pub functor_added : (f : HeldFunctor) (d d1 : Declaring) (n : ℕ) → n ≡ length d.functors → d1.functors ≡ d.functors ++ f ∷ [] → d1.names ≡ d.names
    → d1.signatures ≡ d.signatures → d1.definitions ≡ d.definitions → d1.applications ≡ d.applications → d1.start ≡ d.start → d1.loaded ≡ d.loaded
    → Does contents_of (new_functor (functor_of f)) d d1 (Ok (held_contents.Parametric n))
functor_added f d d1 n number more ns gs ds as' ss ls = does (λ s st. record {
  state = with_functor (functor_of f) s;
  is = ap (λ n. Ok (parametric n, with_functor (functor_of f) s)) (sym (number ∙ sym (length-map d.functors functor_of) ∙ ap length st.functors));
  stands = record { made = ap made_of ns ∙ st.made; modules = ap modules_in ns ∙ st.modules; functors = ap (map functor_of) more ∙ map-append functor_of d.functors (f ∷ []) ∙ ap (λ l. l ++ functor_of f ∷ []) st.functors; signatures = ap (map signature_of) gs ∙ st.signatures; definitions = ap (λ v. map definition_of v.items) ds ∙ st.definitions; applications = as' ∙ st.applications; start = ap (λ b. b.now) ss ∙ st.start; loaded = ap (λ l. reverse (map loaded_of l)) ls ∙ st.loaded; locals = ap locals_of ns ∙ st.locals };
})

pub signature_added : (g : HeldSignature) (d d1 : Declaring) (n : ℕ) → n ≡ length d.signatures → d1.signatures ≡ d.signatures ++ g ∷ [] → d1.names ≡ d.names
    → d1.functors ≡ d.functors → d1.definitions ≡ d.definitions → d1.applications ≡ d.applications → d1.start ≡ d.start → d1.loaded ≡ d.loaded
    → Does (λ (k : ℕ). k) (new_signature (signature_of g)) d d1 (Ok n)
signature_added g d d1 n number more ns fs ds as' ss ls = does (λ s st. record {
  state = with_signature (signature_of g) s;
  is = ap (λ n. Ok (n, with_signature (signature_of g) s)) (sym (number ∙ sym (length-map d.signatures signature_of) ∙ ap length st.signatures));
  stands = record { made = ap made_of ns ∙ st.made; modules = ap modules_in ns ∙ st.modules; functors = ap (map functor_of) fs ∙ st.functors; signatures = ap (map signature_of) more ∙ map-append signature_of d.signatures (g ∷ []) ∙ ap (λ l. l ++ signature_of g ∷ []) st.signatures; definitions = ap (λ v. map definition_of v.items) ds ∙ st.definitions; applications = as' ∙ st.applications; start = ap (λ b. b.now) ss ∙ st.start; loaded = ap (λ l. reverse (map loaded_of l)) ls ∙ st.loaded; locals = ap locals_of ns ∙ st.locals };
})

pub memory_stops : {R A : Type 0} (view : R → A) (step : Step A) (d d1 : Declaring) → Does view step d d1 (Err stop.Memory)
memory_stops view step d d1 = stops

pub ruleset two_steps = (then_does, first_stops)

pub ruleset standing = (module_added, functor_added, signature_added, memory_stops)
