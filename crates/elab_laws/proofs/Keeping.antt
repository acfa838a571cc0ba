-- What holds of all that was declared so far: each definition was resolved from where it stands, it has a number of its own, and
-- all that it sees has smaller numbers.
use Rattle.std.proofs.Common.{◌≡◌, ℕ, suc, ◌<◌, ◌≤◌, ◌++◌, List, [], ◌∷◌, Bool, true, false, cond, Result, Ok, Err, refl, subst, arith, length}
use mathlib.Core.Logic.{◌⊎◌, inl, inr}
use Rattle.fut_scalar.specs.declared.place.BindId.{BindId}
use Rattle.fut_ast.specs.Sorts.{Text}
use Rattle.fut_ast.specs.declared.pat.Head.{Head}
use Rattle.fut_flat.specs.declared.prim.Ref.{Ref}
use Rattle.fut_flat.specs.declared.prim.Ref.TheVariants as ref
use Rattle.fut_flat.specs.Sources.{SourceTerm, source_parameters}
use Rattle.elab_scopes.specs.Names.{Refusal}
use Rattle.elab_scopes.specs.Scopes.{Module_ref, Member, value_member, type_member, module_member, signature_member, Contents, members, parametric, World, a_world, Scope, enter}
use Rattle.elab_scopes.specs.Resolve.{Numbered, after, next, with_text}
use Rattle.elab_scopes.specs.Programs.{FlatDefinition, define}
use Rattle.elab_scopes.specs.Declarations.{Instance, Functor, Signature, State, Here, with_instance, with_module, with_functor, with_signature, with_loaded, starting_with, once_more, defined, declare}
use Rattle.elab_laws.proofs.Grown.{went, ok_part, ok_rest, more_text}
use Rattle.elab_laws.proofs.Told.{Told}
use Rattle.elab_laws.proofs.Parts.{heads_filled}
use Rattle.elab_laws.proofs.OnceTerms.{term_filled}
use Rattle.elab_laws.proofs.Readings.{Such, Ref_under, Under, Contents_under, All_under, World_under, under_up, all_up, world_up}

-- how many numbers were given
abbrev pub seen : State → ℕ
seen s = length s.made

-- it is the number of one of these definitions
abbrev pub Is_defined : List Instance → ℕ → Type 0
Is_defined [] k = ⊥
Is_defined (i ∷ is) k = (i.flat.bind.0 ≡ k) ⊎ Is_defined is k

defined_more : (is more : List Instance) (k : ℕ) → Is_defined is k → Is_defined (is ++ more) k
defined_more [] more k h = elim h [ ]
defined_more (i ∷ is) more k (inl e) = inl e
defined_more (i ∷ is) more k (inr h) = inr (defined_more is more k h)

defined_last : (is : List Instance) (i : Instance) → Is_defined (is ++ i ∷ []) i.flat.bind.0
defined_last [] i = inl refl
defined_last (j ∷ is) i = inr (defined_last is i)

-- it was given, to a definition
abbrev pub held : State → Such
held s k = (k < seen s) × Is_defined s.instances k

-- ---- more members

pub all_push : (n : Such) (cs : List Contents) (c : Contents) → All_under n cs → Contents_under n c → All_under n (cs ++ c ∷ [])
all_push n [] c u v = (v, tt)
all_push n (d ∷ cs) c u v = (u.0, all_push n cs c u.1 v)

pub under_append : (n : Such) (ms ns : List Member) → Under n ms → Under n ns → Under n (ms ++ ns)
under_append n [] ns u v = v
under_append n (value_member x r ∷ ms) ns u v = (u.0, under_append n ms ns u.1 v)
under_append n (type_member x r ∷ ms) ns u v = under_append n ms ns u v
under_append n (module_member x k ∷ ms) ns u v = under_append n ms ns u v
under_append n (signature_member x k ∷ ms) ns u v = under_append n ms ns u v

abbrev pub Functors_under : Such → List Functor → Type 0
Functors_under n [] = Unit {0}
Functors_under n (f ∷ fs) = Under n f.names × Functors_under n fs

abbrev pub Signatures_under : Such → List Signature → Type 0
Signatures_under n [] = Unit {0}
Signatures_under n (g ∷ gs) = Under n g.names × Signatures_under n gs

functors_up : (n m : Such) (fs : List Functor) → ((k : ℕ) → n k → m k) → Functors_under n fs → Functors_under m fs
functors_up n m [] le u = tt
functors_up n m (f ∷ fs) le u = (under_up n m f.names le u.0, functors_up n m fs le u.1)

functors_push : (n : Such) (fs : List Functor) (f : Functor) → Functors_under n fs → Under n f.names → Functors_under n (fs ++ f ∷ [])
functors_push n [] f u v = (v, tt)
functors_push n (g ∷ fs) f u v = (u.0, functors_push n fs f u.1 v)

signatures_up : (n m : Such) (gs : List Signature) → ((k : ℕ) → n k → m k) → Signatures_under n gs → Signatures_under m gs
signatures_up n m [] le u = tt
signatures_up n m (g ∷ gs) le u = (under_up n m g.names le u.0, signatures_up n m gs le u.1)

signatures_push : (n : Such) (gs : List Signature) (g : Signature) → Signatures_under n gs → Under n g.names → Signatures_under n (gs ++ g ∷ [])
signatures_push n [] g u v = (v, tt)
signatures_push n (f ∷ gs) g u v = (u.0, signatures_push n gs g u.1 v)

-- ---- definitions

-- It was resolved where so many numbers were given, and gave those up to another. What it sees has smaller numbers, those of
-- definitions among all of these.
pub record Good (all : List Instance) (n m : ℕ) (i : Instance) : Type 0 where
  pub file : ℕ
  pub is_entry : Bool
  pub name : Text
  pub made : List Text
  pub made' : List Text
  pub world : World
  pub told : Told i.value
  pub resolved : define file is_entry name i.heads i.value (a_world world ∷ []) made ≡ Ok (i.flat, made')
  pub first : length made ≡ n
  pub last : length made' ≡ m
  pub outside : i.scope ≡ a_world world ∷ []
  pub under : World_under (λ k. k < n) world
  pub named : World_under (Is_defined all) world

good_up : {all : List Instance} {n m : ℕ} {i : Instance} (more : List Instance) → Good all n m i → Good (all ++ more) n m i
good_up more g = record { file = g.file; is_entry = g.is_entry; name = g.name; made = g.made; made' = g.made'; world = g.world; told = g.told; resolved = g.resolved; first = g.first; last = g.last; outside = g.outside; under = g.under; named = world_up (λ k h. defined_more _ more k h) g.named }

pub data Chain (all : List Instance) : ℕ → List Instance → ℕ → Type 0 where
  chain_none : {n : ℕ} → Chain all n [] n
  chain_more : {n k m : ℕ} {i : Instance} {is : List Instance} → Good all n k i → Chain all k is m → Chain all n (i ∷ is) m

chain_up : {all : List Instance} {n m : ℕ} {is : List Instance} (more : List Instance) → Chain all n is m → Chain (all ++ more) n is m
chain_up more chain_none = chain_none
chain_up more (chain_more g c) = chain_more (good_up more g) (chain_up more c)

chain_push : {all : List Instance} {n k m : ℕ} {i : Instance} {is : List Instance} → Chain all n is k → Good all k m i → Chain all n (is ++ i ∷ []) m
chain_push chain_none g = chain_more g chain_none
chain_push (chain_more h c) g = chain_more h (chain_push c g)

pub record Fine (s : State) : Type 0 where
  pub chain : Chain s.instances 0 s.instances (seen s)
  pub modules : All_under (held s) s.modules
  pub functors : Functors_under (held s) s.functors
  pub signatures : Signatures_under (held s) s.signatures
  pub start : Under (held s) s.start

-- ---- steps

-- from one state to the next no number is taken back, and of what is given this holds
pub record Kept {A : Type 0} (P : Such → A → Type 0) (s s' : State) (a : A) : Type 0 where
  pub more : (k : ℕ) → held s k → held s' k
  pub fine : Fine s'
  pub good : P (held s') a

abbrev pub Any : {A : Type 0} → Such → A → Type 0
Any n a = Unit {0}

-- so does a step where it goes
abbrev pub Keeps : {A : Type 0} → (Such → A → Type 0) → State → Result (A × State) Refusal → Type 0
Keeps {A} P s r = (a : A) (s' : State) → r ≡ Ok (a, s') → Kept P s s' a

pub kept_over : {A B : Type 0} {P : Such → A → Type 0} {Q : Such → B → Type 0} {s s1 s2 : State} {a : A} {b : B} → Kept P s s1 a → Kept Q s1 s2 b → Kept Q s s2 b
kept_over x y = record { more = λ k h. y.more k (x.more k h); fine = y.fine; good = y.good }

pub keeps_then : {A B : Type 0} {P : Such → A → Type 0} {Q : Such → B → Type 0} (s : State) (r : Result (A × State) Refusal) (k : A → State → Result (B × State) Refusal)
    → Keeps P s r → ((a : A) (s1 : State) → Kept P s s1 a → Keeps Q s1 (k a s1)) → Keeps Q s (after r k)
keeps_then s r k f g b s2 e = went r k (b, s2) e (λ a s1 h w. let x = f a s1 h in kept_over x (g a s1 x b s2 w))

pub keeps_end : {A : Type 0} {P : Such → A → Type 0} (s s1 : State) (a : A) → Kept P s s1 a → Keeps P s (Ok (a, s1))
keeps_end {A} {P} s s1 a x b s' e = subst (λ z. Kept P s s' z) (ok_part e) (subst (λ z. Kept P s z a) (ok_rest e) x)

pub keeps_stop : {A : Type 0} {P : Such → A → Type 0} (s : State) (x : Refusal) → Keeps P s (Err x)
keeps_stop {A} s x a s' e = absurd (let z : ◌≡◌ {A = Result (A × State) Refusal} (Err x) (Ok (a, s')) = e in cc)

-- a state as it is
pub as_it_is : {A : Type 0} {P : Such → A → Type 0} (s : State) (a : A) → Fine s → P (held s) a → Keeps P s (Ok (a, s))
as_it_is s a f p = keeps_end s s a (record { more = λ k h. h; fine = f; good = p })

-- ---- what is added to a state

pub fine_module : (s : State) (c : Contents) → Fine s → Contents_under (held s) c → Fine (with_module c s)
fine_module s c f u = record { chain = f.chain; modules = all_push (held s) s.modules c f.modules u; functors = f.functors; signatures = f.signatures; start = f.start }

pub fine_functor : (s : State) (g : Functor) → Fine s → Under (held s) g.names → Fine (with_functor g s)
fine_functor s g f u = record { chain = f.chain; modules = f.modules; functors = functors_push (held s) s.functors g f.functors u; signatures = f.signatures; start = f.start }

pub fine_signature : (s : State) (g : Signature) → Fine s → Under (held s) g.names → Fine (with_signature g s)
fine_signature s g f u = record { chain = f.chain; modules = f.modules; functors = f.functors; signatures = signatures_push (held s) s.signatures g f.signatures u; start = f.start }

pub fine_once_more : (s : State) → Fine s → Fine (once_more s)
fine_once_more s f = record { chain = f.chain; modules = f.modules; functors = f.functors; signatures = f.signatures; start = f.start }

pub fine_loaded : (k : ℕ) (m : Module_ref) (s : State) → Fine s → Fine (with_loaded k m s)
fine_loaded k m s f = record { chain = f.chain; modules = f.modules; functors = f.functors; signatures = f.signatures; start = f.start }

pub fine_started : (ms : List Member) (s : State) → Fine s → Under (held s) ms → Fine (starting_with ms s)
fine_started ms s f u = record { chain = f.chain; modules = f.modules; functors = f.functors; signatures = f.signatures; start = u }

-- ---- a definition

record Grows (made made' : List Text) (d : FlatDefinition) : Type 0 where
  bind : d.bind.0 ≡ length made
  more : suc (length made) ≤ length made'

define_grows : (file : ℕ) (is_entry : Bool) (x : Text) (hs : List Head) (value : SourceTerm) (sc : Scope) (made made' : List Text) (d : FlatDefinition) → define file is_entry x hs value sc made ≡ Ok (d, made') → Grows made made' d
unfolding define
define_grows file is_entry x hs value sc made made' d e =
    went _ _ _ e (λ h m i g. went _ _ _ g (λ v n j q.
    let ps = heads_filled (source_parameters hs) (with_text made x) m h i in
    let vs = term_filled value (enter h.1 sc) m n v j in
    subst (λ z. Grows made made' z) (ok_part q) (subst (λ z. Grows made z (record { bind = next made; parameters = h.0; value = v; is_entry = is_entry; file = file })) (ok_rest q)
    (record { bind = refl; more = omega (arith, more_text made x, ps.upto, vs.upto) }))))

module _ (P : Such → Ref → Type 0) (bound : (S : Such) (b : BindId) → S b.0 → P S (ref.Bound b)) where
  defined_keeps : (other : Ref) (h : Here) (w : World) (hs : List Head) (value : SourceTerm) (file : ℕ) (is_entry : Bool) (x : Text) (s : State) → ((S : Such) → P S other) → Told value → Fine s → World_under (held s) w
      → (live : Bool) (d : FlatDefinition) (made : List Text) → define file is_entry x hs value (a_world w ∷ []) s.made ≡ Ok (d, made)
      → Keeps P s (cond {A = Result (Ref × State) Refusal} live (Ok (ref.Bound d.bind, with_instance made (record { scope = a_world w ∷ []; heads = hs; value = value; flat = d }) s)) (Ok (other, s)))
  defined_keeps other h w hs value file is_entry x s o t f u false d made e = as_it_is s other f (o (held s))
  defined_keeps other h w hs value file is_entry x s o t f u true d made e =
      let g = define_grows file is_entry x hs value (a_world w ∷ []) s.made made d e in
      let i : Instance = record { scope = a_world w ∷ []; heads = hs; value = value; flat = d } in
      let s' : State = with_instance made i s in
      let up : (k : ℕ) → held s k → held s' k = λ k h. (let lt = h.0 in omega (arith, lt, g.more), defined_more s.instances (i ∷ []) k h.1) in
      keeps_end s s' (ref.Bound d.bind) (record {
        more = up;
        fine = record {
          chain = chain_push (chain_up (i ∷ []) f.chain) (record { file = file; is_entry = is_entry; name = x; made = s.made; made' = made; world = w; told = t; resolved = e; first = refl; last = refl; outside = refl; under = world_up (λ k h. h.0) u; named = world_up (λ k h. defined_more s.instances (i ∷ []) k h.1) u });
          modules = all_up (held s) (held s') s.modules up f.modules;
          functors = functors_up (held s) (held s') s.functors up f.functors;
          signatures = signatures_up (held s) (held s') s.signatures up f.signatures;
          start = under_up (held s) (held s') s.start up f.start;
        };
        good = bound (held s') d.bind (omega (arith, g.bind, g.more), defined_last s.instances i);
      })

  result_keeps : (other : Ref) (h : Here) (w : World) (hs : List Head) (value : SourceTerm) (file : ℕ) (is_entry : Bool) (x : Text) (s : State) → ((S : Such) → P S other) → Told value → Fine s → World_under (held s) w
      → (r : Numbered FlatDefinition) → define file is_entry x hs value (a_world w ∷ []) s.made ≡ r → Keeps P s (defined other h (a_world w ∷ []) hs value s r)
  unfolding defined
  result_keeps other h w hs value file is_entry x s o t f u (Err z) e = keeps_stop s z
  result_keeps other h w hs value file is_entry x s o t f u (Ok (d, made)) e = defined_keeps other h w hs value file is_entry x s o t f u h.live d made e

  pub declare_keeps : (other : Ref) (h : Here) (is_entry : Bool) (x : Text) (hs : List Head) (value : SourceTerm) (s : State) → ((S : Such) → P S other) → Told value → Fine s → Under (held s) h.names → Keeps P s (declare other h is_entry x hs value s)
  unfolding declare
  declare_keeps other h is_entry x hs value s o t f u = result_keeps other h (record { names = h.names; modules = s.modules }) hs value h.file is_entry x s o t f (record { names = u; modules = f.modules }) _ refl
