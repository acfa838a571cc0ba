-- What the walks of elaboration answer.
use Rattle.std.specs.Prelude.{◌≡◌, ℕ, ◌+◌, ◌-◌, List, length, Result, Ok, Err}
use Rattle.std.specs.Borrow.{Bor}
use Rattle.fut_ast.specs.Sorts.{Text}
use Rattle.fut_tree.specs.Names.{names}
use Rattle.elab_scopes.specs.declared.values.Found.{Found as HeldFound}
use Rattle.elab_scopes.specs.declared.refusal.Refusal.{Refusal as HeldRefusal}
use Rattle.elab_scopes.specs.declared.refusal.Refusal.TheVariants as held
use Rattle.elab_scopes.specs.declared.refusal.Stop.{Stop}
use Rattle.elab_scopes.specs.declared.refusal.Stop.TheVariants as stop
use Rattle.elab_scopes.specs.declared.table.Names.{Names}
use Rattle.elab_scopes.specs.Names.{Refusal, Unbound, Twice, NoMember, SealMissing, TooManyApplications, NotYet}
use Rattle.elab_scopes.specs.Scopes.{Scope, Found}
use Rattle.elab_scopes.specs.Resolve.{Numbered, Naming}
use Rattle.elab_scopes.specs.Table.{scope_of, bound_of, made_of}

abbrev pub refusal_of : HeldRefusal → Refusal
refusal_of (held.Unbound x at) = Unbound x.now at
refusal_of (held.Twice x at) = Twice x.now at
refusal_of (held.NoMember x at) = NoMember x.now at
refusal_of (held.SealMissing x at) = SealMissing x.now at
refusal_of (held.TooManyApplications at) = TooManyApplications at
refusal_of (held.NotYet at) = NotYet at

-- an answer as definitions speak of it
abbrev pub viewed : {A R : Type 0} → (R → A) → Result R HeldRefusal → Result A Refusal
viewed view (Ok x) = Ok (view x)
viewed view (Err e) = Err (refusal_of e)

-- how many names of a path of so many are modules: all but the value's own and the fields that are left
abbrev pub modules_before : ℕ → List (Bor Text) → ℕ
modules_before n fields = n - (length fields + 1)

-- what a path of so many names stands for
abbrev pub found_of : ℕ → HeldFound → Found
found_of n f = record { names = f.names; modules = modules_before n f.fields.now; fields = names f.fields.now }

-- What a walk gives, by the definition of what it reads: `state` is what the definition carries along. The scope is as
-- before. Memory may run out; else the answer is the definition's.
pub data Walked {S A R : Type 0} (state : Names → S) (view : R → A) (does : Scope → S → Result (A × S) Refusal) (s t : Names) : Result R Stop → Type 0 where
  went : {x : R} → does (scope_of s) (state s) ≡ Ok (view x, state t) → scope_of t ≡ scope_of s → Walked state view does s t (Ok x)
  refused : {e : HeldRefusal} → does (scope_of s) (state s) ≡ Err (refusal_of e) → Walked state view does s t (Err (stop.Refused e))
  no_memory : Walked state view does s t (Err stop.Memory)

-- a walk that numbers
abbrev pub Went : {A R : Type 0} → (R → A) → (Scope → List Text → Numbered A) → Names → Names → Result R Stop → Type 0
Went view does s t r = Walked made_of view does s t r

-- a walk over a part of a pattern, which binds names too
unfoldable pub naming_of : Names → Naming
naming_of s = record { bound = bound_of s; made = made_of s }

abbrev pub Bound_by : {A R : Type 0} → (R → A) → (Scope → Naming → Result (A × Naming) Refusal) → Names → Names → Result R Stop → Type 0
Bound_by view does s t r = Walked naming_of view does s t r

-- What a walk gives that leaves other names in scope: those that the definition's answer brings.
pub data Entered {A R : Type 0} (view : R → A) (does : Numbered (A × Scope)) (t : Names) : Result R Stop → Type 0 where
  entered : {x : R} → does ≡ Ok ((view x, scope_of t), made_of t) → Entered view does t (Ok x)
  not_entered : {e : HeldRefusal} → does ≡ Err (refusal_of e) → Entered view does t (Err (stop.Refused e))
  no_memory_entered : Entered view does t (Err stop.Memory)

-- an answer of a call that takes no memory
pub data Answers {A : Type 0} : Result A Refusal → Result A Stop → Type 0 where
  answers : {x : A} → Answers (Ok x) (Ok x)
  answers_refused : {e : HeldRefusal} → Answers (Err (refusal_of e)) (Err (stop.Refused e))
