-- The name of a section ``(`f` e)``, in the expression behind its let, `\x -> f x v`.
use Rattle.std.specs.Prelude.{Bool, false, cond, Option, Some, None, Result, Ok, Err}
use Rattle.fut_flat.specs.Sources.{Spelled, SourceTerm, spelled}
use Rattle.fut_flat.specs.Terms.{Use, Strict, Lambda, Apply, Let, If, Loop}
use Rattle.fut_tree.specs.Names.{names}
use Rattle.elab_scopes.specs.Names.{Refusal}
use Rattle.elab_scopes.specs.Scopes.{Found, Scope, value_of}
use Rattle.elab_scopes.specs.Resolve.{is_held}
use Rattle.elab_scopes.specs.declared.refusal.Refusal.{Refusal as HeldRefusal}
use Rattle.elab_scopes.specs.declared.refusal.Stop.{Stop}
use Rattle.elab_scopes.specs.declared.refusal.Stop.TheVariants as stop
use Rattle.elab_exps.specs.declared.sections.Called.{Called}

-- a name that is used
abbrev pub use_in : SourceTerm → Option Spelled
use_in (Use p at k) = Some (spelled p.path p.place)
use_in (Strict o mark ts) = None
use_in (Lambda ps e) = None
use_in (Apply f e) = None
use_in (Let b v e) = None
use_in (If c a b) = None
use_in (Loop mark sizes p first turns body) = None

abbrev pub is_held_name : Option Spelled → Bool
is_held_name None = false
is_held_name (Some p) = is_held p.path

-- a name that is applied to one argument
abbrev pub applied_in : SourceTerm → Option Spelled
applied_in (Apply f e) = use_in f
applied_in (Use p at k) = None
applied_in (Strict o mark ts) = None
applied_in (Lambda ps e) = None
applied_in (Let b v e) = None
applied_in (If c a b) = None
applied_in (Loop mark sizes p first turns body) = None

-- a name that is applied to two arguments, of which the second is what a section holds
abbrev pub called_in : SourceTerm → Option Spelled
called_in (Apply f e) = cond (is_held_name (use_in e)) (applied_in f) None
called_in (Use p at k) = None
called_in (Strict o mark ts) = None
called_in (Lambda ps e) = None
called_in (Let b v e) = None
called_in (If c a b) = None
called_in (Loop mark sizes p first turns body) = None

abbrev pub spelled_of : Option Called → Option Spelled
spelled_of None = None
spelled_of (Some c) = Some (spelled (names c.path.now) c.place)

abbrev pub is_found : Result Found Refusal → Result (Unit {0}) Refusal
is_found (Ok f) = Ok tt
is_found (Err e) = Err e

-- whether a name that stands first is bound
abbrev pub looked : Option Spelled → Scope → Result (Unit {0}) Refusal
looked None sc = Ok tt
looked (Some p) sc = is_found (value_of sc p)

-- an answer, where what stands before it is not refused
abbrev pub led : {R : Type 0} → Result (Unit {0}) HeldRefusal → Result R Stop → Result R Stop
led (Ok u) r = r
led (Err e) r = Err (stop.Refused e)
