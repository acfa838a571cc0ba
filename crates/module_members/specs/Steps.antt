-- Steps of the definition, by the names that the code gives them.
use Rattle.std.specs.Prelude.{◌++◌, cond, Bool, true, false, List, [], ◌∷◌, map, Option, Some, None, Result, Ok, Err, ◌≡◌}
use Rattle.std.specs.Str.{bytes_eq}
use Rattle.std.specs.Borrow.{Bor}
use Rattle.fut_ast.specs.Sorts.{Text, Path, SourceType}
use Rattle.fut_ast.specs.declared.node.Label.{Label}
use Rattle.fut_ast.specs.declared.pat.Head.{Head}
use Rattle.fut_ast.specs.declared.module.ModType.{ModType, out-ModType}
use Rattle.fut_ast.specs.declared.module.With.{With}
use Rattle.fut_flat.specs.declared.prim.Ref.{Ref}
use Rattle.fut_flat.specs.Sources.{SourceTerm, source_type}
use Rattle.elab_scopes.specs.Scopes.{Module_ref, Member, type_member, Contents, value_in_module, type_in_module}
use Rattle.elab_scopes.specs.Resolve.{after}
use Rattle.elab_scopes.specs.Declarations.{Given_type, Here, Step, also_seeing, as_type, declare, from, given_for, given_in, hidden_type, included, inner_name, left_open, member_of_met, no_type, same_type, seen_later, shown_type, value_met, with_type}
use Rattle.elab_scopes.specs.declared.refusal.Stop.{Stop}
use Rattle.elab_scopes.specs.declared.refusal.Stop.TheVariants as stop
use Rattle.module_state.specs.declared.state.Given.{Given}
use Rattle.module_state.specs.Standing.{given_of}
use Rattle.module_state.specs.Steps.{type_called_of}

-- something made of what a step has answered; memory may run out
pub data Behind {R A Q B : Type 0} (view : R → A) (show : Q → B) (f : A → B) : Result R Stop → Result Q Stop → Type 0 where
  made : {x : R} {y : Q} → show y ≡ f (view x) → Behind view show f (Ok x) (Ok y)
  ended : {e : Stop} → Behind view show f (Err e) (Err e)
  no_memory : {x : R} → Behind view show f (Ok x) (Err stop.Memory)

-- the value of a module that meets a module type
abbrev pub value_of_met : Here → Module_ref → Label → List Head → SourceType → Step (List Member)
value_of_met h m x heads t s = member_of_met x (value_in_module s.modules m x.name) (value_met h x heads t) s

-- a type of the module that meets a module type, as what is written of it
abbrev pub inner_type : Here → Label → SourceTerm → Ref → Step (List Member)
inner_type h x value r = as_type x.name (declare no_type (also_seeing (type_member inner_name r) h) false x.name [] value)

-- a type that a module type leaves open, hidden or shown
abbrev pub hidden_or_shown : Bool → Here → Label → Option Ref → Ref → Step (List Member)
hidden_or_shown true h x given r = hidden_type h x given r
hidden_or_shown false h x given r = shown_type h x given r

abbrev pub kept_type : Bool → Here → List Given_type → Label → Ref → Step (List Member)
kept_type hides h gs x r = hidden_or_shown hides h x (given_for gs x.name) r

-- the same of a type that is written or left open
abbrev pub type_behind : Bool → Here → List Given_type → Label → Option SourceType → Ref → Step (List Member)
type_behind hides h gs x None r = kept_type hides h gs x r
type_behind hides h gs x (Some t) r = same_type h x (source_type t) r

-- the type of a module that meets a module type
abbrev pub type_of_met : Bool → Here → Module_ref → List Given_type → Label → Option SourceType → Step (List Member)
type_of_met hides h m gs x t s = member_of_met x (type_in_module s.modules m x.name) (type_behind hides h gs x t) s

-- whether a path is this name alone
abbrev pub is_here : Path → Text → Bool
is_here (y ∷ []) x = bytes_eq y x
is_here ys x = false

abbrev pub maybe_one : {A : Type 0} → Option A → List A
maybe_one None = []
maybe_one (Some a) = a ∷ []

-- what is given for a type of the module of this name
abbrev pub deeper : Path → Text → Ref → Option Given_type
deeper (y ∷ z ∷ ys) x r = cond (bytes_eq y x) (Some (record { path = z ∷ ys; type = r })) None
deeper ys x r = None

abbrev pub below : Given_type → Text → Option Given_type
below g x = deeper g.path x g.type

abbrev pub all_given : Bor (List Given) → List Given_type
all_given gs = map given_of gs.now

-- one type that is given, behind a module type
abbrev pub refined_once : Here → With → Module_ref → Step Module_ref
refined_once h w m s = after (from (left_open s.modules w.place m w.path) s) (λ r s. after (with_type h w s) (λ r. given_in m w.path r))

-- what later members see, and the members that were met, behind more members
abbrev pub more_specified : List Member → List Member × List Member → List Member × List Member
more_specified ms b = (seen_later ms ++ b.0, ms ++ b.1)

-- what is included
abbrev pub include_step : ModType → Contents → List Member × List Member → Step (List Member × List Member)
include_step t c b s = after (included (out-ModType t).place (type_called_of t) c s) (λ ms s. Ok (more_specified ms b, s))
