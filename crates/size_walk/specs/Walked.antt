-- What the walk has of terms and parts.
use Rattle.std.specs.Prelude.{◌≡◌, ℕ, ◌+◌, Bool, cond, List, [], ◌∷◌, ◌++◌, map, Option, Some, None}
use Rattle.std.specs.Borrow.{Bor}
use Rattle.fut_flat.specs.declared.exp.Exp.{Exp}
use Rattle.fut_flat.specs.Erased.{FlatTerm, term_of}
use Rattle.fut_flat.specs.Terms.{Apply, Let}
use Rattle.fut_types.specs.Types.{Sub}
use Rattle.fut_typing.specs.Names.{Names}
use Rattle.fut_scalar.specs.declared.place.BindId.{BindId}
use Rattle.fut_flat.specs.declared.exp.Loop.{Loop}
use Rattle.fut_flat.specs.declared.prim.Ref.{Ref}
use Rattle.fut_flat.specs.Erased.{FlatTurns, pattern_of}
use Rattle.fut_flat.specs.Numbers.{turn_numbers}
use Rattle.fut_flat.specs.Terms.{Operation, Terms, While}
use Rattle.fut_flat.proofs.ErasedForms.{row_of, turns_of}
use Rattle.sized_types.specs.Sizes.{Size, Sizes}
use Rattle.fut_sizes.specs.Agreeing.{Answer}
use Rattle.fut_sizes.specs.Applications.{Argument, Early, Part, Applied, Waiting, Met, Want, is_use, named_value, whole}
use Rattle.fut_sizes.specs.Operations.{operation}
use Rattle.fut_sizes.specs.Scopes.{Scope}
use Rattle.fut_sizes.specs.Sizing.{condition_sized, second_noted, turns_sized}
use Rattle.fut_sizes.specs.Matching as matching
use Rattle.fut_sizes.specs.Steps.{Step, give, ask, and_then, note}
use Rattle.size_forms.specs.Loops.{turn_sized}
use Rattle.size_program.specs.Answers.{Going}
use Rattle.size_applying.specs.Wanted.{Are_arguments, Waits, want_is}
use Rattle.size_applying.specs.declared.arguments.Argument as arguments
use Rattle.size_applying.specs.declared.arguments.Part as parts
use Rattle.size_applying.specs.declared.arguments.Part.TheVariants as part
use Rattle.size_applying.specs.declared.arguments.Want as wants
use Rattle.size_applying.specs.declared.compositions.Composition.{Composition}
use Rattle.size_arena.specs.declared.trees.SizeTree.{SizeTree}
use Rattle.size_arena.specs.Trees.{size_of}
use Rattle.size_program.specs.Program.{sub_of}
use Rattle.size_program.specs.declared.maps.NumberMap.{NumberMap}
use Rattle.size_slots.specs.declared.slots.Found.{Found}
use Rattle.size_slots.specs.Held.{Holds}
use Rattle.size_walk.specs.declared.sites.Site.{Site}

-- ---- applications

-- a function applied to arguments, the last first
abbrev pub applied_to : FlatTerm → List FlatTerm → FlatTerm
applied_to f [] = f
applied_to f (e ∷ es) = Apply (applied_to f es) e

abbrev pub terms_of : List (Bor Exp) → List FlatTerm
terms_of = map (λ (e : Bor Exp). term_of e.now)

-- a part of code with more arguments behind those that it has
pub data Has_arguments (N : Names) (types : Sub) : parts.Part → List arguments.Argument → Part → Type 0 where
  has_applied : {t : Bor SizeTree} {regular : Bool} {xs : Bor (List arguments.Argument)} {more : List arguments.Argument} {given : List Argument} → Are_arguments N types (xs.now ++ more) given → Has_arguments N types (part.Applied t regular xs) more (Applied (size_of t.now) regular given)
  has_waiting : {e : Bor Exp} {n : ℕ} {names : Bor NumberMap} {bs : Bor (List ℕ)} {f : Option Want → matching.Found → Step Met} → Waits N types e.now n names.now bs.now f → Has_arguments N types (part.Waiting e n names bs) [] (Waiting f)

-- ---- lambdas

abbrev pub want_of : Option wants.Want → Option Want
want_of None = None
want_of (Some w) = Some (want_is w)

-- what has become of a lambda: its sized type, and what is found
pub record Lambda_met (table : Found) (t : Bor SizeTree) (m : Met) : Type 0 where
  pub size : m.size ≡ size_of t.now
  pub found : Holds table m.found

-- ---- arguments

-- a term that is applied to nothing, as an argument
abbrev pub unapplied_argument : ℕ → FlatTerm → Size → Step Argument
unapplied_argument n e t = and_then (cond (is_use e) (give t) (note n t)) (λ u. give (Early n (named_value e) (is_use e) u))

-- what an operation makes of parts
abbrev pub operated_on : Names → Sub → Operation Ref BindId → Terms Ref BindId → ℕ → ℕ → Sizes → Step Part
operated_on N types o ts n first us = and_then (ask (operation N types o n first ts us)) (λ t. and_then (second_noted N types o n us) (λ z. give (whole t)))

-- ---- loops

-- where what is counted or gone over ends; a condition stands behind that
abbrev pub each_end : FlatTurns → ℕ → ℕ
each_end (While c) at = at
each_end turns at = at + turn_numbers turns

abbrev pub turns_going : Sub → FlatTurns → ℕ → Going (Scope → Answer Scope)
turns_going types turns at N scope = turns_sized N types turns at scope

abbrev pub condition_going : Sub → FlatTurns → ℕ → Going (Unit {0})
condition_going types turns at N scope = condition_sized N types turns at scope

-- a turn of a loop at a node, whose turns begin at another
abbrev pub turn_going : Sub → Loop → ℕ → ℕ → (Scope → Answer Scope) → Names → Scope → Size → Step Size
turn_going types l n at each N scope carried = turn_sized types n l.sizes.now (pattern_of l.pat) (turns_of l.form) at (term_of l.body) each carried N scope

-- a condition gives nothing
abbrev pub nothing_is : Names → ℕ → Unit {0} → Type 0
nothing_is N next u = Unit {0}

-- ---- compositions

-- what stands behind the first let of one
abbrev pub composed_body : Composition → FlatTerm
composed_body c = Let (row_of c.second.now).0 (row_of c.second.now).1 (term_of c.lambda.now)

-- ---- sites

abbrev pub types_at : Site → Sub
types_at s = sub_of s.program.types.now
