-- What code has of what the definition gives.
use Rattle.std.specs.Prelude.{◌≡◌, ℕ, ◌+◌, [], Option, Some, None, Ok}
use Rattle.std.specs.Borrow.{Bor}
use Rattle.fut_flat.specs.Erased.{FlatTurns}
use Rattle.fut_flat.specs.Numbers.{pattern_numbers}
use Rattle.fut_flat.specs.Terms.{Counted, Over}
use Rattle.fut_types.specs.Types.{Sub}
use Rattle.fut_typing.specs.Names.{Names}
use Rattle.sized_types.specs.Sizes.{Size, Sizes}
use Rattle.fut_sizes.specs.Agreeing.{Answer, then_do}
use Rattle.fut_sizes.specs.Applications.{Argument, Part, whole}
use Rattle.fut_sizes.specs.Scopes.{Scope, with_name, bound_by}
use Rattle.size_arena.specs.declared.trees.SizeTree.{SizeTree}
use Rattle.size_arena.specs.Trees.{size_of, sizes_of}
use Rattle.size_slots.specs.Held.{Holds}
use Rattle.size_program.specs.Tables.{In_scope}
use Rattle.size_program.specs.declared.maps.NumberMap.{NumberMap}
use Rattle.size_applying.specs.Wanted.{Is_argument, Is_part}
use Rattle.size_forms.specs.Lets.{End}
use Rattle.size_forms.specs.Loops.{Turned}
use Rattle.size_forms.specs.declared.lets.Bound.{Bound}
use Rattle.size_forms.specs.declared.lets.Ending.{Ending}
use Rattle.size_forms.specs.declared.lets.Head.{Head}
use Rattle.size_forms.specs.declared.lets.Opened.{Opened}
use Rattle.size_forms.specs.declared.loops.Each as eachs
use Rattle.size_forms.specs.declared.turns.Inside.{Inside}
use Rattle.size_forms.specs.declared.turns.Turn.{Turn}
use Rattle.size_forms.specs.declared.walked.Given.{Given}
use Rattle.size_forms.specs.declared.walked.Row.{Row}
use Rattle.size_forms.specs.declared.walked.Walked.{Walked}
use Rattle.size_forms.specs.declared.walked.Whole.{Whole}

-- ---- terms

abbrev pub tree_is : Bor SizeTree → Size → Type 0
tree_is t u = u ≡ size_of t.now

abbrev pub whole_part : Bor SizeTree → Part → Type 0
whole_part t p = p ≡ whole (size_of t.now)

abbrev pub part_is : Sub → Names → Walked → Part → Type 0
part_is types N w p = Is_part N types w.part p

abbrev pub whole_is : Names → Whole → Size → Type 0
whole_is N w t = t ≡ size_of w.size.now

abbrev pub argument_is : Sub → Names → Given → Argument → Type 0
argument_is types N g a = Is_argument N types g.argument a

abbrev pub row_is : Names → Row → Sizes → Type 0
row_is N r ts = ts ≡ sizes_of r.sizes.now

-- ---- scopes

abbrev pub map_is : Bor NumberMap → Scope → Type 0
map_is m scope = In_scope m.now scope

abbrev pub known_is : Names → Bor NumberMap → Scope → Type 0
known_is N m scope = In_scope m.now scope

abbrev pub head_is : Head → Scope → Type 0
head_is h scope = In_scope h.names.now scope

abbrev pub bound_is : Names → Bound → Scope → Type 0
bound_is N b scope = In_scope b.names.now scope

abbrev pub opened_is : Names → Opened → Scope → Type 0
opened_is N o scope = In_scope o.names.now scope

abbrev pub end_of : Ending → End
end_of x = record { node = x.node; inner = x.inner; names = x.names.now }

-- ---- loops

-- what is counted or gone over at a node: its count, or a row of it
abbrev pub brings : Names → FlatTurns → ℕ → Option (Bor SizeTree) → Scope → Answer Scope
brings N (Counted i m) at (Some t) inner = Ok (with_name i.0 (size_of t.now) inner)
brings N (Over p e) at (Some t) inner = then_do (bound_by N [] (at + pattern_numbers p) p (size_of t.now) inner) (λ k. Ok k.scope)
brings N turns at t inner = Ok inner

abbrev pub each_is : FlatTurns → ℕ → Names → eachs.Each → (Scope → Answer Scope) → Type 0
each_is turns at N e f = (inner : Scope) → f inner ≡ brings N turns at e.size inner

abbrev pub inside_is : Inside → Turned → Type 0
inside_is i r = In_scope i.names.now r.scope × Holds i.bindings.found r.found

-- a turn keeps a sized type, or it doesn't
abbrev pub kept_is : Option (Bor SizeTree) → Option Size → Type 0
kept_is (Some t) (Some u) = u ≡ size_of t.now
kept_is None None = Unit {0}
kept_is t u = ⊥

abbrev pub turn_is : Turn → Option Size → Type 0
turn_is t o = kept_is t.kept o
