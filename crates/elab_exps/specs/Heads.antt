-- What size names with a pattern, parameters with a value, and a composition's functions are.
use Rattle.std.specs.Prelude.{◌≡◌, List, Result, Ok, Err}
use Rattle.std.specs.Borrow.{Bor}
use Rattle.fut_ast.specs.Sorts.{Text}
use Rattle.fut_ast.specs.declared.pat.Head.{Head as PlainHead}
use Rattle.fut_scalar.specs.declared.place.BindId.{BindId}
use Rattle.fut_flat.specs.declared.exp.Exp.{Exp}
use Rattle.fut_flat.specs.declared.pat.Head.{Head as FlatHead}
use Rattle.fut_flat.specs.Terms.{Parameter}
use Rattle.fut_flat.specs.Erased.{FlatTerm, parameters}
use Rattle.elab_nodes.specs.declared.rows.Functions.{Functions}
use Rattle.elab_nodes.specs.Held.{held_term}
use Rattle.elab_scopes.specs.declared.refusal.Stop.{Stop}
use Rattle.elab_scopes.specs.declared.refusal.Stop.TheVariants as stop
use Rattle.elab_scopes.specs.declared.table.Names.{Names}
use Rattle.elab_scopes.specs.Answers.{Went}
use Rattle.elab_scopes.specs.Table.{scope_of, made_of}
use Rattle.elab_types.specs.declared.binds.Heads.{Heads}
use Rattle.elab_types.specs.declared.pats.Bound.{Bound as HeldBound}
use Rattle.elab_types.specs.Numbering.{Comes}
use Rattle.elab_types.specs.Bindings.{Brings, bound_heads_of, bound_sizes_of, bound_pattern_of, heads_numbered}
use Rattle.elab_exps.specs.declared.heads.Head.{Head}
use Rattle.elab_exps.specs.Parts.{Headed, behind}

unfoldable pub head_of : Head → Headed
head_of h = (bound_sizes_of h.sizes, bound_pattern_of h.pat)

-- size and type parameters, and the value that sees them
abbrev pub Valued : Type 0
Valued = Bor (List FlatHead) × Bor Exp

unfoldable pub valued_of : Valued → List (Parameter BindId) × FlatTerm
valued_of v = (parameters v.0.now, held_term v.1)

pub data Behind (h : Headed) (s t : Names) : Result (Unit {0}) Stop → Type 0 where
  now_behind : {u : Unit {0}} → scope_of t ≡ behind h (scope_of s) → made_of t ≡ made_of s → Behind h s t (Ok u)
  not_behind : Behind h s t (Err stop.Memory)

-- What comes in scope behind what a walk gave, which is the answer if that was refused. Else memory alone may run out.
pub data Brought_head : Result Head Stop → Names → Names → Result Head Stop → Type 0 where
  brought_head : {h : Head} {s t : Names} {w : Unit {0}} → Behind (head_of h) s t (Ok w) → Brought_head (Ok h) s t (Ok h)
  no_head : {e : Stop} {s t : Names} → Brought_head (Err e) s t (Err e)
  not_brought_head : {r : Result Head Stop} {s t : Names} → Brought_head r s t (Err stop.Memory)

pub data Brought_name (h : Headed) (x : Text) (b : Result BindId Stop) (s t : Names) : Result BindId Stop → Type 0 where
  brought_name : {u : Names} {w : Unit {0}} {r : Result BindId Stop} → Behind h s u (Ok w) → Comes x b u t r → Brought_name h x b s t r
  not_brought_name : Brought_name h x b s t (Err stop.Memory)

pub data Brought_pattern (h : Headed) : Result HeldBound Stop → Names → Names → Result HeldBound Stop → Type 0 where
  brought_pattern : {p : HeldBound} {s u t : Names} {w v : Unit {0}} → Behind h s u (Ok w) → Brings p.names.now u t (Ok v) → Brought_pattern h (Ok p) s t (Ok p)
  no_bound : {e : Stop} {s t : Names} → Brought_pattern h (Err e) s t (Err e)
  not_brought_pattern : {r : Result HeldBound Stop} {s t : Names} → Brought_pattern h r s t (Err stop.Memory)

pub data Brought_heads (hs : List PlainHead) (s t : Names) : Result (Bor (List FlatHead)) Stop → Type 0 where
  brought_heads : {u : Names} {z : Heads} {w : Unit {0}} → Went bound_heads_of (heads_numbered hs) s u (Ok z) → Brings z.names.now u t (Ok w) → Brought_heads hs s t (Ok z.heads)
  not_brought_heads : Brought_heads hs s t (Err stop.Memory)

-- the first that is refused is the answer, and memory may run out
pub data Gathered : Result BindId Stop → Result (Bor Exp) Stop → Result BindId Stop → Result (Bor Exp) Stop → Result BindId Stop → Result Functions Stop → Type 0 where
  gathered : {l r x : BindId} {f g : Bor Exp} → Gathered (Ok l) (Ok f) (Ok r) (Ok g) (Ok x) (Ok (record { left = l; left_function = f; right = r; right_function = g; argument = x }))
  no_left : {e : Stop} {f g : Result (Bor Exp) Stop} {r x : Result BindId Stop} → Gathered (Err e) f r g x (Err e)
  no_left_function : {e : Stop} {l : BindId} {g : Result (Bor Exp) Stop} {r x : Result BindId Stop} → Gathered (Ok l) (Err e) r g x (Err e)
  no_right : {e : Stop} {l : BindId} {f : Bor Exp} {g : Result (Bor Exp) Stop} {x : Result BindId Stop} → Gathered (Ok l) (Ok f) (Err e) g x (Err e)
  no_right_function : {e : Stop} {l r : BindId} {f : Bor Exp} {x : Result BindId Stop} → Gathered (Ok l) (Ok f) (Ok r) (Err e) x (Err e)
  no_argument : {e : Stop} {l r : BindId} {f g : Bor Exp} → Gathered (Ok l) (Ok f) (Ok r) (Ok g) (Err e) (Err e)
  not_gathered : {l : Result BindId Stop} {f : Result (Bor Exp) Stop} {r : Result BindId Stop} {g : Result (Bor Exp) Stop} {x : Result BindId Stop} → Gathered l f r g x (Err stop.Memory)
