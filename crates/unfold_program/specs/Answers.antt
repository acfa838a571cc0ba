-- What the calls of the walk answer. Where one is lost, unfolding is stuck; want of memory says nothing.
use Rattle.std.specs.Prelude.{◌≡◌, ℕ, ◌+◌, ◌++◌, List, [], ◌∷◌, map, length, get_or, Bool, true, false, Option, Some, None, Result, Ok, Err}
use Rattle.fut_scalar.specs.declared.place.BindId.{BindId}
use Rattle.fut_scalar.specs.declared.place.Place.{Place}
use Rattle.fut_flat.specs.declared.act.Act.{Act}
use Rattle.fut_flat.specs.declared.act.Act.TheVariants as act
use Rattle.fut_flat.specs.declared.exp.Exp.{Exp}
use Rattle.fut_flat.specs.declared.exp.Loop.{Loop as LoopTree}
use Rattle.fut_flat.specs.declared.prim.Primitive.{Primitive}
use Rattle.fut_flat.specs.declared.prim.Ref.{Ref}
use Rattle.fut_scalar.specs.declared.scalar.Scalar.TheVariants as scalar
use Rattle.fut_flat.specs.declared.pat.Pat.{Pat}
use Rattle.fut_flat.specs.Erased.{FlatPattern, FlatTerm, FlatType, lets, pattern_of, patterns, term_of}
use Rattle.fut_flat.specs.Erased as erased
use Rattle.fut_flat.specs.Numbers.{all_numbers, all_pattern_numbers, numbers, pattern_numbers}
use Rattle.fut_flat.specs.Terms.{Declared, If, Loop, Operation, Patterns, Strict, Terms, no_term, term_and}
use Rattle.fut_blocks.specs.declared.block.Atom.{Atom}
use Rattle.fut_blocks.specs.Numbered.{Upward}
use Rattle.fut_blocks.specs.Plain as plain
use Rattle.fut_blocks.specs.Plain.{Action, Body, body_of}
use Rattle.unfold.specs.Held.{entered_of, function_of, known_of, names_of, scope_of}
use Rattle.unfold.specs.Knowns.{Function_known, Known, Knowns, Primitive_known, Scalar_known, Scope, Tops, listed, name_and, seeing}
use Rattle.unfold.specs.Shapes.{Laid}
use Rattle.fut_meaning.specs.Found.{Sizing, Told}
use Rattle.fut_meaning.specs.Meaning.{first_node}
use Rattle.told_rows.specs.Tables.{Told_by}
use Rattle.unfold.specs.Stuck as lacking
use Rattle.unfold.specs.Telling.{enter}
use Rattle.unfold.specs.Stuck.{No_data, No_operation, No_scalar, Not_bound}
use Rattle.unfold.specs.Unfolding.{Bindings, Packs, constant, named, names, step}
use Rattle.unfold.specs.declared.known.Function.{Function}
use Rattle.unfold.specs.declared.known.Known.{Known as Held_known}
use Rattle.unfold.specs.declared.known.Scope.{Scope as Held_scope}
use Rattle.unfold_parts.specs.Answers.{Is_ready, No_use, Operated_at, Used_to}
use Rattle.unfold_parts.specs.Layouts.{shape_of}
use Rattle.unfold_parts.specs.Refused.{Refused}
use Rattle.unfold_parts.specs.States.{steps_of}
use Rattle.unfold_parts.specs.Tables.{integer_at, tops_of}
use Rattle.unfold_parts.specs.declared.refusal.Refusal.{Refusal}
use Rattle.unfold_parts.specs.declared.refusal.Refusal.TheVariants.{Memory}
use Rattle.unfold_parts.specs.declared.steps.Unfolding.{Unfolding}
use Rattle.unfold_parts.specs.declared.told.Told.{Told as Held_told}
use Rattle.unfold_program.specs.declared.peel.Peeled.{Peeled}
use Rattle.unfold_program.specs.declared.walked.Context.{Context}
use Rattle.unfold_program.specs.declared.walked.Shapes.{Shapes}
use Rattle.unfold_program.specs.declared.walked.Shapes.TheVariants as shapes
use Rattle.unfold_program.specs.declared.walked.Walked.{Walked}
use Rattle.unfold_program.specs.declared.walked.WalkedScalar.{WalkedScalar}
use Rattle.unfold_program.specs.declared.walked.Parts.{Parts}
use Rattle.unfold_program.specs.declared.walked.Branch.{Branch}
use Rattle.unfold_program.specs.declared.walked.Row.{Row}
use Rattle.unfold_program.specs.declared.walked.Entered.{Entered}
use Rattle.unfold_parts.specs.Told.{Held_sizes, Applies, Applies_all, Binds, Binds_to, Stuck, Stuck_all, Stuck_run, Stuck_runs, Unfold_all, Unfolds}

-- ---- declared types around a term

abbrev pub is_declared : Act → Bool
is_declared (act.Declared t) = true
is_declared a = false

-- a term without declared types around it, each from the number of its node
pub data Peels : ℕ → FlatTerm → ℕ → FlatTerm → Type 0 where
  bare : {lo : ℕ} {t : FlatTerm} → Peels lo t lo t
  declared : {lo lo' : ℕ} {u : FlatType} {mark : Place} {e t : FlatTerm} → Peels (lo + 1) e lo' t → Peels lo (Strict (Declared u) mark (term_and e no_term)) lo' t

pub data Peeled_to (lo : ℕ) (e : FlatTerm) : Result Peeled Refusal → Type 0 where
  peeled_to : {r : Peeled} → Peels lo e r.at (term_of r.exp.now) → Peeled_to lo e (Ok r)
  not_peeled : Peeled_to lo e (Err Memory)

-- ---- what is written behind a reference

-- the answer of a call that writes what it walks
abbrev pub written : {A : Type 0} → Result (Unit {0}) Refusal → A → Result A Refusal
written (Ok u) w = Ok w
written (Err r) w = Err r

-- and of one that writes nothing where shapes differ
abbrev pub agreed : {A : Type 0} → Result Shapes Refusal → A → Result (Option A) Refusal
agreed (Ok shapes.Agree) w = Ok (Some w)
agreed (Ok shapes.Differ) w = Ok None
agreed (Err r) w = Err r

-- ---- terms

abbrev pub told : Context → Held_told
told c = c.told

abbrev pub defined : Context → Tops
defined c = tops_of c.tops

-- the steps grew by those of the term, and so did the names
pub data Unfolded (c : Context) (sc : Scope) (lo : ℕ) (t : FlatTerm) (old new : Unfolding) : Result Walked Refusal → Type 0 where
  unfolded : {r : Walked} (bs : Bindings) → steps_of new ≡ steps_of old ++ bs → Unfolds (told c) (defined c) sc lo t old.next bs (known_of r.known) new.next → r.at ≡ lo + numbers t → Unfolded c sc lo t old new (Ok r)
  refused : {r : Refusal} → Refused (Stuck (told c) (defined c) sc lo t) r → Unfolded c sc lo t old new (Err r)

-- why a term gives no scalar
pub data Not_scalar (c : Context) (sc : Scope) (lo : ℕ) (t : FlatTerm) : Type 0 where
  stuck_term : Stuck (told c) (defined c) sc lo t → Not_scalar c sc lo t
  other_value : {n n' : ℕ} {bs : Bindings} {s : Known} → Unfolds (told c) (defined c) sc lo t n bs s n' → No_scalar s → Not_scalar c sc lo t

pub data Scalar_unfolded (c : Context) (sc : Scope) (lo : ℕ) (t : FlatTerm) (old new : Unfolding) : Result WalkedScalar Refusal → Type 0 where
  scalar_unfolded : {r : WalkedScalar} (bs : Bindings) → steps_of new ≡ steps_of old ++ bs → Unfolds (told c) (defined c) sc lo t old.next bs (Scalar_known r.atom) new.next → r.at ≡ lo + numbers t → Scalar_unfolded c sc lo t old new (Ok r)
  no_scalar_unfolded : {r : Refusal} → Refused (Not_scalar c sc lo t) r → Scalar_unfolded c sc lo t old new (Err r)

pub data All_unfolded (c : Context) (sc : Scope) (lo : ℕ) (ts : Terms Ref BindId) (old new : Unfolding) : Result Parts Refusal → Type 0 where
  all_unfolded : {r : Parts} (bs : Bindings) → steps_of new ≡ steps_of old ++ bs → Unfold_all (told c) (defined c) sc lo ts old.next bs (map known_of r.knowns.now) new.next → r.at ≡ lo + all_numbers ts → All_unfolded c sc lo ts old new (Ok r)
  all_refused : {r : Refusal} → Refused (Stuck_all (told c) (defined c) sc lo ts) r → All_unfolded c sc lo ts old new (Err r)

pub data Applied (c : Context) (f s : Known) (old new : Unfolding) : Result Held_known Refusal → Type 0 where
  applied : {r : Held_known} (bs : Bindings) → steps_of new ≡ steps_of old ++ bs → Applies (told c) (defined c) f s old.next bs (known_of r) new.next → Applied c f s old new (Ok r)
  not_applied : {r : Refusal} → Refused (Stuck_run (told c) (defined c) f s) r → Applied c f s old new (Err r)

-- the same by the number behind that of the term's own node
abbrev pub Unfolded_inside : Context → Scope → ℕ → FlatTerm → Unfolding → Unfolding → Result Walked Refusal → Type 0
Unfolded_inside c sc inside t old new r = (lo : ℕ) → inside ≡ lo + 1 → Unfolded c sc lo t old new r

-- what is known of a value, before the node of a number
pub data Walked_to (at : ℕ) : Result Held_known Refusal → Result Walked Refusal → Type 0 where
  walked_to : {s : Held_known} → Walked_to at (Ok s) (Ok (record { known = s; at = at }))
  not_walked : {r : Refusal} → Walked_to at (Err r) (Err r)

-- an operation on parts
pub data Operated_to (T : Held_told) (sc : Scope) (lo : ℕ) (o : Operation Ref BindId) (mark : Place) (parts : Parts) (old new : Unfolding) : Result Walked Refusal → Type 0 where
  operated_to : {s : Held_known} → Operated_at T sc lo o mark (map known_of parts.knowns.now) old.next (steps_of old) (steps_of new) new.next (Ok s) → Operated_to T sc lo o mark parts old new (Ok (record { known = s; at = parts.at }))
  not_operated : {r : Refusal} → Refused (No_operation (integer_at T.types.now lo) o mark (map known_of parts.knowns.now)) r → Operated_to T sc lo o mark parts old new (Err r)

-- a use
pub data Use_known (c : Context) (sc : Scope) (name : Ref) (lo : ℕ) (e : Exp) (old new : Unfolding) : Result Walked Refusal → Type 0 where
  use_known : {r : Walked} → Used_to (told c).sizes (defined c) sc name e.place old.next (steps_of old) (steps_of new) new.next (Ok r.known) → r.at ≡ lo + numbers (term_of e) → Use_known c sc name lo e old new (Ok r)
  no_use : {r : Refusal} → Refused (No_use (told c).sizes (defined c) sc name e.place) r → Use_known c sc name lo e old new (Err r)

-- a function, by the number behind that of its own node
pub data Lambda_known (sc : Scope) (inside : ℕ) (ps : Patterns Ref BindId) (e : FlatTerm) : Result Walked Refusal → Type 0 where
  lambda_known : {r : Walked} → known_of r.known ≡ Function_known ps e (inside + all_pattern_numbers ps) sc → r.at ≡ inside + all_pattern_numbers ps + numbers e → Lambda_known sc inside ps e (Ok r)
  no_lambda : Lambda_known sc inside ps e (Err Memory)

-- what a function captured
abbrev pub scope_in : Function → Scope
scope_in f = seeing (names_of f.names.now) (entered_of f.entered.now)

-- the node of the first parameter that is left
abbrev pub node_of : Function → ℕ
node_of f = first_node (patterns (map pattern_of f.parameters.now)) f.first

-- the names around the body of a function whose first parameter is bound to an argument
pub data Argued (S : Held_sizes) (f : Function) (s : Known) (old new : Unfolding) : Result Held_scope Refusal → Type 0 where
  argued : {inner : Held_scope} (d : Pat) (bs : Bindings) → (length f.parameters.now ≡ 0 → ⊥) → steps_of new ≡ steps_of old ++ bs → Binds S (node_of f) (pattern_of (get_or f.parameters.now 0 d)) s (scope_in f) old.next bs (scope_of inner) new.next → Argued S f s old new (Ok inner)
  not_argued : {r : Refusal} → Refused ((w : Told) (tops : Tops) → lacking.Stuck_run w tops (function_of f) s) r → Argued S f s old new (Err r)

-- a function applied to arguments, one after the other
pub data All_applied (c : Context) (ss : List Known) (f : Known) (old new : Unfolding) : Result Held_known Refusal → Type 0 where
  all_applied : {r : Held_known} (bs : Bindings) → steps_of new ≡ steps_of old ++ bs → Applies_all (told c) (defined c) ss f old.next bs (known_of r) new.next → All_applied c ss f old new (Ok r)
  not_all_applied : {r : Refusal} → Refused (Stuck_runs (told c) (defined c) ss f) r → All_applied c ss f old new (Err r)

-- a primitive on arrays that has all its arguments, of which the last one is told
abbrev pub Job_applied : Context → Primitive → Place → List Known → Unfolding → Unfolding → Result Held_known Refusal → Type 0
Job_applied c p at ss old new r = (gs : Knowns) (s : Known) → ss ≡ listed gs ++ s ∷ [] → Is_ready p ss → Applied c (Primitive_known p at gs) s old new r

-- ---- blocks

abbrev pub is_component : Known → Bool
is_component (Scalar_known u) = true
is_component s = false

-- what is known of a value, as it is or as one component
pub data Becomes : Known → ℕ → Bindings → Known → ℕ → Type 0 where
  stays : {s : Known} {n : ℕ} → Becomes s n [] s n
  becomes_one : {s : Known} {n m : ℕ} {bs : Bindings} {u : Atom} → Packs s n bs u m → Becomes s n bs (Scalar_known u) m

pub data Packed_walk (w : Walked) (old new : Unfolding) : Result Walked Refusal → Type 0 where
  packed_walk : {r : Walked} {u : Atom} (bs : Bindings) → steps_of new ≡ steps_of old ++ bs → Packs (known_of w.known) old.next bs u new.next → known_of r.known ≡ Scalar_known u → r.at ≡ w.at → Packed_walk w old new (Ok r)
  not_packed_walk : {r : Refusal} → Refused (No_data (known_of w.known)) r → Packed_walk w old new (Err r)

-- the steps behind the mark and some more are those of a block with these results, and those before the mark are left
abbrev pub Is_block : ℕ → Bindings → Bindings → Bindings → List Atom → Body → Type 0
Is_block mark before after bs us b = (outside inside : Bindings) → length outside ≡ mark → before ≡ outside ++ inside → (after ≡ outside) × (b ≡ plain.lets (inside ++ bs) us)

-- what has been walked as a block: the steps behind the mark, and its value as data of the shape that is asked for; none where it
-- is of another shape, or too large, and more than one component is asked for
pub data Closed_to (mark : ℕ) (like : Known) (w : Walked) (old new : Unfolding) : Result (Option Branch) Refusal → Type 0 where
  closed_to : {r : Branch} {s : Known} (bs : Bindings) (us : List Atom) → Becomes (known_of w.known) old.next bs s new.next → Laid (shape_of like) s us [] → Is_block mark (steps_of old) (steps_of new) bs us (body_of r.block.now) → r.at ≡ w.at → Closed_to mark like w old new (Ok (Some r))
  other_form : is_component like ≡ false → steps_of new ≡ steps_of old → Closed_to mark like w old new (Ok None)
  not_closed : {r : Refusal} → Refused (No_data (known_of w.known)) r → Closed_to mark like w old new (Err r)

-- the same, where one component is asked for
abbrev pub Packed_closed : ℕ → Walked → Unfolding → Unfolding → Result (Option Branch) Refusal → Type 0
Packed_closed mark = Closed_to mark (constant (scalar.Bool true))

-- and for a scalar, which is one
pub data Scalar_closed (mark : ℕ) (w : WalkedScalar) (old new : Unfolding) : Result Branch Refusal → Type 0 where
  scalar_closed : {r : Branch} → Is_block mark (steps_of old) (steps_of new) [] (w.atom ∷ []) (body_of r.block.now) → new.next ≡ old.next → r.at ≡ w.at → Scalar_closed mark w old new (Ok r)
  not_scalar_closed : Scalar_closed mark w old new (Err Memory)

-- why a term is no block: there is no way on in it, or what it gives is or holds a function
pub data No_block (c : Context) (sc : Scope) (lo : ℕ) (t : FlatTerm) : Type 0 where
  stuck_inside : Stuck (told c) (defined c) sc lo t → No_block c sc lo t
  gives_function : {n n' : ℕ} {bs : Bindings} {s : Known} → Unfolds (told c) (defined c) sc lo t n bs s n' → No_data s → No_block c sc lo t

-- a term behind the steps from a mark on as a block; none where what it gives is of another shape
pub data Blocked_to (c : Context) (sc : Scope) (mark lo : ℕ) (t : FlatTerm) (like : Known) (old new : Unfolding) : Result (Option Branch) Refusal → Type 0 where
  blocked_to : {r : Branch} {s : Known} (bs : Bindings) (us : List Atom) → Is_block mark (steps_of old) (steps_of new) bs us (body_of r.block.now) → Unfolds (told c) (defined c) sc lo t old.next bs s new.next → Laid (shape_of like) s us [] → r.at ≡ lo + numbers t → Blocked_to c sc mark lo t like old new (Ok (Some r))
  block_differs : (bs : Bindings) → is_component like ≡ false → steps_of new ≡ steps_of old ++ bs → Blocked_to c sc mark lo t like old new (Ok None)
  not_blocked : {r : Refusal} → Refused (No_block c sc lo t) r → Blocked_to c sc mark lo t like old new (Err r)

-- one more step, which gives data of the shape of what is known under new names
pub data Stepped_to (like : Known) (a : Action) (at : ℕ) (old new : Unfolding) : Result (Option Walked) Refusal → Type 0 where
  stepped_to : {s : Held_known} (xs : List ℕ) → steps_of new ≡ steps_of old ++ step xs a → Upward old.next xs new.next → Laid (shape_of like) (known_of s) (names xs) [] → Stepped_to like a at old new (Ok (Some (record { known = s; at = at })))
  not_stepped : {r : Refusal} → Refused (No_data like) r → Stepped_to like a at old new (Err r)

-- ---- branches

-- the shape that is asked for: one component where both branches are packed, else that of the first one
pub data Asked (packs : Bool) (s : Known) : Known → Type 0 where
  asked_one : {u : Atom} → packs ≡ true → Asked packs s (Scalar_known u)
  asked_same : packs ≡ false → Asked packs s s

-- Both branches, once the condition is known: what the whole unfolds to, from where its condition was unfolded.
pub record Branched (c : Context) (sc : Scope) (truth : WalkedScalar) (ta tb : FlatTerm) (old new : Unfolding) (r : Walked) : Type 0 where
  pub steps : Bindings
  pub grown : steps_of new ≡ steps_of old ++ steps
  pub unfolds : (lo n : ℕ) (bs : Bindings) (tc : FlatTerm) → truth.at ≡ 1 + lo + numbers tc → Unfolds (told c) (defined c) sc (1 + lo) tc n bs (Scalar_known truth.atom) old.next → Unfolds (told c) (defined c) sc lo (If tc ta tb) n (bs ++ steps) (known_of r.known) new.next
  pub behind : r.at ≡ truth.at + numbers ta + numbers tb

abbrev pub Branches_stuck : Context → Scope → WalkedScalar → FlatTerm → FlatTerm → Unfolding → Type 0
Branches_stuck c sc truth ta tb old =
    (lo n : ℕ) (bs : Bindings) (tc : FlatTerm) → truth.at ≡ 1 + lo + numbers tc → Unfolds (told c) (defined c) sc (1 + lo) tc n bs (Scalar_known truth.atom) old.next → Stuck (told c) (defined c) sc lo (If tc ta tb)

pub data Branches_to (c : Context) (sc : Scope) (truth : WalkedScalar) (ta tb : FlatTerm) (packs : Bool) (old new : Unfolding) : Result (Option Walked) Refusal → Type 0 where
  branches_to : {r : Walked} → Branched c sc truth ta tb old new r → Branches_to c sc truth ta tb packs old new (Ok (Some r))
  branches_differ : (bs : Bindings) → packs ≡ false → steps_of new ≡ steps_of old ++ bs → Branches_to c sc truth ta tb packs old new (Ok None)
  no_branches : {r : Refusal} → Refused (Branches_stuck c sc truth ta tb old) r → Branches_to c sc truth ta tb packs old new (Err r)

-- ---- loops

pub data Scalar_to (w : Walked) : Result WalkedScalar Refusal → Type 0 where
  scalar_to : {u : Atom} → known_of w.known ≡ Scalar_known u → Scalar_to w (Ok (record { atom = u; at = w.at }))
  no_scalar : {r : Refusal} → Refused (No_scalar (known_of w.known)) r → Scalar_to w (Err r)

-- the components of a loop's first value, and new names for its parameters
pub data Entered_to (s : Known) (n next : ℕ) : Result Entered Refusal → Type 0 where
  entered_to : {r : Entered} → Laid (shape_of s) s r.first.now [] → Upward n r.params.now next → Laid (shape_of s) (known_of r.known) (names r.params.now) [] → Entered_to s n next (Ok r)
  not_entered : {r : Refusal} → Refused (No_data s) r → Entered_to s n next (Err r)

-- the names of a turn, whose number has a name; the loop's pattern and the index have nodes
pub data Turn_bound_to (S : Held_sizes) (at : ℕ) (p : FlatPattern) (counter : ℕ) (i : BindId) (y : ℕ) (sc : Scope) (s : Known) (old new : Unfolding) : Result Held_scope Refusal → Type 0 where
  turn_bound_to : {inner : Held_scope} {inside : Scope} (bs : Bindings) → steps_of new ≡ steps_of old ++ bs → Binds S at p s sc old.next bs inside new.next → ((Z : Option Sizing) → Told_by S Z → scope_of inner ≡ name_and i (named y) (enter Z counter (named y) inside)) → Turn_bound_to S at p counter i y sc s old new (Ok inner)
  not_turn_bound : {r : Refusal} → Refused (Not_bound p s) r → Turn_bound_to S at p counter i y sc s old new (Err r)

-- why there are no names of a turn for a row: the pattern of the loop has not the form of its value, or that of the row none of a
-- component
pub data No_row_names (S : Held_sizes) (at : ℕ) (p q : FlatPattern) (y : ℕ) (sc : Scope) (s : Known) : Type 0 where
  no_value_names : Not_bound p s → No_row_names S at p q y sc s
  no_names_of_row : {inside : Scope} → Binds_to S at p s sc inside → Not_bound q (named y) → No_row_names S at p q y sc s

pub data Row_bound_to (S : Held_sizes) (at : ℕ) (p : FlatPattern) (row_at : ℕ) (q : FlatPattern) (y : ℕ) (sc : Scope) (s : Known) (old new : Unfolding) : Result Held_scope Refusal → Type 0 where
  row_bound_to : {inner : Held_scope} {inside : Scope} {k : ℕ} (bs cs : Bindings) → steps_of new ≡ steps_of old ++ (bs ++ cs) → Binds S at p s sc old.next bs inside k → Binds S row_at q (named y) inside k cs (scope_of inner) new.next → Row_bound_to S at p row_at q y sc s old new (Ok inner)
  not_row_bound : {r : Refusal} → Refused (No_row_names S at p q y sc s) r → Row_bound_to S at p row_at q y sc s old new (Err r)

-- A loop, once its first value is known: what it unfolds to in all, from where its first value was unfolded.
pub record Looped (c : Context) (sc : Scope) (inside : ℕ) (l : LoopTree) (turns : erased.FlatTurns) (first : Walked) (old new : Unfolding) (r : Walked) : Type 0 where
  pub steps : Bindings
  pub grown : steps_of new ≡ steps_of old ++ steps
  pub unfolds : (lo n : ℕ) (bs : Bindings) → inside ≡ lo + 1 → first.at ≡ 1 + lo + pattern_numbers (pattern_of l.pat) + numbers (term_of l.first) → Unfolds (told c) (defined c) sc (1 + lo + pattern_numbers (pattern_of l.pat)) (term_of l.first) n bs (known_of first.known) old.next → Unfolds (told c) (defined c) sc lo (Loop l.mark l.sizes.now (pattern_of l.pat) (term_of l.first) turns (term_of l.body)) n (bs ++ steps) (known_of r.known) new.next
  pub behind : r.at ≡ first.at + Rattle.fut_flat.specs.Numbers.turn_numbers turns + numbers (term_of l.body)

-- there is no way on in it, wherever its first value was unfolded
abbrev pub Loop_stuck : Context → Scope → ℕ → LoopTree → erased.FlatTurns → Walked → Unfolding → Type 0
Loop_stuck c sc inside l turns first old =
    (lo n : ℕ) (bs : Bindings) → inside ≡ lo + 1 → first.at ≡ 1 + lo + pattern_numbers (pattern_of l.pat) + numbers (term_of l.first) → Unfolds (told c) (defined c) sc (1 + lo + pattern_numbers (pattern_of l.pat)) (term_of l.first) n bs (known_of first.known) old.next
    → Stuck (told c) (defined c) sc lo (Loop l.mark l.sizes.now (pattern_of l.pat) (term_of l.first) turns (term_of l.body))

-- none where the first value is more than one component, and a turn gives data of another shape
pub data Looped_to (c : Context) (sc : Scope) (inside : ℕ) (l : LoopTree) (turns : erased.FlatTurns) (first : Walked) (old new : Unfolding) : Result (Option Walked) Refusal → Type 0 where
  looped_to : {r : Walked} → Looped c sc inside l turns first old new r → Looped_to c sc inside l turns first old new (Ok (Some r))
  turns_differ : (bs : Bindings) → is_component (known_of first.known) ≡ false → steps_of new ≡ steps_of old ++ bs → Looped_to c sc inside l turns first old new (Ok None)
  not_looped : {r : Refusal} → Refused (Loop_stuck c sc inside l turns first old) r → Looped_to c sc inside l turns first old new (Err r)

-- the first try: none where it has to be packed, and then as many steps and names stand as before
pub data Tried_to (c : Context) (sc : Scope) (inside : ℕ) (l : LoopTree) (turns : erased.FlatTurns) (first : Walked) (old new : Unfolding) : Result (Option Walked) Refusal → Type 0 where
  tried_to : {r : Walked} → Looped c sc inside l turns first old new r → Tried_to c sc inside l turns first old new (Ok (Some r))
  has_to_pack : steps_of new ≡ steps_of old → new.next ≡ old.next → Tried_to c sc inside l turns first old new (Ok None)
  not_tried : {r : Refusal} → Refused (Loop_stuck c sc inside l turns first old) r → Tried_to c sc inside l turns first old new (Err r)

-- why a condition is no block in the names of a pattern
pub data No_truth (c : Context) (sc : Scope) (at : ℕ) (p : FlatPattern) (lo : ℕ) (t : FlatTerm) (s : Known) : Type 0 where
  no_names_of_value : Not_bound p s → No_truth c sc at p lo t s
  stuck_truth : {inner : Scope} → Binds_to (told c).sizes at p s sc inner → Stuck (told c) (defined c) inner lo t → No_truth c sc at p lo t s
  other_truth : {inner : Scope} {n n' : ℕ} {bs : Bindings} {s' : Known} → Binds_to (told c).sizes at p s sc inner → Unfolds (told c) (defined c) inner lo t n bs s' n' → No_scalar s' → No_truth c sc at p lo t s

-- a condition as a block of its own, in the names of a pattern
pub data Tested_to (c : Context) (sc : Scope) (at : ℕ) (p : FlatPattern) (lo : ℕ) (t : FlatTerm) (s : Known) (old new : Unfolding) : Result Branch Refusal → Type 0 where
  tested_to : {r : Branch} {inner : Scope} {k : ℕ} {u : Atom} (es cs : Bindings) → steps_of new ≡ steps_of old → Binds (told c).sizes at p s sc old.next es inner k → Unfolds (told c) (defined c) inner lo t k cs (Scalar_known u) new.next → body_of r.block.now ≡ plain.lets (es ++ cs) (u ∷ []) → r.at ≡ lo + numbers t → Tested_to c sc at p lo t s old new (Ok r)
  not_tested : {r : Refusal} → Refused (No_truth c sc at p lo t s) r → Tested_to c sc at p lo t s old new (Err r)

-- ---- rows of lets

-- what a term still unfolds to, from what it has unfolded to, or that there is no way on
pub record Leads (c : Context) (sc : Scope) (lo : ℕ) (e : FlatTerm) (n : ℕ) (bs : Bindings) (sc' : Scope) (lo' : ℕ) (e' : FlatTerm) (n' : ℕ) : Type 0 where
  pub unfolds : (cs : Bindings) (s : Known) (m : ℕ) → Unfolds (told c) (defined c) sc' lo' e' n' cs s m → Unfolds (told c) (defined c) sc lo e n (bs ++ cs) s m
  pub stuck : Stuck (told c) (defined c) sc' lo' e' → Stuck (told c) (defined c) sc lo e
  pub behind : lo' + numbers e' ≡ lo + numbers e

-- a row of lets, whatever stands behind it
pub data Row_unfolded (c : Context) (before : Row) (ls : List erased.Row) (old new : Unfolding) : Result Row Refusal → Type 0 where
  row_unfolded : {r : Row} (bs : Bindings) → steps_of new ≡ steps_of old ++ bs → ((body : FlatTerm) → Leads c (scope_of before.scope) before.at (lets ls body) old.next bs (scope_of r.scope) r.at body new.next) → Row_unfolded c before ls old new (Ok r)
  row_refused : {r : Refusal} → Refused ((body : FlatTerm) → Stuck (told c) (defined c) (scope_of before.scope) before.at (lets ls body)) r → Row_unfolded c before ls old new (Err r)
