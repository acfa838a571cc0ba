-- What the calls of unfolding answer. Where one is lost there is no way on; want of memory says nothing.
use Rattle.std.specs.Prelude.{◌≡◌, ℕ, suc, ◌+◌, ◌++◌, List, [], ◌∷◌, map, length, nat_lt, Bool, true, false, Result, Ok, Err, Option, Some, None}
use Rattle.std.specs.Str.{bytes_eq}
use Rattle.std.specs.Borrow.{Bor}
use Rattle.fut_scalar.specs.declared.operator.BinOp.{BinOp}
use Rattle.fut_scalar.specs.declared.operator.UnOp.{UnOp}
use Rattle.fut_scalar.specs.declared.place.BindId.{BindId}
use Rattle.fut_scalar.specs.declared.place.Place.{Place}
use Rattle.fut_scalar.specs.declared.scalar.IntType.{IntType}
use Rattle.fut_scalar.specs.declared.scalar.Scalar.TheVariants as scalar
use Rattle.fut_ast.specs.Sorts.{Text}
use Rattle.fut_flat.specs.declared.prim.Primitive.{Primitive}
use Rattle.fut_flat.specs.declared.prim.Ref.{Ref}
use Rattle.fut_flat.specs.declared.prim.Ref.TheVariants as ref
use Rattle.fut_flat.specs.Erased.{FlatPattern, FlatType, pattern_of, patterns}
use Rattle.fut_flat.specs.Terms.{Patterns, Record_pattern, Operation, Coerce, Use}
use Rattle.fut_meaning.specs.Operations.{arity, is_of_scalars}
use Rattle.fut_blocks.specs.declared.block.Atom.{Atom}
use Rattle.fut_blocks.specs.declared.block.Atom.TheVariants as atom
use Rattle.fut_blocks.specs.declared.block.Block.{Block}
use Rattle.fut_blocks.specs.declared.block.Operation.TheVariants as operation
use Rattle.fut_blocks.specs.Numbered.{Upward}
use Rattle.fut_blocks.specs.Rows.{Size_test}
use Rattle.fut_blocks.specs.Plain as plain
use Rattle.fut_blocks.specs.Plain.{Action, Operate, Read, Fields_at, Replace_at, lets, body_of}
use Rattle.unfold.specs.Held.{known_of, scope_of, fields_known}
use Rattle.fut_flat.specs.Numbers.{pattern_numbers, all_pattern_numbers}
use Rattle.unfold.specs.Knowns.{Known, Scalar_known, Tuple_known, Record_known, Primitive_known, Knowns, Known_fields, Scope, Tops, find, listed, knowns, name_and}
use Rattle.unfold.specs.Telling.{enter, known_row}
use Rattle.unfold.specs.Stuck.{Not_bound, No_operation, No_primitive}
use Rattle.unfold.specs.Unfolding.{Bindings, step, named, both_hold, Equals, All_equal, Packs, Packs_all, field_knowns, Primitive_operates}
use Rattle.unfold.specs.declared.known.Known.{Known as Held_known}
use Rattle.unfold.specs.declared.known.Scope.{Scope as Held_scope}
use Rattle.fut_meaning.specs.Found.{Sizing, Told}
use Rattle.told_rows.specs.Tables.{Told_by}
use Rattle.unfold.specs.Unfolding as rules
use Rattle.unfold.specs.Stuck as lacking
use Rattle.unfold_parts.specs.Told.{Held_sizes, Enters, Binds, All_bind, Operates, Operates_at}
use Rattle.unfold_parts.specs.Tables.{integer_at}
use Rattle.unfold_parts.specs.declared.patterns.Bound.{Bound}
use Rattle.unfold_parts.specs.declared.told.Told.{Told as Held_told}
use Rattle.unfold_parts.specs.Refused.{Refused, Not_all_bound, Not_packed, Not_all_packed, Not_compared, Not_both_compared, Not_all_compared}
use Rattle.unfold_parts.specs.declared.equality.Pair.{Pair}
use Rattle.unfold_parts.specs.declared.new_names.Named.{Named}
use Rattle.unfold_parts.specs.declared.patterns.Given.{Given}
use Rattle.unfold_parts.specs.declared.primitives.Applied.{Applied}
use Rattle.unfold_parts.specs.declared.refusal.Refusal.{Refusal}
use Rattle.unfold_parts.specs.declared.refusal.Refusal.TheVariants.{Memory}

-- the steps grew by some that give this answer, and so far the names are taken
pub data Answered {A : Type 0} (Gives : Bindings → A → ℕ → Type 0) (Lacks : Type 0) (before after : Bindings) (next : ℕ) : Result A Refusal → Type 0 where
  answered : {a : A} (bs : Bindings) → after ≡ before ++ bs → Gives bs a next → Answered Gives Lacks before after next (Ok a)
  unanswered : {r : Refusal} → Refused Lacks r → Answered Gives Lacks before after next (Err r)

-- ---- names and patterns

-- a name that is no size's: what is known of it, where something is
pub data Name_known (tops : Tops) (sc : Scope) (k : ℕ) : Result Held_known Refusal → Type 0 where
  name_known : {s : Held_known} → find tops sc k ≡ Some (known_of s) → Name_known tops sc k (Ok s)
  name_unknown : {r : Refusal} → Refused (find tops sc k ≡ None) r → Name_known tops sc k (Err r)

-- a use, whichever node it has
abbrev pub Uses : Held_sizes → Tops → Scope → Ref → Place → ℕ → Bindings → Known → ℕ → Type 0
Uses S tops sc name at n bs s m = (told : Told) → Told_by S told.sizes → (lo k : ℕ) → rules.Unfolds told tops sc lo (Use name at k) n bs s m

abbrev pub No_use : Held_sizes → Tops → Scope → Ref → Place → Type 0
No_use S tops sc name at = (told : Told) → Told_by S told.sizes → (lo k : ℕ) → lacking.Stuck told tops sc lo (Use name at k)

abbrev pub Used_to : Held_sizes → Tops → Scope → Ref → Place → ℕ → Bindings → Bindings → ℕ → Result Held_known Refusal → Type 0
Used_to S tops sc name at n = Answered (λ bs s next. Uses S tops sc name at n bs (known_of s) next) (No_use S tops sc name at)

abbrev pub Primitive_used : Primitive → Place → Known → Type 0
Primitive_used p at s = (told : Told) (tops : Tops) (sc : Scope) (lo k n : ℕ) → rules.Unfolds told tops sc lo (Use (ref.Prim p) at k) n [] s n

abbrev pub Bound_to : Held_sizes → ℕ → FlatPattern → Known → Scope → ℕ → Bindings → Bindings → ℕ → Result Held_scope Refusal → Type 0
Bound_to S q p s sc n = Answered (λ bs inner next. Binds S q p s sc n bs (scope_of inner) next) (Not_bound p s)

-- the same, and the number of the node behind the pattern
pub record Is_bound (S : Held_sizes) (b : Bound) (p : FlatPattern) (s : Known) (n : ℕ) (bs : Bindings) (c : Bound) (next : ℕ) : Type 0 where
  pub binds : Binds S b.at p s (scope_of b.scope) n bs (scope_of c.scope) next
  pub behind : c.at ≡ b.at + pattern_numbers p

abbrev pub Bound_from : Held_sizes → Bound → FlatPattern → Known → ℕ → Bindings → Bindings → ℕ → Result Bound Refusal → Type 0
Bound_from S b p s n = Answered (Is_bound S b p s n) (Not_bound p s)

pub record All_are_bound (S : Held_sizes) (b : Bound) (ps : Patterns Ref BindId) (ss : List Known) (n : ℕ) (bs : Bindings) (c : Bound) (next : ℕ) : Type 0 where
  pub binds : All_bind S b.at ps ss (scope_of b.scope) n bs (scope_of c.scope) next
  pub behind : c.at ≡ b.at + all_pattern_numbers ps

abbrev pub All_bound_from : Held_sizes → Bound → Patterns Ref BindId → List Known → ℕ → Bindings → Bindings → ℕ → Result Bound Refusal → Type 0
All_bound_from S b ps ss n = Answered (All_are_bound S b ps ss n) (Not_all_bound ps ss)

-- inside a pattern that is entered with what is known
pub record Are_bound_inside (S : Held_sizes) (b : Bound) (s : Known) (ps : Patterns Ref BindId) (ss : List Known) (n : ℕ) (bs : Bindings) (c : Bound) (next : ℕ) : Type 0 where
  pub binds : (Z : Option Sizing) → Told_by S Z → rules.All_bind Z (1 + b.at) ps ss (enter Z b.at s (scope_of b.scope)) n bs (scope_of c.scope) next
  pub behind : c.at ≡ b.at + (1 + all_pattern_numbers ps)

abbrev pub Bound_inside : Held_sizes → Bound → Known → Patterns Ref BindId → List Known → ℕ → Bindings → Bindings → ℕ → Result Bound Refusal → Type 0
Bound_inside S b s ps ss n = Answered (Are_bound_inside S b s ps ss n) (Not_all_bound ps ss)

-- a pattern at the next node is entered, and its name is bound
pub record Is_entered (S : Held_sizes) (b : Bound) (s : Known) (c : Bound) : Type 0 where
  pub enters : Enters S b.at s (scope_of b.scope) (scope_of c.scope)
  pub behind : c.at ≡ b.at + 1

pub record Is_named (S : Held_sizes) (b : Bound) (k : BindId) (s : Known) (c : Bound) : Type 0 where
  pub names : (Z : Option Sizing) → Told_by S Z → scope_of c.scope ≡ name_and k s (enter Z b.at s (scope_of b.scope))
  pub behind : c.at ≡ b.at + 1

-- The parts of a value by which a pattern is bound to it: the value is bound by the steps that give them and those by which the
-- patterns of parts are bound to them, and where these lack, so does it.
pub record Parts_given (p : FlatPattern) (ps : Patterns Ref BindId) (s : Known) (n : ℕ) (bs : Bindings) (ss : List Known) (next : ℕ) : Type 0 where
  pub binds : (Z : Option Sizing) (q : ℕ) (sc inner : Scope) (cs : Bindings) (m : ℕ) → rules.All_bind Z (1 + q) ps ss (enter Z q s sc) next cs inner m → rules.Binds Z q p s sc n (bs ++ cs) inner m
  pub numbers : pattern_numbers p ≡ 1 + all_pattern_numbers ps
  pub lacks : Not_all_bound ps ss → Not_bound p s

abbrev pub Given_to : FlatPattern → Patterns Ref BindId → Known → ℕ → Bindings → Bindings → ℕ → Result (Bor (List Held_known)) Refusal → Type 0
Given_to p ps s n = Answered (λ bs given next. Parts_given p ps s n bs (map known_of given.now) next) (Not_bound p s)

-- the same with the patterns of the parts
pub record Fields_are_given (fs : List Text) (ps : Patterns Ref BindId) (s : Known) (n : ℕ) (bs : Bindings) (g : Given) (next : ℕ) : Type 0 where
  pub patterns : patterns (map pattern_of g.pats.now) ≡ ps
  pub parts : Parts_given (Record_pattern fs ps) ps s n bs (map known_of g.knowns.now) next

abbrev pub Fields_given : List Text → Patterns Ref BindId → Known → ℕ → Bindings → Bindings → ℕ → Result Given Refusal → Type 0
Fields_given fs ps s n = Answered (Fields_are_given fs ps s n) (Not_bound (Record_pattern fs ps) s)

-- ---- new names

-- so many new names, and components that have them
pub record Are_named (count n : ℕ) (names : List ℕ) (ss : List Known) (next : ℕ) : Type 0 where
  pub upward : Upward n names next
  pub many : length names ≡ count
  pub knowns : ss ≡ map named names

pub data Newly_named (count n next : ℕ) : Result Named Refusal → Type 0 where
  newly_named : {r : Named} → Are_named count n r.names.now (map known_of r.knowns.now) next → Newly_named count n next (Ok r)
  not_newly_named : Newly_named count n next (Err Memory)

-- one step, which gives so many components new names
pub data Opened (a : Action) (count n : ℕ) : Bindings → List Known → ℕ → Type 0 where
  opened : {xs : List ℕ} {ss : List Known} {next : ℕ} → Are_named count n xs ss next → Opened a count n (step xs a) ss next

abbrev pub Opened_to : Action → ℕ → ℕ → Bindings → Bindings → ℕ → Result (Bor (List Held_known)) Refusal → Type 0
Opened_to a count n = Answered (λ bs given next. Opened a count n bs (map known_of given.now) next) ⊥

-- the fields of a component
abbrev pub Fields_read : List Text → Atom → ℕ → Bindings → Bindings → ℕ → Result (Bor (List Held_known)) Refusal → Type 0
Fields_read fs u = Opened_to (Read (Fields_at fs) (u ∷ [])) (length fs)

-- ---- one component

abbrev pub Packed_to : Known → ℕ → Bindings → Bindings → ℕ → Result Atom Refusal → Type 0
Packed_to s n = Answered (Packs s n) (Not_packed s)

abbrev pub All_packed_to : List Known → ℕ → Bindings → Bindings → ℕ → Result (Bor (List Atom)) Refusal → Type 0
All_packed_to ss n = Answered (λ bs us next. Packs_all ss n bs us.now next) (Not_all_packed ss)

abbrev pub Record_packed_to : Known_fields → ℕ → Bindings → Bindings → ℕ → Result Atom Refusal → Type 0
Record_packed_to fs = Packed_to (Record_known fs)

-- ---- steps

pub data Named_as (n next : ℕ) : Result ℕ Refusal → Type 0 where
  named_as : next ≡ suc n → Named_as n next (Ok n)
  not_named : Named_as n next (Err Memory)

pub data Pushed (s : List ℕ × Action) (before after : Bindings) : Result (Unit {0}) Refusal → Type 0 where
  pushed : {u : Unit {0}} → after ≡ before ++ s ∷ [] → Pushed s before after (Ok u)
  not_pushed : Pushed s before after (Err Memory)

-- one step, whose result has the next name
pub data Computed (a : Action) (n : ℕ) (before after : Bindings) (next : ℕ) : Result Atom Refusal → Type 0 where
  computed : after ≡ before ++ step (n ∷ []) a → next ≡ suc n → Computed a n before after next (Ok (atom.Name n))
  not_computed : Computed a n before after next (Err Memory)

-- the first steps are left
abbrev pub Cut : ℕ → Bindings → Bindings → Type 0
Cut mark before after = (outside inside : Bindings) → length outside ≡ mark → before ≡ outside ++ inside → after ≡ outside

-- the steps behind the first ones are those of the block, and the first ones are left
pub data Blocked (mark : ℕ) (us : List Atom) (before after : Bindings) : Result (Bor Block) Refusal → Type 0 where
  blocked : {b : Bor Block} → ((outside inside : Bindings) → length outside ≡ mark → before ≡ outside ++ inside → (after ≡ outside) × (body_of b.now ≡ lets inside us)) → Blocked mark us before after (Ok b)
  not_blocked : Blocked mark us before after (Err Memory)

-- ---- operations

-- one step, which gives a scalar the next name
pub data Is_step (a : Action) (n : ℕ) : Bindings → Known → ℕ → Type 0 where
  is_step : Is_step a n (step (n ∷ []) a) (named n) (suc n)

-- the same for an operation on the parts, which are scalars
pub data On_one (op : UnOp) (ss : List Known) (n : ℕ) (bs : Bindings) (s : Known) (next : ℕ) : Type 0 where
  on_one : {u : Atom} → ss ≡ Scalar_known u ∷ [] → Is_step (Operate (operation.Unary op u)) n bs s next → On_one op ss n bs s next

pub data On_two (op : BinOp) (at : Place) (ss : List Known) (n : ℕ) (bs : Bindings) (s : Known) (next : ℕ) : Type 0 where
  on_two : {u w : Atom} → ss ≡ Scalar_known u ∷ Scalar_known w ∷ [] → Is_step (Operate (operation.Binary op at u w)) n bs s next → On_two op at ss n bs s next

-- one step on parts, each as a component
pub data Made (make : List Atom → Action) (ss : List Known) (n : ℕ) (bs : Bindings) (s : Known) (next : ℕ) : Type 0 where
  made : {m : ℕ} {cs ds : Bindings} {us : List Atom} → Packs_all ss n cs us m → Is_step (make us) m ds s next → bs ≡ cs ++ ds → Made make ss n bs s next

abbrev pub Made_to : (List Atom → Action) → List Known → ℕ → Bindings → Bindings → ℕ → Result Held_known Refusal → Type 0
Made_to make ss n = Answered (λ bs s next. Made make ss n bs (known_of s) next) (Not_all_packed ss)

-- another value of a field of a component
pub data Changed (f : Text) (u : Atom) (s : Known) (n : ℕ) (bs : Bindings) (t : Known) (next : ℕ) : Type 0 where
  changed : {m : ℕ} {cs ds : Bindings} {w : Atom} → Packs s n cs w m → Is_step (Read (Replace_at f) (u ∷ w ∷ [])) m ds t next → bs ≡ cs ++ ds → Changed f u s n bs t next

abbrev pub Changed_to : Text → Atom → Known → ℕ → Bindings → Bindings → ℕ → Result Held_known Refusal → Type 0
Changed_to f u s n = Answered (λ bs t next. Changed f u s n bs (known_of t) next) (Not_packed s)

-- an operation without steps, whatever the type of an integer without a suffix
pub data At_once (o : Operation Ref BindId) (ss : List Known) : Result Held_known Refusal → Type 0 where
  at_once : {s : Held_known} → ((t : IntType) (at : Place) (n : ℕ) → Operates t o at ss n [] (known_of s) n) → At_once o ss (Ok s)
  not_at_once : {r : Refusal} → Refused ((t : IntType) (at : Place) → No_operation t o at ss) r → At_once o ss (Err r)

abbrev pub Operated : IntType → Operation Ref BindId → Place → List Known → ℕ → Bindings → Bindings → ℕ → Result Held_known Refusal → Type 0
Operated t o at ss n = Answered (λ bs s next. Operates t o at ss n bs (known_of s) next) (No_operation t o at ss)

-- under the names of a scope, at a node
abbrev pub Operated_at : Held_told → Scope → ℕ → Operation Ref BindId → Place → List Known → ℕ → Bindings → Bindings → ℕ → Result Held_known Refusal → Type 0
Operated_at T sc lo o at ss n = Answered (λ bs s next. Operates_at T sc lo o at ss n bs (known_of s) next) (No_operation (integer_at T.types.now lo) o at ss)

-- data that has to have the sizes of a written type, whichever
abbrev pub Coerced_at : Held_told → Scope → ℕ → Place → List Known → ℕ → Bindings → Bindings → ℕ → Result Held_known Refusal → Type 0
Coerced_at T sc lo at ss n before after next r = (t : FlatType) → Operated_at T sc lo (Coerce t) at ss n before after next r

-- data that has to have sizes, by a step without names
pub data Is_tested (test : Size_test) (at : Place) (s : Known) (n : ℕ) : Bindings → Known → ℕ → Type 0 where
  is_tested : Is_tested test at s n (step [] (plain.Coerce at test (known_row s))) s n

abbrev pub Tested_to : Size_test → Place → Known → ℕ → Bindings → Bindings → ℕ → Result Held_known Refusal → Type 0
Tested_to test at s n = Answered (λ bs t next. Is_tested test at s n bs (known_of t) next) ⊥

abbrev pub Operated_primitive : Primitive → Place → List Known → ℕ → Bindings → Bindings → ℕ → Result Held_known Refusal → Type 0
Operated_primitive p at ss n = Answered (λ bs s next. Primitive_operates p at ss n bs (known_of s) next) (No_primitive p at ss)

-- a primitive on arrays has all its arguments
pub record Is_ready (p : Primitive) (ss : List Known) : Type 0 where
  pub full : nat_lt (length ss) (arity p) ≡ false
  pub arrays : is_of_scalars p ≡ false

pub data Applied_primitive (p : Primitive) (at : Place) (ss : Knowns) (s : Known) (n : ℕ) (before after : Bindings) (next : ℕ) : Result Applied Refusal → Type 0 where
  primitive_applied : {s' : Held_known} (bs : Bindings) → after ≡ before ++ bs → ((told : Told) (tops : Tops) → rules.Applies told tops (Primitive_known p at ss) s n bs (known_of s') next) → Applied_primitive p at ss s n before after next (Ok (Applied.Known s'))
  primitive_ready : {given : Bor (List Held_known)} → map known_of given.now ≡ listed ss ++ s ∷ [] → Is_ready p (listed ss ++ s ∷ []) → after ≡ before → next ≡ n → Applied_primitive p at ss s n before after next (Ok (Applied.Ready given))
  primitive_refused : {r : Refusal} → Refused ((told : Told) (tops : Tops) → lacking.Stuck_run told tops (Primitive_known p at ss) s) r → Applied_primitive p at ss s n before after next (Err r)

-- ---- equality

abbrev pub Equal_to : Place → Known → Known → ℕ → Bindings → Bindings → ℕ → Result Atom Refusal → Type 0
Equal_to at s t n = Answered (Equals at s t n) (Not_compared at s t)

-- whether both of two parts are equal
pub data Both_equal (at : Place) (ss : List Known) (n : ℕ) (bs : Bindings) (u : Atom) (next : ℕ) : Type 0 where
  both_equal : {s t : Known} → ss ≡ s ∷ t ∷ [] → Equals at s t n bs u next → Both_equal at ss n bs u next

abbrev pub Both_equal_to : Place → List Known → ℕ → Bindings → Bindings → ℕ → Result Atom Refusal → Type 0
Both_equal_to at ss n = Answered (Both_equal at ss n) (Not_both_compared at ss)

abbrev pub All_equal_to : Place → Knowns → Knowns → ℕ → Bindings → Bindings → ℕ → Result Atom Refusal → Type 0
All_equal_to at ss ts n = Answered (All_equal at ss ts n) (Not_all_compared at ss ts)

-- fields of the same names
pub data Same_names : List (Text × Known) → List (Text × Known) → Type 0 where
  no_names : Same_names [] []
  same_name : {f g : Text × Known} {fs gs : List (Text × Known)} → bytes_eq f.0 g.0 ≡ true → Same_names fs gs → Same_names (f ∷ fs) (g ∷ gs)

-- the comparison of both as whole data, where both are data
abbrev pub Whole_equal_to : Place → Known → Known → ℕ → Bindings → Bindings → ℕ → Result Atom Refusal → Type 0
Whole_equal_to at s t n = Answered (Equals at s t n) (Not_all_packed (s ∷ t ∷ []))

-- both have parts, whose comparison is theirs
pub data Have_parts : Known → Known → List Known → List Known → Type 0 where
  have_parts : {ss ts : List Known} → length ss ≡ length ts → Have_parts (Tuple_known (knowns ss)) (Tuple_known (knowns ts)) ss ts
  have_fields : {fs gs : List (Text × Known)} → Same_names fs gs → Have_parts (Record_known (fields_known fs)) (Record_known (fields_known gs)) (field_knowns (fields_known fs)) (field_knowns (fields_known gs))

pub data Paired_to (s t : Known) : Result (Option Pair) Refusal → Type 0 where
  paired_to : {p : Pair} → Have_parts s t (map known_of p.lefts.now) (map known_of p.rights.now) → Paired_to s t (Ok (Some p))
  no_pair : Paired_to s t (Ok None)
  not_paired : Paired_to s t (Err Memory)

pub data Tuples_paired (ss ts : List Known) : Option Pair → Type 0 where
  tuples_paired : {p : Pair} → map known_of p.lefts.now ≡ ss → map known_of p.rights.now ≡ ts → length ss ≡ length ts → Tuples_paired ss ts (Some p)
  no_tuples_paired : Tuples_paired ss ts None

pub data Records_paired (fs gs : List (Text × Known)) : Result (Option Pair) Refusal → Type 0 where
  records_paired : {p : Pair} → map known_of p.lefts.now ≡ field_knowns (fields_known fs) → map known_of p.rights.now ≡ field_knowns (fields_known gs) → Same_names fs gs → Records_paired fs gs (Ok (Some p))
  no_records_paired : Records_paired fs gs (Ok None)
  not_records_paired : Records_paired fs gs (Err Memory)

-- the comparisons of parts, one after the other
pub data All_compared (at : Place) : List Known → List Known → ℕ → Bindings → List Atom → ℕ → Type 0 where
  none_compared : {n : ℕ} → All_compared at [] [] n [] [] n
  one_compared : {s t : Known} {ss ts : List Known} {n n1 n2 : ℕ} {bs cs : Bindings} {u : Atom} {us : List Atom} → Equals at s t n bs u n1 → All_compared at ss ts n1 cs us n2 → All_compared at (s ∷ ss) (t ∷ ts) n (bs ++ cs) (u ∷ us) n2

-- whether all hold, from the last one on
pub data All_hold : List Atom → ℕ → Bindings → Atom → ℕ → Type 0 where
  none_fails : {n : ℕ} → All_hold [] n [] (atom.Constant (scalar.Bool true)) n
  one_holds : {u w : Atom} {us : List Atom} {n n1 : ℕ} {bs : Bindings} → All_hold us n bs w n1 → All_hold (u ∷ us) n (bs ++ step (n1 ∷ []) (both_hold u w)) (atom.Name n1) (suc n1)

pub data Names_told (fs gs : List (Text × Known)) : Bool → Type 0 where
  same_names : Same_names fs gs → Names_told fs gs true
  other_names : (Same_names fs gs → ⊥) → Names_told fs gs false
