-- The rules of operations.
use Rattle.std.proofs.Common.{◌≡◌, ◌<◌, ◌+◌, ℕ, zero, suc, Bool, true, false, List, [], ◌∷◌, length, slice_index_or, Option, Some, None, refl, sym, ◌∙◌, ap, subst, arith}
use Rattle.std.specs.Borrow.{Bor}
use Rattle.fut_ast.specs.Sorts.{Text}
use Rattle.fut_ast.specs.declared.node.End.{End}
use Rattle.fut_scalar.specs.declared.operator.BinOp.{BinOp}
use Rattle.fut_scalar.specs.declared.scalar.IntType.{IntType}
use Rattle.fut_scalar.specs.declared.place.BindId.{BindId}
use Rattle.fut_flat.specs.declared.prim.Ref.{Ref}
use Rattle.fut_flat.specs.declared.act.Act.{Act}
use Rattle.fut_flat.specs.declared.act.Act.TheVariants as act
use Rattle.fut_flat.specs.declared.act.Part.{Part}
use Rattle.fut_flat.specs.declared.ty.TypeExp.{TypeExp}
use Rattle.fut_flat.specs.Terms.{Operation, Integer, Truth, Tuple_of, Record_of, Array_of, Binary, Negate, Complement, Index, Project, Update, Replace, Ascribe, Coerce, Declared, Assert, Range}
use Rattle.fut_flat.specs.Erased.{FlatType, operation_of}
use Rattle.fut_types.specs.declared.Kind.{Kind}
use Rattle.fut_types.specs.Types.{Ty, Sub, Kinds, Tys, none, more}
use Rattle.fut_typing.specs.Names.{Names}
use Rattle.fut_typing.specs.Scopes.{Denotes}
use Rattle.fut_typing.specs.Rules.{Rule, Written}
use Rattle.fut_typing.specs.Homes.{Env, scope_of}
use Rattle.fut_typing.specs.Typing.{operand}
use Rattle.fut_typing.proofs.Ranges.{own_some}
use Rattle.fut_flat.specs.Numbers.{own_numbers}
use Rattle.type_graph.specs.Graph.{Each}
use Rattle.type_graph.specs.Claims.{types_of}
use Rattle.type_rules.specs.declared.demand.Demand.{Demand}
use Rattle.type_rules.specs.Demands.{All_met, All_allow, Always_allowed, Stay_within}
use Rattle.type_scopes.specs.declared.Inference.{Inference}
use Rattle.type_scopes.specs.Scopes.{Claim, Safe, Claimed, Refused}
use Rattle.type_scopes.proofs.Claiming.{claimed_as, refused_as}
use Rattle.type_patterns.specs.Asking.{Ascribed_claim}
use Rattle.type_constraints.specs.Counts.{Works_on}
use Rattle.type_constraints.specs.Parts.{Rule_claim, Rule_homes}
use Rattle.type_constraints.specs.Plain.{Demanded, IsPlain, Say_rule}
use Rattle.type_constraints.proofs.Forms.{anywhere}

-- an operation with which no type is written
abbrev pub Unwritten : Kind → Operation Ref BindId → Type 0
Unwritten places o = (N : Names) (E : Env) (K : Kinds) (a : Sub) (lo : ℕ) → Written N places K o (scope_of N places E) a (a lo)

module _ (places : Kind) (base lo : ℕ) (o : Operation Ref BindId) (parts : List ℕ) (plain : Unwritten places o) (i i' : Inference) where
  abbrev pub rule : Claim
  rule N scope K a = Rule N places K o (a lo) (a (operand o lo)) (types_of a parts)

  pub rule_ok : (d from : ℕ) → Claimed places base d from rule anywhere i i' → Claimed places base d from (Rule_claim places o lo parts) (Rule_homes d o lo) i i'
  rule_ok d from c = claimed_as places base d from rule (Rule_claim places o lo parts) anywhere (Rule_homes d o lo) i i' (λ N E K a h. h.0) (λ N E K a h. (h, plain N E K a lo)) (λ home h. tt) c

  pub rule_err : (d from : ℕ) → Refused places base d from rule anywhere i i' → Refused places base d from (Rule_claim places o lo parts) (Rule_homes d o lo) i i'
  rule_err d from c = refused_as places base d from rule (Rule_claim places o lo parts) anywhere (Rule_homes d o lo) i i' (λ N E K a h. h.0) (λ home h. tt) c

  -- a rule that is put in by demands
  module _ (ds : List Demand) (say : Say_rule places o lo parts ds) (allowed : Always_allowed ds) where
    pub demanded_ok : ((places : Kind) (d lo : ℕ) → Claimed places base d lo (λ N scope K a. All_met N.shapes K a ds) (λ home. All_allow home ds) i i') → (d from : ℕ) → Claimed places base d from (Rule_claim places o lo parts) (Rule_homes d o lo) i i'
    demanded_ok f d from = claimed_as places base d from (λ N scope K a. All_met N.shapes K a ds) (Rule_claim places o lo parts) (λ home. All_allow home ds) (Rule_homes d o lo) i i' (λ N E K a h. (say N K a).1 h.0) (λ N E K a h. ((say N K a).0 h, plain N E K a lo)) (λ home h. allowed home) (f places d from)

    pub demanded_err : ((places : Kind) (d lo : ℕ) → Refused places base d lo (λ N scope K a. All_met N.shapes K a ds) (λ home. All_allow home ds) i i') → (d from : ℕ) → Refused places base d from (Rule_claim places o lo parts) (Rule_homes d o lo) i i'
    demanded_err f d from = refused_as places base d from (λ N scope K a. All_met N.shapes K a ds) (Rule_claim places o lo parts) (λ home. All_allow home ds) (Rule_homes d o lo) i i' (λ N E K a h. (say N K a).1 h.0) (λ home h. allowed home) (f places d from)

pub plain_unwritten : (places : Kind) (o : Operation Ref BindId) → IsPlain o → Unwritten places o
plain_unwritten places (Integer n t) p N E K a lo = tt
plain_unwritten places (Truth b) p N E K a lo = tt
plain_unwritten places (Binary op) p N E K a lo = tt
plain_unwritten places Negate p N E K a lo = tt
plain_unwritten places Complement p N E K a lo = tt
plain_unwritten places Assert p N E K a lo = tt
plain_unwritten places (Range stepped end) p N E K a lo = tt
plain_unwritten places Tuple_of p N E K a lo = absurd p
plain_unwritten places (Record_of fs) p N E K a lo = absurd p
plain_unwritten places Array_of p N E K a lo = absurd p
plain_unwritten places (Index ps) p N E K a lo = absurd p
plain_unwritten places (Project f) p N E K a lo = absurd p
plain_unwritten places Update p N E K a lo = absurd p
plain_unwritten places (Replace f) p N E K a lo = absurd p
plain_unwritten places (Ascribe t) p N E K a lo = absurd p
plain_unwritten places (Coerce t) p N E K a lo = absurd p
plain_unwritten places (Declared t) p N E K a lo = absurd p

-- the operations that are left
pub rest_plain : (a : Act) → (a ≡ act.Tuple → ⊥) → (a ≡ act.Array → ⊥) → ((ps : Bor (List Part)) → a ≡ act.Index ps → ⊥) → (a ≡ act.Update → ⊥) → ((fs : Bor (List (Bor Text))) → a ≡ act.Record fs → ⊥) → ((f : Bor Text) → a ≡ act.Project f → ⊥) → ((f : Bor Text) → a ≡ act.Replace f → ⊥) → ((t : Bor TypeExp) → a ≡ act.Ascribe t → ⊥) → ((t : Bor TypeExp) → a ≡ act.Coerce t → ⊥) → ((t : Bor TypeExp) → a ≡ act.Declared t → ⊥) → IsPlain (operation_of a)
rest_plain (act.Int n t) n0 n1 n2 n3 n4 n5 n6 n7 n8 n9 = tt
rest_plain (act.Truth b) n0 n1 n2 n3 n4 n5 n6 n7 n8 n9 = tt
rest_plain act.Negate n0 n1 n2 n3 n4 n5 n6 n7 n8 n9 = tt
rest_plain act.Complement n0 n1 n2 n3 n4 n5 n6 n7 n8 n9 = tt
rest_plain (act.Binary op) n0 n1 n2 n3 n4 n5 n6 n7 n8 n9 = tt
rest_plain act.Assert n0 n1 n2 n3 n4 n5 n6 n7 n8 n9 = tt
rest_plain (act.Range stepped end) n0 n1 n2 n3 n4 n5 n6 n7 n8 n9 = tt
rest_plain act.Tuple n0 n1 n2 n3 n4 n5 n6 n7 n8 n9 = absurd (n0 refl)
rest_plain act.Array n0 n1 n2 n3 n4 n5 n6 n7 n8 n9 = absurd (n1 refl)
rest_plain (act.Index ps) n0 n1 n2 n3 n4 n5 n6 n7 n8 n9 = absurd (n2 ps refl)
rest_plain act.Update n0 n1 n2 n3 n4 n5 n6 n7 n8 n9 = absurd (n3 refl)
rest_plain (act.Record fs) n0 n1 n2 n3 n4 n5 n6 n7 n8 n9 = absurd (n4 fs refl)
rest_plain (act.Project f) n0 n1 n2 n3 n4 n5 n6 n7 n8 n9 = absurd (n5 f refl)
rest_plain (act.Replace f) n0 n1 n2 n3 n4 n5 n6 n7 n8 n9 = absurd (n6 f refl)
rest_plain (act.Ascribe t) n0 n1 n2 n3 n4 n5 n6 n7 n8 n9 = absurd (n7 t refl)
rest_plain (act.Coerce t) n0 n1 n2 n3 n4 n5 n6 n7 n8 n9 = absurd (n8 t refl)
rest_plain (act.Declared t) n0 n1 n2 n3 n4 n5 n6 n7 n8 n9 = absurd (n9 t refl)

pub only_plain : (a : Act) → IsPlain (operation_of a) → ((n : ℕ) (t : Option IntType) → a ≡ act.Int n t → ⊥) → ((b : Bool) → a ≡ act.Truth b → ⊥) → (a ≡ act.Negate → ⊥) → (a ≡ act.Complement → ⊥) → ((op : BinOp) → a ≡ act.Binary op → ⊥) → (a ≡ act.Assert → ⊥) → ((stepped : Bool) (end : End) → a ≡ act.Range stepped end → ⊥) → ⊥
only_plain (act.Int n t) p n0 n1 n2 n3 n4 n5 n6 = n0 n t refl
only_plain (act.Truth b) p n0 n1 n2 n3 n4 n5 n6 = n1 b refl
only_plain act.Negate p n0 n1 n2 n3 n4 n5 n6 = n2 refl
only_plain act.Complement p n0 n1 n2 n3 n4 n5 n6 = n3 refl
only_plain (act.Binary op) p n0 n1 n2 n3 n4 n5 n6 = n4 op refl
only_plain act.Assert p n0 n1 n2 n3 n4 n5 n6 = n5 refl
only_plain (act.Range stepped end) p n0 n1 n2 n3 n4 n5 n6 = n6 stepped end refl
only_plain act.Tuple p n0 n1 n2 n3 n4 n5 n6 = p
only_plain act.Array p n0 n1 n2 n3 n4 n5 n6 = p
only_plain (act.Index ps) p n0 n1 n2 n3 n4 n5 n6 = p
only_plain act.Update p n0 n1 n2 n3 n4 n5 n6 = p
only_plain (act.Record fs) p n0 n1 n2 n3 n4 n5 n6 = p
only_plain (act.Project f) p n0 n1 n2 n3 n4 n5 n6 = p
only_plain (act.Replace f) p n0 n1 n2 n3 n4 n5 n6 = p
only_plain (act.Ascribe t) p n0 n1 n2 n3 n4 n5 n6 = p
only_plain (act.Coerce t) p n0 n1 n2 n3 n4 n5 n6 = p
only_plain (act.Declared t) p n0 n1 n2 n3 n4 n5 n6 = p

-- a list of few numbers
no_part : (l : List ℕ) → length l ≡ 0 → l ≡ []
no_part [] e = refl
no_part (x ∷ l) e = absurd (omega arith)

one_part : (l : List ℕ) → length l ≡ 1 → l ≡ slice_index_or l 0 0 ∷ []
one_part [] e = absurd (omega arith)
one_part (x ∷ []) e = refl
one_part (x ∷ y ∷ l) e = absurd (omega arith)

two_parts : (l : List ℕ) → length l ≡ 2 → l ≡ slice_index_or l 0 0 ∷ slice_index_or l 1 0 ∷ []
two_parts [] e = absurd (omega arith)
two_parts (x ∷ []) e = absurd (omega arith)
two_parts (x ∷ y ∷ []) e = refl
two_parts (x ∷ y ∷ z ∷ l) e = absurd (omega arith)

three_parts : (l : List ℕ) → length l ≡ 3 → l ≡ slice_index_or l 0 0 ∷ slice_index_or l 1 0 ∷ slice_index_or l 2 0 ∷ []
three_parts [] e = absurd (omega arith)
three_parts (x ∷ []) e = absurd (omega arith)
three_parts (x ∷ y ∷ []) e = absurd (omega arith)
three_parts (x ∷ y ∷ z ∷ []) e = refl
three_parts (x ∷ y ∷ z ∷ w ∷ l) e = absurd (omega arith)

-- a part of an operation
pub part_below : (base : ℕ) (l : List ℕ) (i d : ℕ) → Each (λ part. part < base) l → i < length l → slice_index_or l i d < base
part_below base [] i d h lt = absurd (omega arith)
part_below base (x ∷ l) zero d h lt = h.0
part_below base (x ∷ l) (suc i) d h lt = part_below base l i d h.1 (omega arith)

-- their types
pub types_one : (a : Sub) (l : List ℕ) → length l ≡ 1 → types_of a l ≡ more (a (slice_index_or l 0 0)) none
unfolding types_of
types_one a l e = ap (λ x. types_of a x) (one_part l e)

pub types_two : (a : Sub) (l : List ℕ) → length l ≡ 2 → types_of a l ≡ more (a (slice_index_or l 0 0)) (more (a (slice_index_or l 1 0)) none)
unfolding types_of
types_two a l e = ap (λ x. types_of a x) (two_parts l e)

-- what demands say of few parts
abbrev pub Say_of : Kind → Operation Ref BindId → ℕ → (Sub → Tys) → List Demand → Type 0
Say_of places o lo ts ds = (N : Names) (K : Kinds) (a : Sub) → (All_met N.shapes K a ds → Rule N places K o (a lo) (a (operand o lo)) (ts a)) × (Rule N places K o (a lo) (a (operand o lo)) (ts a) → All_met N.shapes K a ds)

module _ (places : Kind) (o : Operation Ref BindId) (lo : ℕ) (parts : List ℕ) (ds : List Demand) where
  pub say_none : length parts ≡ 0 → Say_of places o lo (λ a. none) ds → Say_rule places o lo parts ds
  unfolding types_of
  say_none e say = subst (λ (l : List ℕ). Say_rule places o lo l ds) (sym (no_part parts e)) say

  pub say_one : length parts ≡ 1 → Say_of places o lo (λ a. more (a (slice_index_or parts 0 0)) none) ds → Say_rule places o lo parts ds
  unfolding types_of
  say_one e say = subst (λ (l : List ℕ). Say_rule places o lo l ds) (sym (one_part parts e)) say

  pub say_two : length parts ≡ 2 → Say_of places o lo (λ a. more (a (slice_index_or parts 0 0)) (more (a (slice_index_or parts 1 0)) none)) ds → Say_rule places o lo parts ds
  unfolding types_of
  say_two e say = subst (λ (l : List ℕ). Say_rule places o lo l ds) (sym (two_parts parts e)) say

  pub say_three : length parts ≡ 3 → Say_of places o lo (λ a. more (a (slice_index_or parts 0 0)) (more (a (slice_index_or parts 1 0)) (more (a (slice_index_or parts 2 0)) none))) ds → Say_rule places o lo parts ds
  unfolding types_of
  say_three e say = subst (λ (l : List ℕ). Say_rule places o lo l ds) (sym (three_parts parts e)) say

-- the demands of the rule of an operation on few parts
abbrev says_of : Operation Ref BindId → ℕ → (Sub → Tys) → List Demand → Type 0
says_of o lo ts ds = (places : Kind) → Say_of places o lo ts ds

module _ (o : Operation Ref BindId) (lo : ℕ) (parts : List ℕ) (ds : List Demand) where
  abbrev nth : ℕ → ℕ
  nth i = slice_index_or parts i 0

  pub demanded_none : length parts ≡ 0 → says_of o lo (λ a. none) ds → Stay_within ds (lo ∷ []) → Always_allowed ds → Demanded o lo parts ds
  demanded_none e say within allowed = record { says = λ places. say_none places o lo parts ds e (say places); within = λ table base room below. within table base (omega (arith, room, own_some o), tt); allowed = allowed }

  pub demanded_one : length parts ≡ 1 → says_of o lo (λ a. more (a (nth 0)) none) ds → Stay_within ds (lo ∷ nth 0 ∷ []) → Always_allowed ds → Demanded o lo parts ds
  demanded_one e say within allowed = record { says = λ places. say_one places o lo parts ds e (say places); within = λ table base room below. within table base (omega (arith, room, own_some o), (part_below base parts 0 0 below (omega (arith, e)), tt)); allowed = allowed }

  pub demanded_two : length parts ≡ 2 → says_of o lo (λ a. more (a (nth 0)) (more (a (nth 1)) none)) ds → Stay_within ds (lo ∷ nth 0 ∷ nth 1 ∷ []) → Always_allowed ds → Demanded o lo parts ds
  demanded_two e say within allowed = record { says = λ places. say_two places o lo parts ds e (say places); within = λ table base room below. within table base (omega (arith, room, own_some o), (part_below base parts 0 0 below (omega (arith, e)), (part_below base parts 1 0 below (omega (arith, e)), tt))); allowed = allowed }

  -- the operands have a type of their own
  pub demanded_operands : own_numbers o ≡ 2 → length parts ≡ 2 → says_of o lo (λ a. more (a (nth 0)) (more (a (nth 1)) none)) ds → Stay_within ds (lo ∷ (1 + lo) ∷ nth 0 ∷ nth 1 ∷ []) → Always_allowed ds → Demanded o lo parts ds
  demanded_operands two e say within allowed = record { says = λ places. say_two places o lo parts ds e (say places); within = λ table base room below. within table base (omega (arith, room, two), (omega (arith, room, two), (part_below base parts 0 0 below (omega (arith, e)), (part_below base parts 1 0 below (omega (arith, e)), tt)))); allowed = allowed }

  pub demanded_three : length parts ≡ 3 → says_of o lo (λ a. more (a (nth 0)) (more (a (nth 1)) (more (a (nth 2)) none))) ds → Stay_within ds (lo ∷ nth 0 ∷ nth 1 ∷ nth 2 ∷ []) → Always_allowed ds → Demanded o lo parts ds
  demanded_three e say within allowed = record { says = λ places. say_three places o lo parts ds e (say places); within = λ table base room below. within table base (omega (arith, room, own_some o), (part_below base parts 0 0 below (omega (arith, e)), (part_below base parts 1 0 below (omega (arith, e)), (part_below base parts 2 0 below (omega (arith, e)), tt)))); allowed = allowed }

module _ (places : Kind) (base lo : ℕ) (o : Operation Ref BindId) (parts : List ℕ) (plain : IsPlain o) (ds : List Demand) (d : Demanded o lo parts ds) (i i' : Inference) where
  pub plain_ok : ((places : Kind) (d lo : ℕ) → Claimed places base d lo (λ N scope K a. All_met N.shapes K a ds) (λ home. All_allow home ds) i i') → (d from : ℕ) → Claimed places base d from (Rule_claim places o lo parts) (Rule_homes d o lo) i i'
  plain_ok = demanded_ok places base lo o parts (plain_unwritten places o plain) i i' ds (d.says places) d.allowed

  pub plain_err : ((places : Kind) (d lo : ℕ) → Refused places base d lo (λ N scope K a. All_met N.shapes K a ds) (λ home. All_allow home ds) i i') → (d from : ℕ) → Refused places base d from (Rule_claim places o lo parts) (Rule_homes d o lo) i i'
  plain_err = demanded_err places base lo o parts (plain_unwritten places o plain) i i' ds (d.says places) d.allowed

-- an operation on another number of parts
abbrev pub Never_rule : Kind → Operation Ref BindId → List ℕ → Type 0
Never_rule places o parts = (N : Names) (K : Kinds) (a : Sub) (t u : Ty) → Rule N places K o t u (types_of a parts) → ⊥

pub never_err : (places : Kind) (base lo : ℕ) (o : Operation Ref BindId) (parts : List ℕ) (i : Inference) → Safe base i → Never_rule places o parts → (d from : ℕ) → Refused places base d from (Rule_claim places o lo parts) (Rule_homes d o lo) i i
never_err places base lo o parts i s never d from = record { labels = s.labels; reads = λ N T born r. r; nowhere = λ N T home born E r rd h pl K a p q. never N K a (a lo) (a (operand o lo)) q.0 }

integer_never : (places : Kind) (n : ℕ) (ty : Option IntType) (l : List ℕ) → (length l ≡ 0 → ⊥) → Never_rule places (Integer n ty) l
unfolding types_of
integer_never places n None [] ne N K a t u h = ne refl
integer_never places n None (x ∷ l) ne N K a t u h = h
integer_never places n (Some i) [] ne N K a t u h = ne refl
integer_never places n (Some i) (x ∷ l) ne N K a t u h = h

truth_never : (places : Kind) (b : Bool) (l : List ℕ) → (length l ≡ 0 → ⊥) → Never_rule places (Truth b) l
unfolding types_of
truth_never places b [] ne N K a t u h = ne refl
truth_never places b (x ∷ l) ne N K a t u h = h

negate_never : (places : Kind) (l : List ℕ) → (length l ≡ 1 → ⊥) → Never_rule places (Negate) l
unfolding types_of
negate_never places [] ne N K a t u h = h
negate_never places (x ∷ []) ne N K a t u h = ne refl
negate_never places (x ∷ y ∷ l) ne N K a t u h = h

complement_never : (places : Kind) (l : List ℕ) → (length l ≡ 1 → ⊥) → Never_rule places (Complement) l
unfolding types_of
complement_never places [] ne N K a t u h = h
complement_never places (x ∷ []) ne N K a t u h = ne refl
complement_never places (x ∷ y ∷ l) ne N K a t u h = h

project_never : (places : Kind) (f : Text) (l : List ℕ) → (length l ≡ 1 → ⊥) → Never_rule places (Project f) l
unfolding types_of
project_never places f [] ne N K a t u h = h
project_never places f (x ∷ []) ne N K a t u h = ne refl
project_never places f (x ∷ y ∷ l) ne N K a t u h = h

ascribe_never : (places : Kind) (e : FlatType) (l : List ℕ) → (length l ≡ 1 → ⊥) → Never_rule places (Ascribe e) l
unfolding types_of
ascribe_never places e [] ne N K a t u h = h
ascribe_never places e (x ∷ []) ne N K a t u h = ne refl
ascribe_never places e (x ∷ y ∷ l) ne N K a t u h = h

coerce_never : (places : Kind) (e : FlatType) (l : List ℕ) → (length l ≡ 1 → ⊥) → Never_rule places (Coerce e) l
unfolding types_of
coerce_never places e [] ne N K a t u h = h
coerce_never places e (x ∷ []) ne N K a t u h = ne refl
coerce_never places e (x ∷ y ∷ l) ne N K a t u h = h

declared_never : (places : Kind) (e : FlatType) (l : List ℕ) → (length l ≡ 1 → ⊥) → Never_rule places (Declared e) l
unfolding types_of
declared_never places e [] ne N K a t u h = h
declared_never places e (x ∷ []) ne N K a t u h = ne refl
declared_never places e (x ∷ y ∷ l) ne N K a t u h = h

binary_never : (places : Kind) (o : BinOp) (l : List ℕ) → (length l ≡ 2 → ⊥) → Never_rule places (Binary o) l
unfolding types_of
binary_never places o [] ne N K a t u h = h
binary_never places o (x ∷ []) ne N K a t u h = h
binary_never places o (x ∷ y ∷ []) ne N K a t u h = ne refl
binary_never places o (x ∷ y ∷ z ∷ l) ne N K a t u h = h

assert_never : (places : Kind) (l : List ℕ) → (length l ≡ 1 → ⊥) → Never_rule places Assert l
unfolding types_of
assert_never places [] ne N K a t u h = h
assert_never places (x ∷ []) ne N K a t u h = ne refl
assert_never places (x ∷ y ∷ l) ne N K a t u h = h

replace_never : (places : Kind) (f : Text) (l : List ℕ) → (length l ≡ 2 → ⊥) → Never_rule places (Replace f) l
unfolding types_of
replace_never places f [] ne N K a t u h = h
replace_never places f (x ∷ []) ne N K a t u h = h
replace_never places f (x ∷ y ∷ []) ne N K a t u h = ne refl
replace_never places f (x ∷ y ∷ z ∷ l) ne N K a t u h = h

range_by_never : (places : Kind) (end : End) (l : List ℕ) → (length l ≡ 3 → ⊥) → Never_rule places (Range true end) l
unfolding types_of
range_by_never places end [] ne N K a t u h = h
range_by_never places end (x ∷ []) ne N K a t u h = h
range_by_never places end (x ∷ y ∷ []) ne N K a t u h = h
range_by_never places end (x ∷ y ∷ z ∷ []) ne N K a t u h = ne refl
range_by_never places end (x ∷ y ∷ z ∷ v ∷ l) ne N K a t u h = h

range_never : (places : Kind) (end : End) (l : List ℕ) → (length l ≡ 2 → ⊥) → Never_rule places (Range false end) l
unfolding types_of
range_never places end [] ne N K a t u h = h
range_never places end (x ∷ []) ne N K a t u h = h
range_never places end (x ∷ y ∷ []) ne N K a t u h = ne refl
range_never places end (x ∷ y ∷ z ∷ l) ne N K a t u h = h

-- an operation works on no other number of parts
never_works : (places : Kind) (o : Operation Ref BindId) (l : List ℕ) → (Works_on o (length l) → ⊥) → Never_rule places o l
never_works places (Integer n t) l ne = integer_never places n t l ne
never_works places (Truth b) l ne = truth_never places b l ne
never_works places Tuple_of l ne = absurd (ne tt)
never_works places (Record_of fs) l ne = absurd (ne tt)
never_works places Array_of l ne = absurd (ne tt)
never_works places (Binary o) l ne = binary_never places o l ne
never_works places Negate l ne = negate_never places l ne
never_works places Complement l ne = complement_never places l ne
never_works places (Index ps) l ne = absurd (ne tt)
never_works places (Project f) l ne = project_never places f l ne
never_works places Update l ne = absurd (ne tt)
never_works places (Replace f) l ne = replace_never places f l ne
never_works places (Ascribe e) l ne = ascribe_never places e l ne
never_works places (Coerce e) l ne = coerce_never places e l ne
never_works places (Declared e) l ne = declared_never places e l ne
never_works places Assert l ne = assert_never places l ne
never_works places (Range true end) l ne = range_by_never places end l ne
never_works places (Range false end) l ne = range_never places end l ne

pub refused_count : (places : Kind) (o : Operation Ref BindId) (l : List ℕ) (b : Bool) → b ≡ false → (Works_on o (length l) → b ≡ true) → Never_rule places o l
refused_count places o l b e w = never_works places o l (λ h. let x : true ≡ false = sym (w h) ∙ e in cc)

pub has_parts : (x y : Act) (n : ℕ) → x ≡ y → Works_on (operation_of x) n → Works_on (operation_of y) n
has_parts x y n e w = subst (λ z. Works_on (operation_of z) n) e w

-- a type that is written
abbrev pub Ascribes : Kind → FlatType → Operation Ref BindId → ℕ → Type 0
Ascribes places e o lo = ((N : Names) (K : Kinds) (t u x : Ty) → (Rule N places K o t u (more x none) → t ≡ x) × (t ≡ x → Rule N places K o t u (more x none)))
    × ((N : Names) (E : Env) (K : Kinds) (a : Sub) (t : Ty) → (Written N places K o (scope_of N places E) a t → Denotes N places K a e (scope_of N places E) t) × (Denotes N places K a e (scope_of N places E) t → Written N places K o (scope_of N places E) a t))

module _ (places : Kind) (base lo : ℕ) (o : Operation Ref BindId) (e : FlatType) (parts : List ℕ) (one : length parts ≡ 1) (is : Ascribes places e o lo) (i i' : Inference) where
  abbrev first : ℕ
  first = slice_index_or parts 0 0

  to_written : (N : Names) (E : Env) (K : Kinds) (a : Sub) → Rule_claim places o lo parts N (scope_of N places E) K a → Ascribed_claim places e lo first N (scope_of N places E) K a
  to_written N E K a h = ((is.0 N K (a lo) (a (operand o lo)) (a first)).0 (subst (λ ts. Rule N places K o (a lo) (a (operand o lo)) ts) (types_one a parts one) h.0), (is.1 N E K a (a lo)).0 h.1)

  from_written : (N : Names) (E : Env) (K : Kinds) (a : Sub) → Ascribed_claim places e lo first N (scope_of N places E) K a → Rule_claim places o lo parts N (scope_of N places E) K a
  from_written N E K a h = (subst (λ ts. Rule N places K o (a lo) (a (operand o lo)) ts) (sym (types_one a parts one)) ((is.0 N K (a lo) (a (operand o lo)) (a first)).1 h.0), (is.1 N E K a (a lo)).1 h.1)

  pub written_ok : ((d from : ℕ) → Claimed places base d from (Ascribed_claim places e lo first) (λ home. Unit {0}) i i') → (d from : ℕ) → Claimed places base d from (Rule_claim places o lo parts) (Rule_homes d o lo) i i'
  written_ok c d from = claimed_as places base d from (Ascribed_claim places e lo first) (Rule_claim places o lo parts) anywhere (Rule_homes d o lo) i i' to_written from_written (λ home h. tt) (c d from)

  pub written_err : ((d from : ℕ) → Refused places base d from (Ascribed_claim places e lo first) (λ home. Unit {0}) i i') → (d from : ℕ) → Refused places base d from (Rule_claim places o lo parts) (Rule_homes d o lo) i i'
  written_err c d from = refused_as places base d from (Ascribed_claim places e lo first) (Rule_claim places o lo parts) anywhere (Rule_homes d o lo) i i' to_written (λ home h. tt) (c d from)

pub ascribe_is : (places : Kind) (e : FlatType) (lo : ℕ) → Ascribes places e (Ascribe e) lo
ascribe_is places e lo = ((λ N K t u x. ((λ h. h), (λ h. h))), (λ N E K a t. ((λ h. h), (λ h. h))))

pub coerce_is : (places : Kind) (e : FlatType) (lo : ℕ) → Ascribes places e (Coerce e) lo
coerce_is places e lo = ((λ N K t u x. ((λ h. h), (λ h. h))), (λ N E K a t. ((λ h. h), (λ h. h))))

pub declared_is : (places : Kind) (e : FlatType) (lo : ℕ) → Ascribes places e (Declared e) lo
declared_is places e lo = ((λ N K t u x. ((λ h. h), (λ h. h))), (λ N E K a t. ((λ h. h), (λ h. h))))
