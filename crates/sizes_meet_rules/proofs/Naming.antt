-- What is known of the names in scope where a pattern took a value.
use Rattle.sizes_meet_rules.proofs.Forming.{i64_number}
use Rattle.std.proofs.Common.{◌≡◌, ◌⊎◌, ℕ, zero, suc, ◌+◌, ◌≤◌, List, [], ◌∷◌, ◌++◌, Bool, true, false, ◌||◌, cond, nat_eq, Option, Some, None, refl, sym, ap, ◌∙◌, subst, arith, inl, inr, eq-eqb}
use Rattle.std.proofs.lemmas.Bool.{ne_eqb, eqb-false}
use native.Mathlib.Decide.{ℕ_discrete}
use Rattle.fut_scalar.specs.declared.place.BindId.{BindId}
use Rattle.fut_flat.specs.declared.prim.Ref.{Ref}
use Rattle.fut_flat.specs.Numbers.{pattern_numbers, all_pattern_numbers}
use Rattle.fut_flat.specs.Terms.{Bound_pattern, Wild_pattern, Tuple_pattern, Record_pattern, Typed_pattern, Patterns, no_pattern, pattern_and}
use Rattle.fut_flat.specs.Erased.{FlatPattern}
use Rattle.fut_types.specs.declared.Kind.{Kind}
use Rattle.fut_types.specs.declared.Head.TheVariants as head
use Rattle.fut_scalar.specs.declared.scalar.ScalarType.TheVariants as scalar
use Rattle.fut_scalar.specs.declared.scalar.IntType.TheVariants as int
use Rattle.fut_typing.specs.Primitives.{i64_ty}
use Rattle.fut_types.specs.Types.{Ty, Made, none, more, Sub, Kinds, fun_ty}
use Rattle.fut_typing.specs.Names.{Names, Parts_named}
use Rattle.fut_typing.specs.Scopes.{Uses, Scope as TypeScope, the_one}
use Rattle.fut_typing.specs.Patterns.{pattern_types, Pattern_typed, Patterns_typed, with_pattern as typed_with, with_patterns as all_typed_with}
use Rattle.sized_types.specs.Sizes.{Free, Const, Name, Own, Unknown, Slot, At, Bound, Variable, Size, Hole, Open, Level, Built, Fun, Sizes, no_size, size_and, erased, all_erased, is_free, is_dim}
use Rattle.sized_types.specs.Standing.{stands, some_stands, has_hole, stands_told, has_told}
use Rattle.fut_sizes.specs.Agreeing.{is_among}
use Rattle.fut_sizes.specs.Functions.{is_slot, value_name}
use Rattle.fut_sizes.specs.Rules.{Each_hole, Each_holes}
use Rattle.fut_sizes.specs.Scopes.{Known, Scope, with_name, names, all_names}
use Rattle.fut_sizes.specs.Scoping.{Context, is_number, with_name as with_known_name, with_entered, with_pattern, with_all_patterns}
use Rattle.fut_sizes.specs.Suiting.{Each, Each_all, Scoped, Data, All_data}
use Rattle.sizes_meet_rules.specs.Known.{is_i64_size, Formed, All_formed, Says, Known_name, Known_names, None_open, Is_const, Judged}
use Rattle.sizes_meet_rules.specs.Plain.{Plain_pattern, Plain_parts}
use Rattle.sizes_meet_rules.proofs.Replacing.{same_free, hole_as}
use Rattle.sizes_meet_rules.proofs.Meeting.{each_scoped}
use Rattle.sizes_meet_rules.proofs.Settling.{Any_variable}
use Rattle.sizes_meet_rules.proofs.Operating.{All_say, first_says, rest_say, part_of_says}
use Rattle.fut_ast.specs.Sorts.{Text}
use Rattle.fut_sizes.specs.WrittenSizes.{part as size_part, part_of}
use Rattle.fut_types.specs.Shapes.{place}
use Rattle.sizes_meet_rules.proofs.Taking.{parts_same, Of_part, If_part, part_bound, of_part, both_parts, Has_parts, All_have_parts, Fields_have, Field_has, bound_scope, parts_bound, fields_bound, field_bound, Nodes, All_nodes, Fields_nodes, first_node, At_home, names_home, all_names_home, among_first, among_later, first_not, later_not}

-- a name of the pattern whose part is a number may be a size
abbrev mutual
  pub Named_by : Names → FlatPattern → Size → Free → Type 0
  Named_by N (Bound_pattern x) t d = (d ≡ Name x.0) × (is_i64_size t ≡ true)
  Named_by N (Tuple_pattern ps) (Built h ts) d = Part_named N ps ts d
  Named_by N (Record_pattern fs ps) t d = Fields_named N fs ps t d
  Named_by N (Typed_pattern p e) t d = Named_by N p t d
  Named_by N p t d = ⊥

  pub Part_named : Names → Patterns Ref BindId → Sizes → Free → Type 0
  Part_named N (pattern_and p ps) (size_and t ts) d = Named_by N p t d ⊎ Part_named N ps ts d
  Part_named N ps ts d = ⊥

  pub Fields_named : Names → List Text → Patterns Ref BindId → Size → Free → Type 0
  Fields_named N (f ∷ fs) (pattern_and p ps) t d = Of_part (part_of N f t) (λ u. Named_by N p u d) ⊎ Fields_named N fs ps t d
  Fields_named N fs ps t d = ⊥

abbrev pub Field_named : Names → FlatPattern → Option Size → Free → Type 0
Field_named N p o d = Of_part o (λ u. Named_by N p u d)

pub or_first : (a b : Bool) → a ≡ true → a || b ≡ true
or_first true b e = refl
or_first false b e = absurd (let z : false ≡ true = e in cc)

pub or_later : (a b : Bool) → b ≡ true → a || b ≡ true
or_later true b e = refl
or_later false b e = e

size_of_known : Size → Option Known → Size
size_of_known u (Some k) = k.size
size_of_known u None = u

pub known_same : (t u : Size) → ◌≡◌ {A = Option Known} (Some (record { size = t; is_general = false })) (Some (record { size = u; is_general = false })) → t ≡ u
unfolding size_of_known
known_same t u e = ap (size_of_known t) e

pub same_size : (g h : Bool) (t u : Size) → ◌≡◌ {A = Option Known} (Some (record { size = t; is_general = g })) (Some (record { size = u; is_general = h })) → t ≡ u
unfolding size_of_known
same_size g h t u e = ap (size_of_known t) e

general_of : Bool → Option Known → Bool
general_of c (Some k) = k.is_general
general_of c None = c

pub general_same : (t u : Size) → ◌≡◌ {A = Option Known} (Some (record { size = t; is_general = false })) (Some (record { size = u; is_general = true })) → false ≡ true
unfolding general_of
general_same t u e = ap (general_of false) e

-- a size that is none of these names
abbrev pub No_name_of : List ℕ → Free → Type 0
No_name_of xs d = (b : ℕ) → d ≡ Name b → is_among xs b ≡ false

-- one that stands in a value's type
abbrev pub Stands_there : List ℕ → Size → Free → Type 0
Stands_there xs t d = (stands t d ≡ true) × No_name_of xs d

-- known, or a size name of a head that no parameter has chosen yet
abbrev pub Head_name : List ℕ → Free → Type 0
Head_name bs (Name b) = is_among bs b ≡ true
Head_name bs d = ⊥

abbrev pub With_head : List ℕ → (Free → Type 0) → Free → Type 0
With_head bs In d = In d ⊎ Head_name bs d

-- the rules know the same of the names in scope but these: size names of a head that no parameter has chosen yet
pub record Judged_but (bs : List ℕ) (In : Free → Type 0) (Vars : Variable → Type 0) (scope : Scope) (G : Context) : Type 0 where
  pub sizes : (b : ℕ) (t : Size) → is_among bs b ≡ false → scope b ≡ Some (record { size = t; is_general = false }) → G.sizes b ≡ Some t
  pub schemes : (b : ℕ) (t : Size) → is_among bs b ≡ false → scope b ≡ Some (record { size = t; is_general = true }) → G.schemes b ≡ Some t
  pub none_open : None_open G
  pub finds : (d : Free) → In d → (G.finds d ≡ true) ⊎ Is_const d
  pub finds_types : (v : Variable) → Vars v → G.finds_types v ≡ true

pub judged_all : (In : Free → Type 0) (Vars : Variable → Type 0) (scope : Scope) (G : Context) → Judged_but [] In Vars scope G → Judged In Vars scope G
judged_all In Vars scope G J = record { sizes = λ b t z. J.sizes b t refl z; schemes = λ b t z. J.schemes b t refl z; none_open = J.none_open; finds = J.finds; finds_types = J.finds_types }

-- all sizes of data stand in it
module _ (Q : Free → Type 0) where
  mutual
    unfolding is_dim stands some_stands Each Each_all Data All_data

    pub each_stands : (P : Free → Type 0) (t : Size) → Data t → Each (Scoped Q) 0 t → ((x : Free) → stands t x ≡ true → P x) → Each (Scoped P) 0 t
    each_stands P (Hole v) d h w = tt
    each_stands P (Open n v u) d h w = absurd d
    each_stands P (Level (At x) t) d h w = (w x (or_first (is_free x x) (stands t x) (same_free x)), each_stands P t d h.1 (λ y e. w y (or_later (is_free x y) (stands t y) e)))
    each_stands P (Level (Bound k i) t) d h w = absurd (let l = h.0 in omega (arith, l))
    each_stands P (Built k ts) d h w = all_stand P ts d h w
    each_stands P (Fun k p r) d h w = absurd d

    all_stand : (P : Free → Type 0) (ts : Sizes) → All_data ts → Each_all (Scoped Q) 0 ts → ((x : Free) → some_stands ts x ≡ true → P x) → Each_all (Scoped P) 0 ts
    all_stand P no_size d h w = tt
    all_stand P (size_and t ts) d h w = (each_stands P t d.0 h.0 (λ x e. w x (or_first (stands t x) (some_stands ts x) e)), all_stand P ts d.1 h.1 (λ x e. w x (or_later (stands t x) (some_stands ts x) e)))

-- ---- nothing is open in a part of what is not

part_closed : (o : Option ℕ) (ts : Sizes) (u : Size) → size_part o ts ≡ Some u → Each_holes Any_variable ts → Each_hole Any_variable u
unfolding Each_holes
part_closed None ts u e h = absurd (let z : None ≡ Some u = e in cc)
part_closed (Some i) no_size u e h = absurd (let z : None ≡ Some u = e in cc)
part_closed (Some zero) (size_and t ts) u e h = subst (Each_hole Any_variable) (let z : Some t ≡ Some u = e in let v : t ≡ u = cc in v) h.0
part_closed (Some (suc i)) (size_and t ts) u e h = part_closed (Some i) ts u e h.1

part_none_open : (N : Names) (f : Text) (t : Size) → Each_hole Any_variable t → (u : Size) → part_of N f t ≡ Some u → Each_hole Any_variable u
unfolding part_of Each_hole
part_none_open N f (Built k ts) h u e = part_closed (place N.shapes (N.label f) k) ts u e h
part_none_open N f (Hole v) h u e = absurd (let z : None ≡ Some u = e in cc)
part_none_open N f (Open n v x) h u e = absurd h
part_none_open N f (Level d t) h u e = absurd (let z : None ≡ Some u = e in cc)
part_none_open N f (Fun k t r) h u e = absurd (let z : None ≡ Some u = e in cc)

-- ---- where the names of a pattern are

module _ (N : Names) where
  mutual
    pub named_among : (p : FlatPattern) (t : Size) (b : ℕ) → Named_by N p t (Name b) → is_among (names p) b ≡ true
    named_among (Bound_pattern x) t b h = ap (λ c. cond c true false) (eq-eqb b x.0 (let z : Name b ≡ Name x.0 = h.0 in cc))
    named_among Wild_pattern t b h = absurd h
    named_among (Tuple_pattern ps) (Built g ts) b h = part_among ps ts b h
    named_among (Tuple_pattern ps) (Hole v) b h = absurd h
    named_among (Tuple_pattern ps) (Open n v u) b h = absurd h
    named_among (Tuple_pattern ps) (Level d t) b h = absurd h
    named_among (Tuple_pattern ps) (Fun k p r) b h = absurd h
    named_among (Record_pattern fs ps) t b h = fields_among fs ps t b h
    named_among (Typed_pattern p e) t b h = named_among p t b h

    part_among : (ps : Patterns Ref BindId) (ts : Sizes) (b : ℕ) → Part_named N ps ts (Name b) → is_among (all_names ps) b ≡ true
    part_among no_pattern ts b h = absurd h
    part_among (pattern_and p ps) no_size b h = absurd h
    part_among (pattern_and p ps) (size_and t ts) b (inl h) = among_first (names p) (all_names ps) b (named_among p t b h)
    part_among (pattern_and p ps) (size_and t ts) b (inr h) = among_later (names p) (all_names ps) b (part_among ps ts b h)

    fields_among : (ls : List Text) (ps : Patterns Ref BindId) (t : Size) (b : ℕ) → Fields_named N ls ps t (Name b) → is_among (all_names ps) b ≡ true
    fields_among [] ps t b h = absurd h
    fields_among (l ∷ ls) no_pattern t b h = absurd h
    fields_among (l ∷ ls) (pattern_and p ps) t b (inl h) = among_first (names p) (all_names ps) b (of_part (part_of N l t) (λ u. Named_by N p u (Name b)) (is_among (names p) b ≡ true) (λ u k. named_among p u b k) h)
    fields_among (l ∷ ls) (pattern_and p ps) t b (inr h) = among_later (names p) (all_names ps) b (fields_among ls ps t b h)

pub none_among : (xs ys : List ℕ) (b : ℕ) → is_among xs b ≡ false → is_among ys b ≡ false → is_among (xs ++ ys) b ≡ false
none_among [] ys b e f = f
none_among (x ∷ xs) ys b e f = by_name (nat_eq b x) (none_among xs ys b) e
  where
    by_name : (c : Bool) → (is_among xs b ≡ false → is_among ys b ≡ false → is_among (xs ++ ys) b ≡ false) → cond c true (is_among xs b) ≡ false → cond c true (is_among (xs ++ ys) b) ≡ false
    by_name true go e = e
    by_name false go e = go e f

-- a name of type i64 is a number
pub no_function : (p r : Ty) → i64_ty ≡ fun_ty p r → ⊥
no_function p r e = let z : Made (head.Scalar (scalar.Int int.I64)) none ≡ Made head.Fun (more p (more r none)) = e in cc

pub number_name : (In : Free → Type 0) (Vars : Variable → Type 0) (types : Sub) (home : ℕ → ℕ) (scope : Scope) (b : ℕ) (k : Known_name In Vars types home scope b i64_ty) → erased k.size ≡ i64_ty
number_name In Vars types home scope b k = by_form k.is_general refl
  where
    by_kind : ((p : Ty) × (r : Ty) × (i64_ty ≡ fun_ty p r)) ⊎ ((types (home b) ≡ i64_ty) ⊎ (i64_ty ≡ types (home b))) → erased k.size ≡ i64_ty
    by_kind (inl f) = absurd (no_function f.0 f.1 f.2)
    by_kind (inr (inl h)) = k.typed (λ g. sym h)
    by_kind (inr (inr h)) = k.typed (λ g. h)

    by_form : (c : Bool) → k.is_general ≡ c → erased k.size ≡ i64_ty
    by_form true e = by_kind (k.function e)
    by_form false e = k.typed (λ g. absurd (let z : true ≡ false = sym g ∙ e in cc))

module _ (types : Sub) (home : ℕ → ℕ) (K : Kinds) (places : Kind) where
  -- the name that it is, and where that is at home
  abbrev pub Name_there : ℕ → ℕ → Free → Type 0
  Name_there q hi d = (b : ℕ) × (d ≡ Name b) × At_home types home K places q hi b

  there_wider : (q hi q' hi' : ℕ) → q' ≤ q → hi ≤ hi' → (d : Free) → Name_there q hi d → Name_there q' hi' d
  there_wider q hi q' hi' l l' d (b, e, (x, y)) = (b, e, (omega (arith, x, l), omega (arith, y, l')))

  module _ (N : Names) where
    mutual
      pub named_there : (p : FlatPattern) (q : ℕ) → Plain_pattern types home K places p q → (t : Size) (d : Free) → Named_by N p t d → Name_there q (q + pattern_numbers p) d
      named_there (Bound_pattern x) q h t d n = (x.0, n.0, (omega (arith, h), omega (arith, h)))
      named_there Wild_pattern q h t d n = absurd n
      named_there (Tuple_pattern ps) q h (Built g ts) d n = there_wider (1 + q) (1 + q + all_pattern_numbers ps) q (q + (1 + all_pattern_numbers ps)) (omega arith) (omega arith) d (part_there ps (1 + q) h ts d n)
      named_there (Tuple_pattern ps) q h (Hole v) d n = absurd n
      named_there (Tuple_pattern ps) q h (Open m v u) d n = absurd n
      named_there (Tuple_pattern ps) q h (Level x t) d n = absurd n
      named_there (Tuple_pattern ps) q h (Fun k p r) d n = absurd n
      named_there (Record_pattern fs ps) q h t d n = there_wider (1 + q) (1 + q + all_pattern_numbers ps) q (q + (1 + all_pattern_numbers ps)) (omega arith) (omega arith) d (fields_there fs ps (1 + q) h t d n)
      named_there (Typed_pattern p e) q h t d n = named_there p q h.1 t d n

      part_there : (ps : Patterns Ref BindId) (q : ℕ) → Plain_parts types home K places ps q → (ts : Sizes) (d : Free) → Part_named N ps ts d → Name_there q (q + all_pattern_numbers ps) d
      part_there no_pattern q h ts d n = absurd n
      part_there (pattern_and p ps) q h no_size d n = absurd n
      part_there (pattern_and p ps) q h (size_and t ts) d (inl n) = there_wider q (q + pattern_numbers p) q (q + (pattern_numbers p + all_pattern_numbers ps)) (omega arith) (omega arith) d (named_there p q h.0 t d n)
      part_there (pattern_and p ps) q h (size_and t ts) d (inr n) = there_wider (q + pattern_numbers p) (q + pattern_numbers p + all_pattern_numbers ps) q (q + (pattern_numbers p + all_pattern_numbers ps)) (omega arith) (omega arith) d (part_there ps (q + pattern_numbers p) h.1 ts d n)

      fields_there : (ls : List Text) (ps : Patterns Ref BindId) (q : ℕ) → Plain_parts types home K places ps q → (t : Size) (d : Free) → Fields_named N ls ps t d → Name_there q (q + all_pattern_numbers ps) d
      fields_there [] ps q h t d n = absurd n
      fields_there (l ∷ ls) no_pattern q h t d n = absurd n
      fields_there (l ∷ ls) (pattern_and p ps) q h t d (inl n) = there_wider q (q + pattern_numbers p) q (q + (pattern_numbers p + all_pattern_numbers ps)) (omega arith) (omega arith) d (of_part (part_of N l t) (λ u. Named_by N p u d) (Name_there q (q + pattern_numbers p) d) (λ u k. named_there p q h.0 u d k) n)
      fields_there (l ∷ ls) (pattern_and p ps) q h t d (inr n) = there_wider (q + pattern_numbers p) (q + pattern_numbers p + all_pattern_numbers ps) q (q + (pattern_numbers p + all_pattern_numbers ps)) (omega arith) (omega arith) d (fields_there ls ps (q + pattern_numbers p) h.1 t d n)

    -- a name of other nodes is none of a pattern
    pub no_name_by_home : (p : FlatPattern) (q : ℕ) → Plain_pattern types home K places p q → (d : Free) → ((b : ℕ) → d ≡ Name b → At_home types home K places q (q + pattern_numbers p) b → ⊥) → No_name_of (names p) d
    no_name_by_home p q h d a b z = by_among (is_among (names p) b) refl
      where
        by_among : (c : Bool) → is_among (names p) b ≡ c → is_among (names p) b ≡ false
        by_among true f = absurd (a b z (names_home types home K places p q h b f))
        by_among false f = f

    no_part_by_home : (ps : Patterns Ref BindId) (q n hi : ℕ) → hi ≤ q → Plain_parts types home K places ps q → (d : Free) → Name_there n hi d → No_name_of (all_names ps) d
    no_part_by_home ps q n hi l h d (c, e, (x, y)) b z = by_among (is_among (all_names ps) b) refl
      where
        same : home c ≡ home b
        same = ap home (let w : Name c ≡ Name b = sym e ∙ z in let v : c ≡ b = cc in v)

        by_among : (k : Bool) → is_among (all_names ps) b ≡ k → is_among (all_names ps) b ≡ false
        by_among true f = absurd (let w = all_names_home types home K places ps q h b f in let m = w.0 in let s = same in omega (arith, l, y, m, s))
        by_among false f = f

    pub named_no_slot : (p : FlatPattern) (q : ℕ) → Plain_pattern types home K places p q → (t : Size) (d : Free) → Named_by N p t d → is_slot d ≡ false
    named_no_slot p q h t d n = ap is_slot (named_there p q h t d n).1

  -- the name that is the value of a parameter is at home there
  pub value_home : (p : FlatPattern) (q : ℕ) → Plain_pattern types home K places p q → (b : ℕ) → value_name p ≡ Some b → home b ≡ q
  value_home (Bound_pattern x) q h b e = ap home (let z : Some x.0 ≡ Some b = e in let y : b ≡ x.0 = cc in y) ∙ h
  value_home Wild_pattern q h b e = absurd (let z : None ≡ Some b = e in cc)
  value_home (Tuple_pattern ps) q h b e = absurd (let z : None ≡ Some b = e in cc)
  value_home (Record_pattern fs ps) q h b e = absurd (let z : None ≡ Some b = e in cc)
  value_home (Typed_pattern p t) q h b e = value_home p q h.1 b e

module _ (N : Names) (types : Sub) (K : Kinds) (places : Kind) (In' : Free → Type 0) (Vars' : Variable → Type 0) where
  module _ (home : ℕ → ℕ) where
    pub known_wider : (In : Free → Type 0) (Vars : Variable → Type 0) → ((d : Free) → In d → In' d) → ((v : Variable) → Vars v → Vars' v) → (scope : Scope) (b : ℕ) (u : Ty) → Known_name In Vars types home scope b u → Known_name In' Vars' types home scope b u
    known_wider In Vars wider more_types scope b u k = record {
      size = k.size;
      is_general = k.is_general;
      known = k.known;
      says = record { sizes = each_scoped In In' wider k.size 0 k.says.sizes; variables = hole_as Vars Vars' more_types k.size k.says.variables; formed = k.says.formed };
      closed = k.closed;
      function = k.function;
      typed = k.typed;
      number = λ e. wider (Name b) (k.number e);
    }

    -- a name that is another's
    pub still_known : (scope inner : Scope) (b : ℕ) (u : Ty) → inner b ≡ scope b → Known_name In' Vars' types home scope b u → Known_name In' Vars' types home inner b u
    still_known scope inner b u e k = record { size = k.size; is_general = k.is_general; known = e ∙ k.known; says = k.says; closed = k.closed; function = k.function; typed = k.typed; number = k.number }

    known_name : (x : BindId) (q : ℕ) (t : Size) (scope : Scope) (T : TypeScope) → Says In' Vars' t → erased t ≡ types q → (is_i64_size t ≡ true → In' (Name x.0)) → Known_names In' Vars' home scope K types T → Known_names In' Vars' home (with_name x.0 t scope) K types (typed_with the_one (Bound_pattern x) q T)
    known_name x q t scope T h e i k b u = elim (ℕ_discrete b x.0) as (λ d. (elim d as (λ d. Uses) [ yes e ↦ the_one q | no ne ↦ T.uses b ]) K types u → Known_name In' Vars' types home (with_name x.0 t scope) b u) [
      | yes y ↦ λ a. record {
        size = t;
        is_general = false;
        known = ap (λ z. cond z (Some (record { size = t; is_general = false })) (scope b)) (eq-eqb x.0 b (sym y));
        says = h;
        closed = λ g. absurd (let z : false ≡ true = g in cc);
        function = λ g. absurd (let z : false ≡ true = g in cc);
        typed = λ g. e ∙ sym a;
        number = λ z. subst (λ c. In' (Name c)) (sym y) (i z);
      }
      | no ne ↦ λ a. still_known scope (with_name x.0 t scope) b u (ap (λ z. cond z (Some (record { size = t; is_general = false })) (scope b)) (ne_eqb x.0 b (λ z. ne (sym z)))) (k b u a)
    ]

    mutual
      unfolding Each Each_all Each_hole Each_holes Formed All_formed erased all_erased

      known_pattern : (p : FlatPattern) (q : ℕ) (S : TypeScope) → Plain_pattern types home K places p q → Pattern_typed N places K types p q S → (t : Size) → Has_parts N p t → Says In' Vars' t → erased t ≡ types q → ((d : Free) → Named_by N p t d → In' d) → (scope : Scope) (T : TypeScope) → Known_names In' Vars' home scope K types T
          → Known_names In' Vars' home (bound_scope N p t scope) K types (typed_with the_one p q T)
      known_pattern (Bound_pattern x) q S l y t c h e i scope T k = known_name x q t scope T h e (λ z. i (Name x.0) (refl, z)) k
      known_pattern Wild_pattern q S l y t c h e i scope T k = k
      known_pattern (Tuple_pattern ps) q S l y (Built g ts) c h e i scope T k = known_parts ps (1 + q) S l y.0 ts c.1 (record { sizes = h.sizes; variables = h.variables; formed = h.formed.1 }) (parts_same (e ∙ y.1)) i scope T k
      known_pattern (Tuple_pattern ps) q S l y (Hole v) c h e i scope T k = absurd c
      known_pattern (Tuple_pattern ps) q S l y (Open n v u) c h e i scope T k = absurd c
      known_pattern (Tuple_pattern ps) q S l y (Level d t) c h e i scope T k = absurd c
      known_pattern (Tuple_pattern ps) q S l y (Fun n p r) c h e i scope T k = absurd c
      known_pattern (Record_pattern fs ps) q S l y t c h e i scope T k = known_fields fs ps (1 + q) S l y.0 (types q) y.1.named t c h e i scope T k
      known_pattern (Typed_pattern p w) q S l y t c h e i scope T k = known_pattern p q S l.1 y.0 t c.1 h e i scope T k

      known_parts : (ps : Patterns Ref BindId) (q : ℕ) (S : TypeScope) → Plain_parts types home K places ps q → Patterns_typed N places K types ps q S → (ts : Sizes) → All_have_parts N ps ts → All_say In' Vars' ts → all_erased ts ≡ pattern_types types ps q → ((d : Free) → Part_named N ps ts d → In' d) → (scope : Scope) (T : TypeScope) → Known_names In' Vars' home scope K types T
          → Known_names In' Vars' home (parts_bound N ps ts scope) K types (all_typed_with the_one ps q T)
      known_parts no_pattern q S l y no_size c h e i scope T k = k
      known_parts no_pattern q S l y (size_and t ts) c h e i scope T k = absurd c
      known_parts (pattern_and p ps) q S l y no_size c h e i scope T k = absurd c
      known_parts (pattern_and p ps) q S l y (size_and t ts) c h e i scope T k =
          let z : more (erased t) (all_erased ts) ≡ more (types q) (pattern_types types ps (q + pattern_numbers p)) = e in
          known_parts ps (q + pattern_numbers p) S l.1 y.1 ts c.1 (rest_say In' Vars' t ts h) (let w : all_erased ts ≡ pattern_types types ps (q + pattern_numbers p) = cc in w) (λ d n. i d (inr n)) (bound_scope N p t scope) (typed_with the_one p q T)
          (known_pattern p q S l.0 y.0 t c.0 (first_says In' Vars' t ts h) (let w : erased t ≡ types q = cc in w) (λ d n. i d (inl n)) scope T k)

      known_fields : (ls : List Text) (ps : Patterns Ref BindId) (q : ℕ) (S : TypeScope) → Plain_parts types home K places ps q → Patterns_typed N places K types ps q S → (U : Ty) → Parts_named N ls U (pattern_types types ps q) → (t : Size) → Fields_have N ls ps t → Says In' Vars' t → erased t ≡ U → ((d : Free) → Fields_named N ls ps t d → In' d) → (scope : Scope) (T : TypeScope) → Known_names In' Vars' home scope K types T
          → Known_names In' Vars' home (fields_bound N ls ps t scope) K types (all_typed_with the_one ps q T)
      known_fields [] no_pattern q S l y U g t c h e i scope T k = k
      known_fields [] (pattern_and p ps) q S l y U g t c h e i scope T k = absurd c
      known_fields (f ∷ ls) no_pattern q S l y U g t c h e i scope T k = absurd c
      known_fields (f ∷ ls) (pattern_and p ps) q S l y U g t c h e i scope T k =
          let P = part_of_says N In' Vars' f t U (types q) h e g.0 in
          known_fields ls ps (q + pattern_numbers p) S l.1 y.1 U g.1 t c.1 h e (λ d n. i d (inr n)) (field_bound N p (part_of N f t) scope) (typed_with the_one p q T)
          (subst (λ o. Known_names In' Vars' home (field_bound N p o scope) K types (typed_with the_one p q T)) (sym P.is)
          (known_pattern p q S l.0 y.0 P.part (subst (Field_has N p) P.is c.0) P.says P.typed (λ d n. i d (inl (subst (λ o. Field_named N p o d) (sym P.is) n))) scope T k))

    pub known_with : (In : Free → Type 0) (Vars : Variable → Type 0) → ((d : Free) → In d → In' d) → ((v : Variable) → Vars v → Vars' v) → (p : FlatPattern) (q : ℕ) (S : TypeScope) → Plain_pattern types home K places p q → Pattern_typed N places K types p q S → (t : Size) → Has_parts N p t → (scope : Scope) (T : TypeScope) → Known_names In Vars home scope K types T → Says In' Vars' t → erased t ≡ types q → ((d : Free) → Named_by N p t d → In' d)
        → Known_names In' Vars' home (bound_scope N p t scope) K types (typed_with the_one p q T)
    known_with In Vars wider more_types p q S l y t c scope T k h e i = known_pattern p q S l y t c h e i scope T (λ b u a. known_wider In Vars wider more_types scope b u (k b u a))

    -- ---- and the rules know the same

    -- what a value shows that is entered, and what was found before
    standing_entered : (t : Size) (G : Context) (d : Free) → stands t d ≡ true → (with_entered t G).finds d ≡ true
    standing_entered t G d y = or_first (stands t d) (stands_told t d || G.finds d) y

    still_entered : (t : Size) (G : Context) (d : Free) → G.finds d ≡ true → (with_entered t G).finds d ≡ true
    still_entered t G d y = or_later (stands t d) (stands_told t d || G.finds d) (or_later (stands_told t d) (G.finds d) y)

    holes_entered : (t : Size) (G : Context) (v : Variable) → has_hole t v ≡ true → (with_entered t G).finds_types v ≡ true
    holes_entered t G v y = or_first (has_hole t v) (has_told t v || G.finds_types v) y

    types_entered : (t : Size) (G : Context) (v : Variable) → G.finds_types v ≡ true → (with_entered t G).finds_types v ≡ true
    types_entered t G v y = or_later (has_hole t v) (has_told t v || G.finds_types v) (or_later (has_told t v) (G.finds_types v) y)

    -- a name that is a number, and other sizes
    name_found : (x : BindId) (t : Size) (G : Context) (d : Free) → d ≡ Name x.0 → is_number t ≡ true → (with_known_name x.0 t G).finds d ≡ true
    name_found x t G d e y = ap (λ z. (with_known_name x.0 t G).finds z) e ∙ ap (λ c. cond c (is_number t) (G.finds (Name x.0))) (eq-eqb x.0 x.0 refl) ∙ y

    name_still : (x : BindId) (t : Size) (G : Context) (d : Free) → No_name_of (x.0 ∷ []) d → G.finds d ≡ true → (with_known_name x.0 t G).finds d ≡ true
    name_still x t G (Name b) a y = ap (λ c. cond c (is_number t) (G.finds (Name b))) (ne_eqb x.0 b (λ z. let w : true ≡ false = sym (ap (λ c. cond c true false) (eq-eqb b x.0 (sym z))) ∙ a b refl in cc)) ∙ y
    name_still x t G (Const c) a y = y
    name_still x t G (Own n i) a y = y
    name_still x t G (Unknown n i) a y = y
    name_still x t G (Slot i) a y = y

    module _ (s : ℕ → Size) where
      module _ (b : ℕ) (g : Bool) (u : Size) where
        abbrev Gives : Option Known → Type 0
        Gives o = o ≡ Some (record { size = u; is_general = g })

        -- what the rules know of a name, general or not
        abbrev named_in : Bool → Context → Option Size
        named_in c G = cond c (G.schemes b) (G.sizes b)

        field_sizes : (o : Option Size) (P Q : Size → Type 0) (bound : Size → Scope → Scope) (scope : Scope) (X : Type 0) → ((v : Size) → P v → Q v → Gives (bound v scope b) → X) → Of_part o P → If_part o Q → Gives (part_bound o bound scope b) → X
        field_sizes (Some t) P Q bound scope X f h k z = f t h k z
        field_sizes None P Q bound scope X f h k z = absurd h

        mutual
          sizes_with : (p : FlatPattern) (q : ℕ) (t : Size) → Has_parts N p t → Nodes N p q t s → (scope : Scope) (G : Context) → (is_among (names p) b ≡ false → Gives (scope b) → named_in g G ≡ Some u) → Gives (bound_scope N p t scope b) → named_in g (with_pattern s p q G) ≡ Some u
          sizes_with (Bound_pattern x) q t c n scope G hyp z = by_name (nat_eq x.0 b) refl z
            where
              here : (k : Bool) → ◌≡◌ {A = Option Known} (Some (record { size = t; is_general = false })) (Some (record { size = u; is_general = k })) → cond k None (Some (s q)) ≡ Some u
              here false w = ap Some (n ∙ known_same t u w)
              here true w = absurd (let y = general_same t u w in let v : false ≡ true = y in cc)

              two : (c k : Bool) → cond k (cond c None (G.schemes b)) (cond c (Some (s q)) (G.sizes b)) ≡ cond c (cond k None (Some (s q))) (named_in k G)
              two true true = refl
              two true false = refl
              two false true = refl
              two false false = refl

              by_name : (c : Bool) → nat_eq x.0 b ≡ c → ◌≡◌ {A = Option Known} (cond c (Some (record { size = t; is_general = false })) (scope b)) (Some (record { size = u; is_general = g })) → named_in g (with_pattern s (Bound_pattern x) q G) ≡ Some u
              by_name true f w = two (nat_eq x.0 b) g ∙ ap (λ c. cond c (cond g None (Some (s q))) (named_in g G)) f ∙ here g w
              by_name false f w = two (nat_eq x.0 b) g ∙ ap (λ c. cond c (cond g None (Some (s q))) (named_in g G)) f ∙ hyp (ap (λ c. cond c true false) (ne_eqb b x.0 (λ y. eqb-false x.0 b f (sym y)))) w
          sizes_with Wild_pattern q t c n scope G hyp z = hyp refl z
          sizes_with (Tuple_pattern ps) q (Built g ts) c n scope G hyp z = parts_sizes ps (1 + q) ts c.1 n.1 scope (with_entered (s q) G) hyp z
          sizes_with (Tuple_pattern ps) q (Hole v) c n scope G hyp z = absurd c
          sizes_with (Tuple_pattern ps) q (Open m v w) c n scope G hyp z = absurd c
          sizes_with (Tuple_pattern ps) q (Level d t) c n scope G hyp z = absurd c
          sizes_with (Tuple_pattern ps) q (Fun k p r) c n scope G hyp z = absurd c
          sizes_with (Record_pattern fs ps) q t c n scope G hyp z = fields_sizes fs ps (1 + q) t c n.1 scope (with_entered (s q) G) hyp z
          sizes_with (Typed_pattern p e) q t c n scope G hyp z = sizes_with p q t c.1 n scope G hyp z

          parts_sizes : (ps : Patterns Ref BindId) (q : ℕ) (ts : Sizes) → All_have_parts N ps ts → All_nodes N ps q ts s → (scope : Scope) (G : Context) → (is_among (all_names ps) b ≡ false → Gives (scope b) → named_in g G ≡ Some u) → Gives (parts_bound N ps ts scope b) → named_in g (with_all_patterns s ps q G) ≡ Some u
          parts_sizes no_pattern q no_size c n scope G hyp z = hyp refl z
          parts_sizes no_pattern q (size_and t ts) c n scope G hyp z = absurd c
          parts_sizes (pattern_and p ps) q no_size c n scope G hyp z = absurd c
          parts_sizes (pattern_and p ps) q (size_and t ts) c n scope G hyp z = parts_sizes ps (q + pattern_numbers p) ts c.1 n.1 (bound_scope N p t scope) (with_pattern s p q G)
              (λ f y. sizes_with p q t c.0 n.0 scope G (λ e w. hyp (none_among (names p) (all_names ps) b e f) w) y) z

          fields_sizes : (ls : List Text) (ps : Patterns Ref BindId) (q : ℕ) (t : Size) → Fields_have N ls ps t → Fields_nodes N ls ps q t s → (scope : Scope) (G : Context) → (is_among (all_names ps) b ≡ false → Gives (scope b) → named_in g G ≡ Some u) → Gives (fields_bound N ls ps t scope b) → named_in g (with_all_patterns s ps q G) ≡ Some u
          fields_sizes [] no_pattern q t c n scope G hyp z = hyp refl z
          fields_sizes [] (pattern_and p ps) q t c n scope G hyp z = absurd c
          fields_sizes (l ∷ ls) no_pattern q t c n scope G hyp z = absurd c
          fields_sizes (l ∷ ls) (pattern_and p ps) q t c n scope G hyp z = fields_sizes ls ps (q + pattern_numbers p) t c.1 n.1 (field_bound N p (part_of N l t) scope) (with_pattern s p q G)
              (λ f y. field_sizes (part_of N l t) (λ u. Has_parts N p u) (λ u. Nodes N p q u s) (λ v inner. bound_scope N p v inner) scope (named_in g (with_pattern s p q G) ≡ Some u) (λ v g m w. sizes_with p q v g m scope G (λ e r. hyp (none_among (names p) (all_names ps) b e f) r) w) c.0 n.0 y) z

      mutual
        pub found_still : (p : FlatPattern) (q : ℕ) (G : Context) (d : Free) → No_name_of (names p) d → G.finds d ≡ true → (with_pattern s p q G).finds d ≡ true
        found_still (Bound_pattern x) q G d a y = name_still x (s q) (with_entered (s q) G) d a (still_entered (s q) G d y)
        found_still Wild_pattern q G d a y = still_entered (s q) G d y
        found_still (Tuple_pattern ps) q G d a y = parts_still ps (1 + q) (with_entered (s q) G) d a (still_entered (s q) G d y)
        found_still (Record_pattern fs ps) q G d a y = parts_still ps (1 + q) (with_entered (s q) G) d a (still_entered (s q) G d y)
        found_still (Typed_pattern p e) q G d a y = found_still p q G d a y

        parts_still : (ps : Patterns Ref BindId) (q : ℕ) (G : Context) (d : Free) → No_name_of (all_names ps) d → G.finds d ≡ true → (with_all_patterns s ps q G).finds d ≡ true
        parts_still no_pattern q G d a y = y
        parts_still (pattern_and p ps) q G d a y = parts_still ps (q + pattern_numbers p) (with_pattern s p q G) d (λ b z. later_not (names p) (all_names ps) b (a b z)) (found_still p q G d (λ b z. first_not (names p) (all_names ps) b (a b z)) y)

      mutual
        found_named : (p : FlatPattern) (q : ℕ) → Plain_pattern types home K places p q → (t : Size) → Nodes N p q t s → (G : Context) (d : Free) → Named_by N p t d → (with_pattern s p q G).finds d ≡ true
        found_named (Bound_pattern x) q h t n G d y = name_found x (s q) (with_entered (s q) G) d y.0 (i64_number (s q) (ap is_i64_size n ∙ y.1))
        found_named Wild_pattern q h t n G d y = absurd y
        found_named (Tuple_pattern ps) q h (Built g ts) n G d y = part_found ps (1 + q) h ts n.1 (with_entered (s q) G) d y
        found_named (Tuple_pattern ps) q h (Hole v) n G d y = absurd y
        found_named (Tuple_pattern ps) q h (Open m v u) n G d y = absurd y
        found_named (Tuple_pattern ps) q h (Level x t) n G d y = absurd y
        found_named (Tuple_pattern ps) q h (Fun k p r) n G d y = absurd y
        found_named (Record_pattern fs ps) q h t n G d y = fields_found fs ps (1 + q) h t n.1 (with_entered (s q) G) d y
        found_named (Typed_pattern p e) q h t n G d y = found_named p q h.1 t n G d y

        part_found : (ps : Patterns Ref BindId) (q : ℕ) → Plain_parts types home K places ps q → (ts : Sizes) → All_nodes N ps q ts s → (G : Context) (d : Free) → Part_named N ps ts d → (with_all_patterns s ps q G).finds d ≡ true
        part_found no_pattern q h ts n G d y = absurd y
        part_found (pattern_and p ps) q h no_size n G d y = absurd y
        part_found (pattern_and p ps) q h (size_and t ts) n G d (inl y) = parts_still ps (q + pattern_numbers p) (with_pattern s p q G) d (no_part_by_home types home K places N ps (q + pattern_numbers p) q (q + pattern_numbers p) (omega arith) h.1 d (named_there types home K places N p q h.0 t d y)) (found_named p q h.0 t n.0 G d y)
        part_found (pattern_and p ps) q h (size_and t ts) n G d (inr y) = part_found ps (q + pattern_numbers p) h.1 ts n.1 (with_pattern s p q G) d y

        fields_found : (ls : List Text) (ps : Patterns Ref BindId) (q : ℕ) → Plain_parts types home K places ps q → (t : Size) → Fields_nodes N ls ps q t s → (G : Context) (d : Free) → Fields_named N ls ps t d → (with_all_patterns s ps q G).finds d ≡ true
        fields_found [] ps q h t n G d y = absurd y
        fields_found (l ∷ ls) no_pattern q h t n G d y = absurd y
        fields_found (l ∷ ls) (pattern_and p ps) q h t n G d (inl y) = parts_still ps (q + pattern_numbers p) (with_pattern s p q G) d (no_part_by_home types home K places N ps (q + pattern_numbers p) q (q + pattern_numbers p) (omega arith) h.1 d (of_part (part_of N l t) (λ u. Named_by N p u d) (Name_there types home K places q (q + pattern_numbers p) d) (λ u k. named_there types home K places N p q h.0 u d k) y)) (both_parts (part_of N l t) (λ u. Named_by N p u d) (λ u. Nodes N p q u s) ((with_pattern s p q G).finds d ≡ true) (λ u k m. found_named p q h.0 u m G d k) y n.0)
        fields_found (l ∷ ls) (pattern_and p ps) q h t n G d (inr y) = fields_found ls ps (q + pattern_numbers p) h.1 t n.1 (with_pattern s p q G) d y

      mutual
        types_still : (p : FlatPattern) (q : ℕ) (G : Context) (v : Variable) → G.finds_types v ≡ true → (with_pattern s p q G).finds_types v ≡ true
        types_still (Bound_pattern x) q G v y = types_entered (s q) G v y
        types_still Wild_pattern q G v y = types_entered (s q) G v y
        types_still (Tuple_pattern ps) q G v y = parts_types_still ps (1 + q) (with_entered (s q) G) v (types_entered (s q) G v y)
        types_still (Record_pattern fs ps) q G v y = parts_types_still ps (1 + q) (with_entered (s q) G) v (types_entered (s q) G v y)
        types_still (Typed_pattern p e) q G v y = types_still p q G v y

        parts_types_still : (ps : Patterns Ref BindId) (q : ℕ) (G : Context) (v : Variable) → G.finds_types v ≡ true → (with_all_patterns s ps q G).finds_types v ≡ true
        parts_types_still no_pattern q G v y = y
        parts_types_still (pattern_and p ps) q G v y = parts_types_still ps (q + pattern_numbers p) (with_pattern s p q G) v (types_still p q G v y)

      -- what stands in the value is found behind the pattern
      found_standing : (p : FlatPattern) (q : ℕ) (G : Context) (d : Free) → No_name_of (names p) d → stands (s q) d ≡ true → (with_pattern s p q G).finds d ≡ true
      found_standing (Bound_pattern x) q G d a y = name_still x (s q) (with_entered (s q) G) d a (standing_entered (s q) G d y)
      found_standing Wild_pattern q G d a y = standing_entered (s q) G d y
      found_standing (Tuple_pattern ps) q G d a y = parts_still ps (1 + q) (with_entered (s q) G) d a (standing_entered (s q) G d y)
      found_standing (Record_pattern fs ps) q G d a y = parts_still ps (1 + q) (with_entered (s q) G) d a (standing_entered (s q) G d y)
      found_standing (Typed_pattern p e) q G d a y = found_standing p q G d a y

      types_standing : (p : FlatPattern) (q : ℕ) (G : Context) (v : Variable) → has_hole (s q) v ≡ true → (with_pattern s p q G).finds_types v ≡ true
      types_standing (Bound_pattern x) q G v y = holes_entered (s q) G v y
      types_standing Wild_pattern q G v y = holes_entered (s q) G v y
      types_standing (Tuple_pattern ps) q G v y = parts_types_still ps (1 + q) (with_entered (s q) G) v (holes_entered (s q) G v y)
      types_standing (Record_pattern fs ps) q G v y = parts_types_still ps (1 + q) (with_entered (s q) G) v (holes_entered (s q) G v y)
      types_standing (Typed_pattern p e) q G v y = types_standing p q G v y

      of_field : (o : Option Size) (p : FlatPattern) (q : ℕ) (X : Type 0) → ((u : Size) → o ≡ Some u → Has_parts N p u → Nodes N p q u s → X) → Field_has N p o → If_part o (λ u. Nodes N p q u s) → X
      of_field (Some u) p q X f c n = f u refl c n
      of_field None p q X f c n = absurd c

      -- nothing is open in the parts of what is not
      mutual
        unfolding Each_hole Each_holes

        none_open_with : (p : FlatPattern) (q : ℕ) (t : Size) → Has_parts N p t → Nodes N p q t s → Each_hole Any_variable t → (G : Context) → None_open G → None_open (with_pattern s p q G)
        none_open_with (Bound_pattern x) q t c n h G o = (λ b u z. by_size b u (nat_eq x.0 b) z, λ b u z. by_scheme b u (nat_eq x.0 b) z)
          where
            by_size : (b : ℕ) (u : Size) (k : Bool) → cond k (Some (s q)) (G.sizes b) ≡ Some u → Each_hole Any_variable u
            by_size b u true z = subst (Each_hole Any_variable) (sym n ∙ (let w : Some (s q) ≡ Some u = z in let v : s q ≡ u = cc in v)) h
            by_size b u false z = o.0 b u z

            by_scheme : (b : ℕ) (u : Size) (k : Bool) → cond k None (G.schemes b) ≡ Some u → Each_hole Any_variable u
            by_scheme b u true z = absurd (let w : None ≡ Some u = z in cc)
            by_scheme b u false z = o.1 b u z
        none_open_with Wild_pattern q t c n h G o = o
        none_open_with (Tuple_pattern ps) q (Built g ts) c n h G o = none_open_parts ps (1 + q) ts c.1 n.1 h (with_entered (s q) G) o
        none_open_with (Tuple_pattern ps) q (Hole v) c n h G o = absurd c
        none_open_with (Tuple_pattern ps) q (Open m v w) c n h G o = absurd c
        none_open_with (Tuple_pattern ps) q (Level d t) c n h G o = absurd c
        none_open_with (Tuple_pattern ps) q (Fun k p r) c n h G o = absurd c
        none_open_with (Record_pattern fs ps) q t c n h G o = none_open_fields fs ps (1 + q) t c n.1 h (with_entered (s q) G) o
        none_open_with (Typed_pattern p e) q t c n h G o = none_open_with p q t c.1 n h G o

        none_open_parts : (ps : Patterns Ref BindId) (q : ℕ) (ts : Sizes) → All_have_parts N ps ts → All_nodes N ps q ts s → Each_holes Any_variable ts → (G : Context) → None_open G → None_open (with_all_patterns s ps q G)
        none_open_parts no_pattern q ts c n h G o = o
        none_open_parts (pattern_and p ps) q no_size c n h G o = absurd c
        none_open_parts (pattern_and p ps) q (size_and t ts) c n h G o = none_open_parts ps (q + pattern_numbers p) ts c.1 n.1 h.1 (with_pattern s p q G) (none_open_with p q t c.0 n.0 h.0 G o)

        none_open_fields : (ls : List Text) (ps : Patterns Ref BindId) (q : ℕ) (t : Size) → Fields_have N ls ps t → Fields_nodes N ls ps q t s → Each_hole Any_variable t → (G : Context) → None_open G → None_open (with_all_patterns s ps q G)
        none_open_fields [] no_pattern q t c n h G o = o
        none_open_fields [] (pattern_and p ps) q t c n h G o = absurd c
        none_open_fields (l ∷ ls) no_pattern q t c n h G o = absurd c
        none_open_fields (l ∷ ls) (pattern_and p ps) q t c n h G o = none_open_fields ls ps (q + pattern_numbers p) t c.1 n.1 h (with_pattern s p q G)
            (of_field (part_of N l t) p q (None_open (with_pattern s p q G)) (λ u e k m. none_open_with p q u k m (part_none_open N l t h u e) G o) c.0 n.0)

      -- one name more, of a value that is not entered
      module _ (bs : List ℕ) (x : BindId) (q : ℕ) (t : Size) (n : s q ≡ t) (scope : Scope) (G : Context) (known : (b : ℕ) (g : Bool) (u : Size) → is_among bs b ≡ false → is_among (x.0 ∷ []) b ≡ false → scope b ≡ Some (record { size = u; is_general = g }) → named_in b g u g G ≡ Some u) (none_open : None_open G) (closed : Each_hole Any_variable t) where
        pub judged_name : ((d : Free) → In' d → Named_by N (Bound_pattern x) t d ⊎ (((G.finds d ≡ true) × No_name_of (x.0 ∷ []) d) ⊎ Is_const d)) → ((v : Variable) → Vars' v → G.finds_types v ≡ true) → Judged_but bs In' Vars' (with_name x.0 t scope) (with_known_name x.0 (s q) G)
        judged_name split types_found = record {
          sizes = λ b u k z. sizes_with b false u (Bound_pattern x) q t tt n scope G (known b false u k) z;
          schemes = λ b u k z. sizes_with b true u (Bound_pattern x) q t tt n scope G (known b true u k) z;
          none_open = none_open_with (Bound_pattern x) q t tt n closed G none_open;
          finds = λ d i. by_form d (split d i);
          finds_types = λ v i. types_found v i;
        }
          where
            by_form : (d : Free) → Named_by N (Bound_pattern x) t d ⊎ (((G.finds d ≡ true) × No_name_of (x.0 ∷ []) d) ⊎ Is_const d) → ((with_known_name x.0 (s q) G).finds d ≡ true) ⊎ Is_const d
            by_form d (inl y) = inl (name_found x (s q) G d y.0 (i64_number (s q) (ap is_i64_size n ∙ y.1)))
            by_form d (inr (inl y)) = inl (name_still x (s q) G d y.1 y.0)
            by_form d (inr (inr y)) = inr y

      module _ (bs : List ℕ) (In : Free → Type 0) (Vars : Variable → Type 0) (p : FlatPattern) (q : ℕ) (l : Plain_pattern types home K places p q) (t : Size) (c : Has_parts N p t) (n : Nodes N p q t s) (scope : Scope) (G : Context) where
        pub judged_with : ((b : ℕ) → In (Name b) → At_home types home K places q (q + pattern_numbers p) b → ⊥)
            → ((d : Free) → In' d → In d ⊎ (Stands_there (names p) t d ⊎ (Named_by N p t d ⊎ Is_const d))) → ((v : Variable) → Vars' v → Vars v ⊎ (has_hole t v ≡ true))
            → ((b : ℕ) (g : Bool) (u : Size) → is_among bs b ≡ false → is_among (names p) b ≡ false → scope b ≡ Some (record { size = u; is_general = g }) → named_in b g u g G ≡ Some u) → None_open G → Each_hole Any_variable t
            → ((d : Free) → In d → (G.finds d ≡ true) ⊎ Is_const d) → ((v : Variable) → Vars v → G.finds_types v ≡ true)
            → Judged_but bs In' Vars' (bound_scope N p t scope) (with_pattern s p q G)
        judged_with apart split split_types known none_open closed finds types_found = record {
          sizes = λ b u k z. sizes_with b false u p q t c n scope G (known b false u k) z;
          schemes = λ b u k z. sizes_with b true u p q t c n scope G (known b true u k) z;
          none_open = none_open_with p q t c n closed G none_open;
          finds = λ d i. by_form d (split d i);
          finds_types = λ v i. types_here v (split_types v i);
        }
          where
            of_before : (d : Free) → In d → (G.finds d ≡ true) ⊎ Is_const d → ((with_pattern s p q G).finds d ≡ true) ⊎ Is_const d
            of_before d i (inl y) = inl (found_still p q G d (no_name_by_home types home K places N p q l d (λ b z w. apart b (subst In z i) w)) y)
            of_before d i (inr y) = inr y

            by_form : (d : Free) → In d ⊎ (Stands_there (names p) t d ⊎ (Named_by N p t d ⊎ Is_const d)) → ((with_pattern s p q G).finds d ≡ true) ⊎ Is_const d
            by_form d (inl i) = of_before d i (finds d i)
            by_form d (inr (inl y)) = inl (found_standing p q G d y.1 (ap (λ u. stands u d) (first_node N p q t s n) ∙ y.0))
            by_form d (inr (inr (inl y))) = inl (found_named p q l t n G d y)
            by_form d (inr (inr (inr y))) = inr y

            types_here : (v : Variable) → Vars v ⊎ (has_hole t v ≡ true) → (with_pattern s p q G).finds_types v ≡ true
            types_here v (inl i) = types_still p q G v (types_found v i)
            types_here v (inr y) = types_standing p q G v (ap (λ u. has_hole u v) (first_node N p q t s n) ∙ y)
