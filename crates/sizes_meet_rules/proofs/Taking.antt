-- What the pass does with a pattern of names, parts and written types: the scope behind it, and the nodes that it notes.
use Rattle.std.proofs.Common.{◌≡◌, ◌⊎◌, ℕ, ◌+◌, ◌<◌, ◌≤◌, List, [], ◌∷◌, ◌++◌, Bool, true, false, cond, nat_eq, zero, suc, Option, Some, None, Ok, Err, refl, sym, ap, ◌∙◌, subst, arith, inl, inr, eqb-true, eq-eqb}
use Rattle.std.proofs.lemmas.Bool.{ne_eqb}
use Rattle.fut_scalar.specs.declared.place.BindId.{BindId}
use Rattle.fut_flat.specs.declared.prim.Ref.{Ref}
use Rattle.fut_flat.specs.declared.prim.Ref.TheVariants as ref
use Rattle.fut_flat.specs.Numbers.{pattern_numbers, all_pattern_numbers}
use Rattle.fut_flat.specs.Terms.{Size_term, Size_use, Size_const, Size_blank, Type_use, Array_type, Unique_type, Arrow_type, Tuple_type, Record_type, Type_terms, no_type, type_and, Bound_pattern, Wild_pattern, Tuple_pattern, Record_pattern, Typed_pattern, Patterns, no_pattern, pattern_and}
use Rattle.fut_flat.specs.Erased.{FlatPattern, FlatType}
use Rattle.fut_types.specs.declared.Head.{Head}
use Rattle.fut_types.specs.declared.Head.TheVariants as head
use Rattle.fut_types.specs.declared.Kind.{Kind}
use Rattle.fut_types.specs.Types.{Ty, Var, Made, Tys, none, more, Sub, Kinds}
use Rattle.fut_typing.specs.Names.{Names, Parts_named}
use Rattle.fut_typing.specs.Patterns.{pattern_types, Pattern_typed, Patterns_typed}
use Rattle.fut_typing.specs.Scopes.{Scope as TypeScope}
use Rattle.sized_types.specs.Sizes.{Free, Const, Name, Own, Unknown, Slot, Dim, At, Bound, Variable, Inferred, Written, Size, Hole, Open, Level, Built, Fun, Sizes, no_size, size_and, variable_ty, erased, all_erased, is_free, levels, renamed}
use Rattle.fut_sizes.specs.Agreeing.{Answer, Mismatch, is_among}
use Rattle.fut_sizes.specs.Functions.{is_slot}
use Rattle.fut_sizes.specs.Matching.{Found, found_size, Way, meet_size, data_way, none_opened, meet, all_meet}
use Rattle.fut_sizes.specs.Rules.{Each_hole, Each_holes, part_fits, Pattern_takes, All_take, Fields_take}
use Rattle.fut_sizes.specs.Scopes.{Scope, with_name, names, all_names, Taken, as_slot, some_part, taken, all_taken, fields_taken}
use Rattle.fut_sizes.specs.Sizing.{field_noted, pattern_noted, patterns_noted, fields_noted}
use Rattle.fut_sizes.specs.Steps.{State, Done}
use Rattle.fut_sizes.specs.Suiting.{Each, Each_all, Scoped, Data, All_data}
use Rattle.fut_ast.specs.Sorts.{Text}
use Rattle.fut_types.specs.Shapes.{place}
use Rattle.fut_sizes.specs.WrittenSizes.{part as size_part, with_part, part_of, changed_part, levels_there, same_dim, with_sizes, all_with_sizes, fields_with_sizes, has_sizes, coerced}
use Rattle.sizes_meet_rules.specs.Known.{Is_made, Formed, All_formed}
use Rattle.sizes_meet_rules.specs.Plain.{Is_bound, Written_data, All_written_data, Plain_pattern, Plain_parts}
use Rattle.sizes_meet_rules.proofs.Meeting.{then_ok, same_ok, refused_ok, at_itself, at_another}
use Rattle.sizes_meet_rules.proofs.Operating.{part_of_says, Size_written, Sizes_written, All_sizes_written, with_says}
use Rattle.sizes_meet_rules.proofs.Replacing.{free_same, not_renamed}
use Rattle.sizes_meet_rules.proofs.Settling.{Is_settled, noted}

pub pattern_some : (p : FlatPattern) → 1 ≤ pattern_numbers p
pattern_some (Bound_pattern b) = omega arith
pattern_some Wild_pattern = omega arith
pattern_some (Tuple_pattern ps) = omega arith
pattern_some (Record_pattern fs ps) = omega arith
pattern_some (Typed_pattern p t) = pattern_some p

-- ---- settled data of one type that is matched has one and the same sizes

free_met : (w : Way) (at : ℕ) (σ : Found) (d e : Free) → is_slot d ≡ false → is_slot e ≡ false → meet_size w at (found_size σ d) (found_size σ e) σ ≡ cond (is_free d e) (Ok σ) (Err (Mismatch at (At d) (At e)))
unfolding is_free
free_met w at σ (Slot i) e a b = absurd (let z : true ≡ false = a in cc)
free_met w at σ d (Slot j) a b = absurd (let z : true ≡ false = b in cc)
free_met w at σ d e a b = refl

same_free_met : (w : Way) (at : ℕ) (σ after : Found) (d e : Free) → is_slot d ≡ false → is_slot e ≡ false → meet_size w at (found_size σ d) (found_size σ e) σ ≡ Ok after → (d ≡ e) × (after ≡ σ)
same_free_met w at σ after d e a b q = by_same (is_free d e) refl (sym (free_met w at σ d e a b) ∙ q)
  where
    by_same : (c : Bool) → is_free d e ≡ c → ◌≡◌ {A = Answer Found} (cond (is_free d e) (Ok σ) (Err (Mismatch at (At d) (At e)))) (Ok after) → (d ≡ e) × (after ≡ σ)
    by_same true f q = (free_same d e f, sym (same_ok (ap (λ (b : Bool). cond b (Ok σ) (Err (Mismatch at (At d) (At e)))) (sym f) ∙ q)))
    by_same false f q = refused_ok (ap (λ (b : Bool). cond b (Ok σ) (Err (Mismatch at (At d) (At e)))) (sym f) ∙ q)

pub head_same : {h g : Head} {ts us : Tys} → Made h ts ≡ Made g us → h ≡ g
head_same e = cc

pub parts_same : {h g : Head} {ts us : Tys} → Made h ts ≡ Made g us → ts ≡ us
parts_same e = cc

pub variable_same : (v w : Variable) → variable_ty v ≡ variable_ty w → v ≡ w
variable_same (Inferred v) (Inferred w) e = cc
variable_same (Inferred v) (Written c l) e = absurd (let z : Var v ≡ Made (head.Rigid c l) none = e in cc)
variable_same (Written b k) (Inferred w) e = absurd (let z : Made (head.Rigid b k) none ≡ Var w = e in cc)
variable_same (Written b k) (Written c l) e = let z : head.Rigid b k ≡ head.Rigid c l = head_same e in cc

-- what data is made by is no variable and no array
pub not_variable : (v : Variable) (h : Head) (ts : Tys) → Is_made h → variable_ty v ≡ Made h ts → ⊥
not_variable (Inferred v) h ts m e = let z : Var v ≡ Made h ts = e in cc
not_variable (Written b k) h ts m e = subst Is_made (sym (head_same e)) m

pub no_variable_array : (v : Variable) (ts : Tys) → variable_ty v ≡ Made head.Array ts → ⊥
no_variable_array (Inferred v) ts e = let z : Var v ≡ Made head.Array ts = e in cc
no_variable_array (Written b k) ts e = let z : head.Rigid b k ≡ head.Array = head_same e in cc

module _ (lo at : ℕ) where
  mutual
    unfolding meet all_meet Each Each_all Data All_data Formed All_formed erased all_erased

    pub same_met : (x t : Size) (σ after : Found) → Data x → Data t → Formed x → Formed t → Each (Scoped Is_settled) 0 x → Each (Scoped Is_settled) 0 t → erased x ≡ erased t → meet lo data_way at none_opened x none_opened t σ ≡ Ok after → (x ≡ t) × (after ≡ σ)
    same_met (Open n v u) t σ after dx dt fx ft sx st z q = absurd dx
    same_met (Fun k p r) t σ after dx dt fx ft sx st z q = absurd dx
    same_met x (Open n v u) σ after dx dt fx ft sx st z q = absurd dt
    same_met x (Fun k p r) σ after dx dt fx ft sx st z q = absurd dt
    same_met (Hole v) (Hole w) σ after dx dt fx ft sx st z q = (ap Hole (variable_same v w z), sym (same_ok q))
    same_met (Hole v) (Level e t) σ after dx dt fx ft sx st z q = absurd (no_variable_array v (more (erased t) none) z)
    same_met (Hole v) (Built g ts) σ after dx dt fx ft sx st z q = absurd (not_variable v g (all_erased ts) ft.0 z)
    same_met (Level d x) (Hole w) σ after dx dt fx ft sx st z q = absurd (no_variable_array w (more (erased x) none) (sym z))
    same_met (Level d x) (Built g ts) σ after dx dt fx ft sx st z q = absurd (subst Is_made (sym (head_same z)) ft.0)
    same_met (Level (Bound k i) x) (Level e t) σ after dx dt fx ft sx st z q = absurd (let l = sx.0 in omega (arith, l))
    same_met (Level (At d) x) (Level (Bound k i) t) σ after dx dt fx ft sx st z q = absurd (let l = st.0 in omega (arith, l))
    same_met (Level (At d) x) (Level (At e) t) σ after dx dt fx ft sx st z q =
        let r = then_ok (meet_size data_way at (found_size σ d) (found_size σ e) σ) q in
        let a = same_free_met data_way at σ r.first d e sx.0 st.0 r.done in
        let b = same_met x t r.first after dx dt fx ft sx.1 st.1 (let y : Made head.Array (more (erased x) none) ≡ Made head.Array (more (erased t) none) = z in cc) r.rest in
        (ap (λ f. Level (At f) x) a.0 ∙ ap (Level (At e)) b.0, b.1 ∙ a.1)
    same_met (Built h xs) (Hole w) σ after dx dt fx ft sx st z q = absurd (not_variable w h (all_erased xs) fx.0 (sym z))
    same_met (Built h xs) (Level e t) σ after dx dt fx ft sx st z q = absurd (subst Is_made (head_same z) fx.0)
    same_met (Built h xs) (Built g ts) σ after dx dt fx ft sx st z q =
        let b = all_same_met xs ts σ after dx dt fx.1 ft.1 sx st (parts_same z) q in (ap (λ f. Built f xs) (head_same z) ∙ ap (Built g) b.0, b.1)

    all_same_met : (xs ts : Sizes) (σ after : Found) → All_data xs → All_data ts → All_formed xs → All_formed ts → Each_all (Scoped Is_settled) 0 xs → Each_all (Scoped Is_settled) 0 ts → all_erased xs ≡ all_erased ts → all_meet lo data_way at none_opened xs none_opened ts σ ≡ Ok after → (xs ≡ ts) × (after ≡ σ)
    all_same_met no_size no_size σ after dx dt fx ft sx st z q = (refl, sym (same_ok q))
    all_same_met no_size (size_and t ts) σ after dx dt fx ft sx st z q = absurd (let y : none ≡ more (erased t) (all_erased ts) = z in cc)
    all_same_met (size_and x xs) no_size σ after dx dt fx ft sx st z q = absurd (let y : more (erased x) (all_erased xs) ≡ none = z in cc)
    all_same_met (size_and x xs) (size_and t ts) σ after dx dt fx ft sx st z q =
        let y : more (erased x) (all_erased xs) ≡ more (erased t) (all_erased ts) = z in
        let r = then_ok (meet lo data_way at none_opened x none_opened t σ) q in
        let a = same_met x t σ r.first dx.0 dt.0 fx.0 ft.0 sx.0 st.0 (let w : erased x ≡ erased t = cc in w) r.done in
        let b = all_same_met xs ts r.first after dx.1 dt.1 fx.1 ft.1 sx.1 st.1 (let w : all_erased xs ≡ all_erased ts = cc in w) r.rest in
        (ap (λ f. size_and f xs) a.0 ∙ ap (size_and t) b.0, b.1 ∙ a.1)

-- ---- written types of data

size_settled : (s : Size_term Ref BindId) → Size_written Is_settled s
size_settled (Size_use (ref.Bound b)) = refl
size_settled (Size_use (ref.Prim r)) = tt
size_settled (Size_use (ref.Scalar r)) = tt
size_settled (Size_const c) = tt
size_settled (Size_blank b) = tt

mutual
  pub written_settled : (e : FlatType) → Sizes_written Is_settled e
  written_settled (Type_use r args) = tt
  written_settled (Array_type s e) = (size_settled s, written_settled e)
  written_settled (Unique_type e) = written_settled e
  written_settled (Arrow_type b x y) = tt
  written_settled (Tuple_type es) = all_written_settled es
  written_settled (Record_type fs es) = all_written_settled es

  all_written_settled : (es : Type_terms Ref BindId) → All_sizes_written Is_settled es
  all_written_settled no_type = tt
  all_written_settled (type_and e es) = (written_settled e, all_written_settled es)

module _ (N : Names) (change : Size → Size) (keeps : (u : Size) → Data u → Data (change u)) where
  one_data : (o : Option ℕ) (ts : Sizes) → All_data ts → All_data (with_part o change ts)
  unfolding All_data
  one_data None ts h = h
  one_data (Some i) no_size h = h
  one_data (Some zero) (size_and t ts) h = (keeps t h.0, h.1)
  one_data (Some (suc i)) (size_and t ts) h = (h.0, one_data (Some i) ts h.1)

  changed_data : (f : Text) (t : Size) → Data t → Data (changed_part N f change t)
  unfolding changed_part Data
  changed_data f (Built k ts) h = one_data (place N.shapes (N.label f) k) ts h
  changed_data f (Hole v) h = h
  changed_data f (Open m v t) h = h
  changed_data f (Level l t) h = h
  changed_data f (Fun k t r) h = h

module _ (N : Names) (results : Option (ℕ → ℕ → Dim → Dim)) (blank : ℕ → Dim → Dim) where
  mutual
    unfolding with_sizes all_with_sizes fields_with_sizes Data All_data

    pub data_written : (e : FlatType) → Written_data e → (t : Size) (i : ℕ) → Data t → Data (with_sizes N results blank i e t)
    data_written (Type_use r args) p t i h = h
    data_written (Array_type s e) p (Level d t) i h = data_written e p t (suc i) h
    data_written (Array_type s e) p t i h = h
    data_written (Unique_type e) p t i h = data_written e p t i h
    data_written (Tuple_type es) p (Built g ts) i h = all_data_written es p ts i h
    data_written (Tuple_type es) p t i h = h
    data_written (Arrow_type b x y) p t i h = absurd p
    data_written (Record_type fs es) p t i h = fields_data_written fs es p t i h

    all_data_written : (es : Type_terms Ref BindId) → All_written_data es → (ts : Sizes) (i : ℕ) → All_data ts → All_data (all_with_sizes N results blank i es ts)
    all_data_written (type_and e es) p (size_and t ts) i h = (data_written e p.0 t i h.0, all_data_written es p.1 ts (levels t + i) h.1)
    all_data_written (type_and e es) p no_size i h = h
    all_data_written no_type p ts i h = h

    fields_data_written : (fs : List Text) (es : Type_terms Ref BindId) → All_written_data es → (t : Size) (i : ℕ) → Data t → Data (fields_with_sizes N results blank i fs es t)
    fields_data_written (f ∷ fs) (type_and e es) p t i h = fields_data_written fs es p.1 (changed_part N f (with_sizes N results blank i e) t) (levels_there (part_of N f t) + i) (changed_data N (with_sizes N results blank i e) (λ u k. data_written e p.0 u i k) f t h)
    fields_data_written [] es p t i h = h
    fields_data_written (f ∷ fs) no_type p t i h = h

-- of a part, if it is there
abbrev pub Of_part : Option Size → (Size → Type 0) → Type 0
Of_part (Some t) P = P t
Of_part None P = ⊥

abbrev pub If_part : Option Size → (Size → Type 0) → Type 0
If_part (Some t) P = P t
If_part None P = Unit {0}

abbrev pub part_bound : Option Size → (Size → Scope → Scope) → Scope → Scope
part_bound (Some t) bound scope = bound t scope
part_bound None bound scope = scope

pub of_part : (o : Option Size) (P : Size → Type 0) (X : Type 0) → ((u : Size) → P u → X) → Of_part o P → X
of_part (Some t) P X f h = f t h
of_part None P X f h = absurd h

pub if_part_as : (o : Option Size) (P Q : Size → Type 0) → ((u : Size) → P u → Q u) → If_part o P → If_part o Q
if_part_as (Some t) P Q f h = f t h
if_part_as None P Q f h = tt

-- what holds of the part, whose nodes are noted
pub both_parts : (o : Option Size) (P Q : Size → Type 0) (X : Type 0) → ((u : Size) → P u → Q u → X) → Of_part o P → If_part o Q → X
both_parts (Some t) P Q X f h k = f t h k
both_parts None P Q X f h k = absurd h

module _ (N : Names) where
  -- ---- the parts that a pattern names

  abbrev mutual
    pub Has_parts : FlatPattern → Size → Type 0
    Has_parts (Tuple_pattern ps) (Built h ts) = (h ≡ head.Tuple) × All_have_parts ps ts
    Has_parts (Tuple_pattern ps) t = ⊥
    Has_parts (Record_pattern fs ps) t = Fields_have fs ps t
    Has_parts (Typed_pattern p e) t = (coerced N e t ≡ t) × Has_parts p t
    Has_parts p t = Unit {0}

    pub All_have_parts : Patterns Ref BindId → Sizes → Type 0
    All_have_parts no_pattern no_size = Unit {0}
    All_have_parts (pattern_and p ps) (size_and t ts) = Has_parts p t × All_have_parts ps ts
    All_have_parts ps ts = ⊥

    pub Fields_have : List Text → Patterns Ref BindId → Size → Type 0
    Fields_have [] no_pattern t = Unit {0}
    Fields_have (f ∷ fs) (pattern_and p ps) t = Of_part (part_of N f t) (λ u. Has_parts p u) × Fields_have fs ps t
    Fields_have fs ps t = ⊥

abbrev mutual
  pub bound_scope : Names → FlatPattern → Size → Scope → Scope
  bound_scope N (Bound_pattern x) t scope = with_name x.0 t scope
  bound_scope N (Tuple_pattern ps) (Built h ts) scope = parts_bound N ps ts scope
  bound_scope N (Record_pattern fs ps) t scope = fields_bound N fs ps t scope
  bound_scope N (Typed_pattern p e) t scope = bound_scope N p t scope
  bound_scope N p t scope = scope

  pub parts_bound : Names → Patterns Ref BindId → Sizes → Scope → Scope
  parts_bound N (pattern_and p ps) (size_and t ts) scope = parts_bound N ps ts (bound_scope N p t scope)
  parts_bound N ps ts scope = scope

  pub fields_bound : Names → List Text → Patterns Ref BindId → Size → Scope → Scope
  fields_bound N (f ∷ fs) (pattern_and p ps) t scope = fields_bound N fs ps t (part_bound (part_of N f t) (λ u inner. bound_scope N p u inner) scope)
  fields_bound N fs ps t scope = scope

abbrev pub Field_has : Names → FlatPattern → Option Size → Type 0
Field_has N p o = Of_part o (λ u. Has_parts N p u)

abbrev pub field_bound : Names → FlatPattern → Option Size → Scope → Scope
field_bound N p o scope = part_bound o (λ u inner. bound_scope N p u inner) scope

-- a name that is none of the pattern's is what it was
pub first_not : (xs ys : List ℕ) (b : ℕ) → is_among (xs ++ ys) b ≡ false → is_among xs b ≡ false
first_not [] ys b e = refl
first_not (x ∷ xs) ys b e = by_name (nat_eq b x) (first_not xs ys b) e
  where
    by_name : (c : Bool) → (is_among (xs ++ ys) b ≡ false → is_among xs b ≡ false) → cond c true (is_among (xs ++ ys) b) ≡ false → cond c true (is_among xs b) ≡ false
    by_name true go e = e
    by_name false go e = go e

pub later_not : (xs ys : List ℕ) (b : ℕ) → is_among (xs ++ ys) b ≡ false → is_among ys b ≡ false
later_not [] ys b e = e
later_not (x ∷ xs) ys b e = by_name (nat_eq b x) (later_not xs ys b) e
  where
    by_name : (c : Bool) → (is_among (xs ++ ys) b ≡ false → is_among ys b ≡ false) → cond c true (is_among (xs ++ ys) b) ≡ false → is_among ys b ≡ false
    by_name true go e = absurd (let z : true ≡ false = e in cc)
    by_name false go e = go e

module _ (N : Names) where
  mutual
    pub not_bound : (p : FlatPattern) (t : Size) (b : ℕ) (scope : Scope) → is_among (names p) b ≡ false → bound_scope N p t scope b ≡ scope b
    not_bound (Bound_pattern x) t b scope e = ap (λ c. cond c (Some (record { size = t; is_general = false })) (scope b)) (ne_eqb x.0 b (λ z. let w : true ≡ false = sym (ap (λ c. cond c true false) (eq-eqb b x.0 (sym z))) ∙ e in cc))
    not_bound Wild_pattern t b scope e = refl
    not_bound (Tuple_pattern ps) (Built h ts) b scope e = no_part_bound ps ts b scope e
    not_bound (Tuple_pattern ps) (Hole v) b scope e = refl
    not_bound (Tuple_pattern ps) (Open n v u) b scope e = refl
    not_bound (Tuple_pattern ps) (Level d t) b scope e = refl
    not_bound (Tuple_pattern ps) (Fun k p r) b scope e = refl
    not_bound (Record_pattern fs ps) t b scope e = no_field_bound fs ps t b scope e
    not_bound (Typed_pattern p x) t b scope e = not_bound p t b scope e

    no_part_bound : (ps : Patterns Ref BindId) (ts : Sizes) (b : ℕ) (scope : Scope) → is_among (all_names ps) b ≡ false → parts_bound N ps ts scope b ≡ scope b
    no_part_bound no_pattern ts b scope e = refl
    no_part_bound (pattern_and p ps) no_size b scope e = refl
    no_part_bound (pattern_and p ps) (size_and t ts) b scope e = no_part_bound ps ts b (bound_scope N p t scope) (later_not (names p) (all_names ps) b e) ∙ not_bound p t b scope (first_not (names p) (all_names ps) b e)

    no_field_bound : (ls : List Text) (ps : Patterns Ref BindId) (t : Size) (b : ℕ) (scope : Scope) → is_among (all_names ps) b ≡ false → fields_bound N ls ps t scope b ≡ scope b
    no_field_bound [] ps t b scope e = refl
    no_field_bound (l ∷ ls) no_pattern t b scope e = refl
    no_field_bound (l ∷ ls) (pattern_and p ps) t b scope e = no_field_bound ls ps t b (part_bound (part_of N l t) (λ u inner. bound_scope N p u inner) scope) (later_not (names p) (all_names ps) b e) ∙ one_field (part_of N l t) (λ u. not_bound p u b scope (first_not (names p) (all_names ps) b e))
      where
        one_field : (o : Option Size) → ((u : Size) → bound_scope N p u scope b ≡ scope b) → part_bound o (λ u inner. bound_scope N p u inner) scope b ≡ scope b
        one_field (Some u) go = go u
        one_field None go = refl

-- each node of a pattern has the sized type of its part
abbrev mutual
  pub Nodes : Names → FlatPattern → ℕ → Size → (ℕ → Size) → Type 0
  Nodes N (Tuple_pattern ps) q (Built h ts) f = (f q ≡ Built h ts) × All_nodes N ps (1 + q) ts f
  Nodes N (Record_pattern fs ps) q t f = (f q ≡ t) × Fields_nodes N fs ps (1 + q) t f
  Nodes N (Typed_pattern p e) q t f = Nodes N p q t f
  Nodes N p q t f = f q ≡ t

  pub All_nodes : Names → Patterns Ref BindId → ℕ → Sizes → (ℕ → Size) → Type 0
  All_nodes N (pattern_and p ps) q (size_and t ts) f = Nodes N p q t f × All_nodes N ps (q + pattern_numbers p) ts f
  All_nodes N ps q ts f = Unit {0}

  pub Fields_nodes : Names → List Text → Patterns Ref BindId → ℕ → Size → (ℕ → Size) → Type 0
  Fields_nodes N (f ∷ fs) (pattern_and p ps) q t g = If_part (part_of N f t) (λ u. Nodes N p q u g) × Fields_nodes N fs ps (q + pattern_numbers p) t g
  Fields_nodes N fs ps q t g = Unit {0}

abbrev pub Field_nodes : Names → FlatPattern → ℕ → Option Size → (ℕ → Size) → Type 0
Field_nodes N p q o g = If_part o (λ u. Nodes N p q u g)

module _ (N : Names) where
  pub first_node : (p : FlatPattern) (q : ℕ) (t : Size) (f : ℕ → Size) → Nodes N p q t f → f q ≡ t
  first_node (Bound_pattern x) q t f h = h
  first_node Wild_pattern q t f h = h
  first_node (Tuple_pattern ps) q (Built g ts) f h = h.0
  first_node (Tuple_pattern ps) q (Hole v) f h = h
  first_node (Tuple_pattern ps) q (Open n v u) f h = h
  first_node (Tuple_pattern ps) q (Level d t) f h = h
  first_node (Tuple_pattern ps) q (Fun k p r) f h = h
  first_node (Record_pattern fs ps) q t f h = h.0
  first_node (Typed_pattern p e) q t f h = first_node p q t f h

  mutual
    pub nodes_as : (p : FlatPattern) (q : ℕ) (t : Size) (f g : ℕ → Size) → ((n : ℕ) → q ≤ n → n < q + pattern_numbers p → g n ≡ f n) → Nodes N p q t f → Nodes N p q t g
    nodes_as (Bound_pattern x) q t f g a h = a q (omega arith) (omega arith) ∙ h
    nodes_as Wild_pattern q t f g a h = a q (omega arith) (omega arith) ∙ h
    nodes_as (Tuple_pattern ps) q (Built k ts) f g a h = (a q (omega arith) (omega arith) ∙ h.0, all_nodes_as ps (1 + q) ts f g (λ n x y. a n (omega (arith, x)) (omega (arith, y))) h.1)
    nodes_as (Tuple_pattern ps) q (Hole v) f g a h = a q (omega arith) (omega arith) ∙ h
    nodes_as (Tuple_pattern ps) q (Open n v u) f g a h = a q (omega arith) (omega arith) ∙ h
    nodes_as (Tuple_pattern ps) q (Level d t) f g a h = a q (omega arith) (omega arith) ∙ h
    nodes_as (Tuple_pattern ps) q (Fun k p r) f g a h = a q (omega arith) (omega arith) ∙ h
    nodes_as (Record_pattern fs ps) q t f g a h = (a q (omega arith) (omega arith) ∙ h.0, fields_nodes_as fs ps (1 + q) t f g (λ n x y. a n (omega (arith, x)) (omega (arith, y))) h.1)
    nodes_as (Typed_pattern p e) q t f g a h = nodes_as p q t f g a h

    all_nodes_as : (ps : Patterns Ref BindId) (q : ℕ) (ts : Sizes) (f g : ℕ → Size) → ((n : ℕ) → q ≤ n → n < q + all_pattern_numbers ps → g n ≡ f n) → All_nodes N ps q ts f → All_nodes N ps q ts g
    all_nodes_as no_pattern q ts f g a h = tt
    all_nodes_as (pattern_and p ps) q no_size f g a h = tt
    all_nodes_as (pattern_and p ps) q (size_and t ts) f g a h = (nodes_as p q t f g (λ n x y. a n x (omega (arith, y))) h.0, all_nodes_as ps (q + pattern_numbers p) ts f g (λ n x y. a n (omega (arith, x)) (omega (arith, y))) h.1)

    fields_nodes_as : (ls : List Text) (ps : Patterns Ref BindId) (q : ℕ) (t : Size) (f g : ℕ → Size) → ((n : ℕ) → q ≤ n → n < q + all_pattern_numbers ps → g n ≡ f n) → Fields_nodes N ls ps q t f → Fields_nodes N ls ps q t g
    fields_nodes_as [] ps q t f g a h = tt
    fields_nodes_as (l ∷ ls) no_pattern q t f g a h = tt
    fields_nodes_as (l ∷ ls) (pattern_and p ps) q t f g a h = (if_part_as (part_of N l t) (λ u. Nodes N p q u f) (λ u. Nodes N p q u g) (λ u k. nodes_as p q u f g (λ n x y. a n x (omega (arith, y))) k) h.0, fields_nodes_as ls ps (q + pattern_numbers p) t f g (λ n x y. a n (omega (arith, x)) (omega (arith, y))) h.1)

  pub field_nodes_as : (p : FlatPattern) (q : ℕ) (o : Option Size) (f g : ℕ → Size) → ((n : ℕ) → q ≤ n → n < q + pattern_numbers p → g n ≡ f n) → Field_nodes N p q o f → Field_nodes N p q o g
  field_nodes_as p q o f g a h = if_part_as o (λ u. Nodes N p q u f) (λ u. Nodes N p q u g) (λ u k. nodes_as p q u f g a k) h

-- ---- the names of a pattern are at home at its nodes

pub among_joined : (xs ys : List ℕ) (c : ℕ) → is_among (xs ++ ys) c ≡ true → (is_among xs c ≡ true) ⊎ (is_among ys c ≡ true)
among_joined [] ys c e = inr e
among_joined (x ∷ xs) ys c e = by_name (nat_eq c x) (among_joined xs ys c) e
  where
    by_name : (b : Bool) → (is_among (xs ++ ys) c ≡ true → (is_among xs c ≡ true) ⊎ (is_among ys c ≡ true)) → cond b true (is_among (xs ++ ys) c) ≡ true → (cond b true (is_among xs c) ≡ true) ⊎ (is_among ys c ≡ true)
    by_name true go e = inl refl
    by_name false go e = go e

pub among_first : (xs ys : List ℕ) (c : ℕ) → is_among xs c ≡ true → is_among (xs ++ ys) c ≡ true
among_first [] ys c e = absurd (let z : false ≡ true = e in cc)
among_first (x ∷ xs) ys c e = by_name (nat_eq c x) (among_first xs ys c) e
  where
    by_name : (b : Bool) → (is_among xs c ≡ true → is_among (xs ++ ys) c ≡ true) → cond b true (is_among xs c) ≡ true → cond b true (is_among (xs ++ ys) c) ≡ true
    by_name true go e = refl
    by_name false go e = go e

pub among_later : (xs ys : List ℕ) (c : ℕ) → is_among ys c ≡ true → is_among (xs ++ ys) c ≡ true
among_later [] ys c e = e
among_later (x ∷ xs) ys c e = by_name (nat_eq c x) (among_later xs ys c e)
  where
    by_name : (b : Bool) → is_among (xs ++ ys) c ≡ true → cond b true (is_among (xs ++ ys) c) ≡ true
    by_name true e = refl
    by_name false e = e

-- a part of data is data
module _ (N : Names) where
  part_at_data : (o : Option ℕ) (ts : Sizes) (w : Size) → All_data ts → size_part o ts ≡ Some w → Data w
  unfolding All_data
  part_at_data None ts w d e = absurd (let z : ◌≡◌ {A = Option Size} None (Some w) = e in cc)
  part_at_data (Some i) no_size w d e = absurd (let z : ◌≡◌ {A = Option Size} None (Some w) = e in cc)
  part_at_data (Some zero) (size_and t ts) w d e = subst Data (let z : Some t ≡ Some w = e in let y : t ≡ w = cc in y) d.0
  part_at_data (Some (suc i)) (size_and t ts) w d e = part_at_data (Some i) ts w d.1 e

  part_data : (f : Text) (t w : Size) → Data t → part_of N f t ≡ Some w → Data w
  unfolding part_of Data
  part_data f (Built k ts) w d e = part_at_data (place N.shapes (N.label f) k) ts w d e
  part_data f (Hole v) w d e = absurd (let z : ◌≡◌ {A = Option Size} None (Some w) = e in cc)
  part_data f (Open m v t) w d e = absurd d
  part_data f (Level l t) w d e = absurd (let z : ◌≡◌ {A = Option Size} None (Some w) = e in cc)
  part_data f (Fun k t r) w d e = absurd d

module _ (types : Sub) (home : ℕ → ℕ) (K : Kinds) (places : Kind) where
  abbrev pub At_home : ℕ → ℕ → ℕ → Type 0
  At_home q hi c = (q ≤ home c) × (home c < hi)

  mutual
    pub names_home : (p : FlatPattern) (q : ℕ) → Plain_pattern types home K places p q → (c : ℕ) → is_among (names p) c ≡ true → At_home q (q + pattern_numbers p) c
    names_home (Bound_pattern x) q h c e = by_name (nat_eq c x.0) refl e
      where
        by_name : (b : Bool) → nat_eq c x.0 ≡ b → cond b true false ≡ true → (q ≤ home c) × (home c < q + 1)
        by_name true f z = let y : home c ≡ q = ap home (eqb-true c x.0 f) ∙ h in (omega (arith, y), omega (arith, y))
        by_name false f z = absurd (let y : false ≡ true = z in cc)
    names_home Wild_pattern q h c e = absurd (let y : false ≡ true = e in cc)
    names_home (Tuple_pattern ps) q h c e = let w = all_names_home ps (1 + q) h c e in let x = w.0 in let y = w.1 in (omega (arith, x), omega (arith, y))
    names_home (Record_pattern fs ps) q h c e = let w = all_names_home ps (1 + q) h c e in let x = w.0 in let y = w.1 in (omega (arith, x), omega (arith, y))
    names_home (Typed_pattern p t) q h c e = names_home p q h.1 c e

    pub all_names_home : (ps : Patterns Ref BindId) (q : ℕ) → Plain_parts types home K places ps q → (c : ℕ) → is_among (all_names ps) c ≡ true → At_home q (q + all_pattern_numbers ps) c
    all_names_home no_pattern q h c e = absurd (let y : false ≡ true = e in cc)
    all_names_home (pattern_and p ps) q h c e = by_side (names_home p q h.0 c) (all_names_home ps (q + pattern_numbers p) h.1 c) (among_joined (names p) (all_names ps) c e)
      where
        by_side : (is_among (names p) c ≡ true → At_home q (q + pattern_numbers p) c) → (is_among (all_names ps) c ≡ true → At_home (q + pattern_numbers p) (q + pattern_numbers p + all_pattern_numbers ps) c) → (is_among (names p) c ≡ true) ⊎ (is_among (all_names ps) c ≡ true) → At_home q (q + (pattern_numbers p + all_pattern_numbers ps)) c
        by_side f g (inl e) = let w = f e in let x = w.0 in let y = w.1 in (omega (arith, x), omega (arith, y))
        by_side f g (inr e) = let w = g e in let x = w.0 in let y = w.1 in (omega (arith, x), omega (arith, y))

  -- ---- what a pattern takes

  module _ (N : Names) where
    pub record Pattern_ran (p : FlatPattern) (t : Size) (k after : Taken) : Type 0 where
      pub parts : Has_parts N p t
      pub scope : after.scope ≡ bound_scope N p t k.scope
      pub found : after.found ≡ k.found

    pub name_taken : (at : ℕ) (p : FlatPattern) → Is_bound p → (t : Size) (k after : Taken) → taken N [] at p t k ≡ Ok after → Pattern_ran p t k after
    unfolding taken
    name_taken at (Bound_pattern x) i t k after z = let y = sym (same_ok z) in record { parts = tt; scope = ap (λ (w : Taken). w.scope) y; found = ap (λ (w : Taken). w.found) y }
    name_taken at p i t k after z = absurd i

    record Parts_ran (ps : Patterns Ref BindId) (ts : Sizes) (k after : Taken) : Type 0 where
      parts : All_have_parts N ps ts
      scope : after.scope ≡ parts_bound N ps ts k.scope
      found : after.found ≡ k.found

    record Fields_ran (ls : List Text) (ps : Patterns Ref BindId) (t : Size) (k after : Taken) : Type 0 where
      parts : Fields_have N ls ps t
      scope : after.scope ≡ fields_bound N ls ps t k.scope
      found : after.found ≡ k.found

    no_slot_named : (d : Free) → as_slot [] d ≡ d
    no_slot_named (Const c) = refl
    no_slot_named (Name b) = refl
    no_slot_named (Own n i) = refl
    no_slot_named (Unknown n i) = refl
    no_slot_named (Slot i) = refl

    -- a written type has the sizes that are there
    coerced_same : (at : ℕ) (e : FlatType) → Written_data e → (t : Size) → Data t → Formed t → Each (Scoped Is_settled) 0 t → Each_hole (λ v. Unit {0}) t → (σ after : Found) → meet at data_way at none_opened (renamed (as_slot []) (coerced N e t)) none_opened t σ ≡ Ok after → (coerced N e t ≡ t) × (after ≡ σ)
    unfolding coerced
    coerced_same at e w t d f s v σ after q =
        let k = with_says N types K places Is_settled (λ v. Unit {0}) (λ c. refl) None same_dim (λ i d z. z) e w (written_settled e) t 0 (record { sizes = s; variables = v; formed = f }) in
        same_met at at (with_sizes N None same_dim 0 e t) t σ after (data_written N None same_dim e w t 0 d) d k.0.formed f k.0.sizes s k.1
        (ap (λ x. meet at data_way at none_opened x none_opened t σ) (sym (not_renamed (as_slot []) no_slot_named (with_sizes N None same_dim 0 e t))) ∙ q)

    mutual
      unfolding taken all_taken fields_taken Each Each_all Each_hole Each_holes Data All_data Formed All_formed erased all_erased

      pub taken_is : (at : ℕ) (p : FlatPattern) (q : ℕ) (S : TypeScope) → Plain_pattern types home K places p q → Pattern_typed N places K types p q S → (t : Size) → Data t → Formed t → Each (Scoped Is_settled) 0 t → Each_hole (λ v. Unit {0}) t → erased t ≡ types q → (k after : Taken) → taken N [] at p t k ≡ Ok after → Pattern_ran p t k after
      taken_is at (Bound_pattern x) q S pl ty t d f s v e k after z = let y = sym (same_ok z) in record { parts = tt; scope = ap (λ (w : Taken). w.scope) y; found = ap (λ (w : Taken). w.found) y }
      taken_is at Wild_pattern q S pl ty t d f s v e k after z = let y = sym (same_ok z) in record { parts = tt; scope = ap (λ (w : Taken). w.scope) y; found = ap (λ (w : Taken). w.found) y }
      taken_is at (Tuple_pattern ps) q S pl ty (Built h ts) d f s v e k after z =
          let R = parts_are at ps (1 + q) S pl ty.0 ts d f.1 s v (parts_same (e ∙ ty.1)) k after z in
          record { parts = (head_same (e ∙ ty.1), R.parts); scope = R.scope; found = R.found }
      taken_is at (Tuple_pattern ps) q S pl ty (Hole (Inferred w)) d f s v e k after z = absurd (let y : Var w ≡ Made head.Tuple (pattern_types types ps (1 + q)) = e ∙ ty.1 in cc)
      taken_is at (Tuple_pattern ps) q S pl ty (Hole (Written b l)) d f s v e k after z = absurd (let y : head.Rigid b l ≡ head.Tuple = head_same (e ∙ ty.1) in cc)
      taken_is at (Tuple_pattern ps) q S pl ty (Open n w u) d f s v e k after z = absurd d
      taken_is at (Tuple_pattern ps) q S pl ty (Level x t) d f s v e k after z = absurd (let y : head.Array ≡ head.Tuple = head_same (e ∙ ty.1) in cc)
      taken_is at (Tuple_pattern ps) q S pl ty (Fun n x y) d f s v e k after z = absurd d
      taken_is at (Record_pattern fs ps) q S pl ty t d f s v e k after z = let R = fields_are at fs ps (1 + q) S pl ty.0 (types q) ty.1.named t d f s v e k after z in record { parts = R.parts; scope = R.scope; found = R.found }
      taken_is at (Typed_pattern p w) q S pl ty t d f s v e k after z =
          let x1 = then_ok (meet at data_way at none_opened (renamed (as_slot []) (coerced N w t)) none_opened t k.found) z in
          let x2 = then_ok (has_sizes N true at w (coerced N w t)) x1.rest in
          let m = coerced_same at w pl.0 t d f s v k.found x1.first x1.done in
          let R = taken_is at p q S pl.1 ty.0 t d f s v e (record { scope = k.scope; found = x1.first }) after (ap (λ x. taken N [] at p x (record { scope = k.scope; found = x1.first })) (sym m.0) ∙ x2.rest) in
          record { parts = (m.0, R.parts); scope = R.scope; found = R.found ∙ m.1 }

      parts_are : (at : ℕ) (ps : Patterns Ref BindId) (q : ℕ) (S : TypeScope) → Plain_parts types home K places ps q → Patterns_typed N places K types ps q S → (ts : Sizes) → All_data ts → All_formed ts → Each_all (Scoped Is_settled) 0 ts → Each_holes (λ v. Unit {0}) ts → all_erased ts ≡ pattern_types types ps q → (k after : Taken) → all_taken N [] at ps ts k ≡ Ok after → Parts_ran ps ts k after
      parts_are at no_pattern q S pl ty no_size d f s v e k after z = let y = sym (same_ok z) in record { parts = tt; scope = ap (λ (w : Taken). w.scope) y; found = ap (λ (w : Taken). w.found) y }
      parts_are at no_pattern q S pl ty (size_and t ts) d f s v e k after z = absurd (let y : more (erased t) (all_erased ts) ≡ none = e in cc)
      parts_are at (pattern_and p ps) q S pl ty no_size d f s v e k after z = absurd (let y : none ≡ more (types q) (pattern_types types ps (q + pattern_numbers p)) = e in cc)
      parts_are at (pattern_and p ps) q S pl ty (size_and t ts) d f s v e k after z =
          let y : more (erased t) (all_erased ts) ≡ more (types q) (pattern_types types ps (q + pattern_numbers p)) = e in
          let x1 = then_ok (taken N [] at p t k) z in
          let A = taken_is at p q S pl.0 ty.0 t d.0 f.0 s.0 v.0 (let w : erased t ≡ types q = cc in w) k x1.first x1.done in
          let B = parts_are at ps (q + pattern_numbers p) S pl.1 ty.1 ts d.1 f.1 s.1 v.1 (let w : all_erased ts ≡ pattern_types types ps (q + pattern_numbers p) = cc in w) x1.first after x1.rest in
          record { parts = (A.parts, B.parts); scope = B.scope ∙ ap (parts_bound N ps ts) A.scope; found = B.found ∙ A.found }

      fields_are : (at : ℕ) (ls : List Text) (ps : Patterns Ref BindId) (q : ℕ) (S : TypeScope) → Plain_parts types home K places ps q → Patterns_typed N places K types ps q S → (T : Ty) → Parts_named N ls T (pattern_types types ps q) → (t : Size) → Data t → Formed t → Each (Scoped Is_settled) 0 t → Each_hole (λ v. Unit {0}) t → erased t ≡ T
          → (k after : Taken) → fields_taken N [] at ls ps t k ≡ Ok after → Fields_ran ls ps t k after
      fields_are at [] no_pattern q S pl ty T h t d f s v e k after z = let y = sym (same_ok z) in record { parts = tt; scope = ap (λ (w : Taken). w.scope) y; found = ap (λ (w : Taken). w.found) y }
      fields_are at [] (pattern_and p ps) q S pl ty T h t d f s v e k after z = absurd h
      fields_are at (l ∷ ls) no_pattern q S pl ty T h t d f s v e k after z = absurd h
      fields_are at (l ∷ ls) (pattern_and p ps) q S pl ty T h t d f s v e k after z =
          let P = part_of_says N Is_settled (λ v. Unit {0}) l t T (types q) (record { sizes = s; variables = v; formed = f }) e h.0 in
          let x1 = then_ok (some_part (part_of N l t) (λ u. taken N [] at p u k) k) z in
          let A = taken_is at p q S pl.0 ty.0 P.part (part_data N l t P.part d P.is) P.says.formed P.says.sizes P.says.variables P.typed k x1.first (ap (λ o. some_part o (λ u. taken N [] at p u k) k) (sym P.is) ∙ x1.done) in
          let B = fields_are at ls ps (q + pattern_numbers p) S pl.1 ty.1 T h.1 t d f s v e x1.first after x1.rest in
          record { parts = (subst (Field_has N p) (sym P.is) A.parts, B.parts); scope = B.scope ∙ ap (fields_bound N ls ps t) (A.scope ∙ ap (λ o. field_bound N p o k.scope) (sym P.is)); found = B.found ∙ A.found }

    -- ---- what is noted of a pattern

    pub record Noted_pattern (p : FlatPattern) (q : ℕ) (t : Size) (st after : State) : Type 0 where
      pub kept : (n : ℕ) → (n < q) ⊎ (q + pattern_numbers p ≤ n) → after.nodes n ≡ st.nodes n
      pub nodes : Nodes N p q t after.nodes
      pub dropped : after.dropped ≡ st.dropped

    record Noted_parts (ps : Patterns Ref BindId) (q : ℕ) (ts : Sizes) (st after : State) : Type 0 where
      kept : (n : ℕ) → (n < q) ⊎ (q + all_pattern_numbers ps ≤ n) → after.nodes n ≡ st.nodes n
      nodes : All_nodes N ps q ts after.nodes
      dropped : after.dropped ≡ st.dropped

    record Noted_fields (ls : List Text) (ps : Patterns Ref BindId) (q : ℕ) (t : Size) (st after : State) : Type 0 where
      kept : (n : ℕ) → (n < q) ⊎ (q + all_pattern_numbers ps ≤ n) → after.nodes n ≡ st.nodes n
      nodes : Fields_nodes N ls ps q t after.nodes
      dropped : after.dropped ≡ st.dropped

    record Noted_field (p : FlatPattern) (q : ℕ) (o : Option Size) (st after : State) : Type 0 where
      kept : (n : ℕ) → (n < q) ⊎ (q + pattern_numbers p ≤ n) → after.nodes n ≡ st.nodes n
      nodes : Field_nodes N p q o after.nodes
      dropped : after.dropped ≡ st.dropped

    field_noted_is : (p : FlatPattern) (q : ℕ) → ((u : Size) → Has_parts N p u → (st : State) (w : Done (Unit {0})) → pattern_noted N types p q u st ≡ Ok w → Noted_pattern p q u st w.state) → (o : Option Size) → Field_has N p o → (st : State) (w : Done (Unit {0})) → field_noted o (pattern_noted N types p q) st ≡ Ok w → Noted_field p q o st w.state
    field_noted_is p q go (Some t) h st w z = let R = go t h st w z in record { kept = R.kept; nodes = R.nodes; dropped = R.dropped }
    field_noted_is p q go None h st w z = absurd h

    one_noted : (q : ℕ) (t : Size) (st after : State) → after ≡ (noted q t st).state → ((n : ℕ) → (n < q) ⊎ (q + 1 ≤ n) → after.nodes n ≡ st.nodes n) × (after.nodes q ≡ t) × (after.dropped ≡ st.dropped)
    one_noted q t st after e = ((λ n o. ap (λ (x : State). x.nodes n) e ∙ at_another q n t st.nodes (λ z. apart n o z)), ap (λ (x : State). x.nodes q) e ∙ at_itself q t st.nodes, ap (λ (x : State). x.dropped) e)
      where
        apart : (n : ℕ) → (n < q) ⊎ (q + 1 ≤ n) → q ≡ n → ⊥
        apart n (inl x) z = omega (arith, x, z)
        apart n (inr x) z = omega (arith, x, z)

    mutual
      unfolding pattern_noted patterns_noted fields_noted

      pub noted_is : (p : FlatPattern) (q : ℕ) → Plain_pattern types home K places p q → (t : Size) → Has_parts N p t → (st : State) (w : Done (Unit {0})) → pattern_noted N types p q t st ≡ Ok w → Noted_pattern p q t st w.state
      noted_is (Bound_pattern x) q pl t h st w z = let o = one_noted q t st w.state (ap (λ (d : Done (Unit {0})). d.state) (sym (same_ok z))) in record { kept = o.0; nodes = o.1; dropped = o.2 }
      noted_is Wild_pattern q pl t h st w z = let o = one_noted q t st w.state (ap (λ (d : Done (Unit {0})). d.state) (sym (same_ok z))) in record { kept = o.0; nodes = o.1; dropped = o.2 }
      noted_is (Tuple_pattern ps) q pl (Built g ts) h st w z =
          let R = parts_noted ps (1 + q) pl ts h.1 (noted q (Built g ts) st).state w z in
          record { kept = λ n o. R.kept n (later n o) ∙ at_another q n (Built g ts) st.nodes (λ y. apart n o y); nodes = (R.kept q (inl (omega arith)) ∙ at_itself q (Built g ts) st.nodes, R.nodes); dropped = R.dropped }
        where
          later : (n : ℕ) → (n < q) ⊎ (q + (1 + all_pattern_numbers ps) ≤ n) → (n < 1 + q) ⊎ (1 + q + all_pattern_numbers ps ≤ n)
          later n (inl x) = inl (omega (arith, x))
          later n (inr x) = inr (omega (arith, x))

          apart : (n : ℕ) → (n < q) ⊎ (q + (1 + all_pattern_numbers ps) ≤ n) → q ≡ n → ⊥
          apart n (inl x) y = omega (arith, x, y)
          apart n (inr x) y = omega (arith, x, y)
      noted_is (Tuple_pattern ps) q pl (Hole v) h st w z = absurd h
      noted_is (Tuple_pattern ps) q pl (Open n v u) h st w z = absurd h
      noted_is (Tuple_pattern ps) q pl (Level d t) h st w z = absurd h
      noted_is (Tuple_pattern ps) q pl (Fun k p r) h st w z = absurd h
      noted_is (Record_pattern fs ps) q pl t h st w z =
          let R = fields_noted_is fs ps (1 + q) pl t h (noted q t st).state w z in
          record { kept = λ n o. R.kept n (later n o) ∙ at_another q n t st.nodes (λ y. apart n o y); nodes = (R.kept q (inl (omega arith)) ∙ at_itself q t st.nodes, R.nodes); dropped = R.dropped }
        where
          later : (n : ℕ) → (n < q) ⊎ (q + (1 + all_pattern_numbers ps) ≤ n) → (n < 1 + q) ⊎ (1 + q + all_pattern_numbers ps ≤ n)
          later n (inl x) = inl (omega (arith, x))
          later n (inr x) = inr (omega (arith, x))

          apart : (n : ℕ) → (n < q) ⊎ (q + (1 + all_pattern_numbers ps) ≤ n) → q ≡ n → ⊥
          apart n (inl x) y = omega (arith, x, y)
          apart n (inr x) y = omega (arith, x, y)
      noted_is (Typed_pattern p e) q pl t h st w z = let R = noted_is p q pl.1 t h.1 st w (ap (λ x. pattern_noted N types p q x st) (sym h.0) ∙ z) in record { kept = R.kept; nodes = R.nodes; dropped = R.dropped }

      parts_noted : (ps : Patterns Ref BindId) (q : ℕ) → Plain_parts types home K places ps q → (ts : Sizes) → All_have_parts N ps ts → (st : State) (w : Done (Unit {0})) → patterns_noted N types ps q ts st ≡ Ok w → Noted_parts ps q ts st w.state
      parts_noted no_pattern q pl no_size h st w z = let y = ap (λ (d : Done (Unit {0})). d.state) (sym (same_ok z)) in record { kept = λ n o. ap (λ (x : State). x.nodes n) y; nodes = tt; dropped = ap (λ (x : State). x.dropped) y }
      parts_noted no_pattern q pl (size_and t ts) h st w z = absurd h
      parts_noted (pattern_and p ps) q pl no_size h st w z = absurd h
      parts_noted (pattern_and p ps) q pl (size_and t ts) h st w z =
          let x1 = then_ok (pattern_noted N types p q t st) z in
          let A = noted_is p q pl.0 t h.0 st x1.first x1.done in
          let B = parts_noted ps (q + pattern_numbers p) pl.1 ts h.1 x1.first.state w x1.rest in
          let l = pattern_some p in record {
            kept = λ n o. B.kept n (later n o) ∙ A.kept n (sooner n o);
            nodes = (nodes_as N p q t x1.first.state.nodes w.state.nodes (λ n x y. B.kept n (inl y)) A.nodes, B.nodes);
            dropped = B.dropped ∙ A.dropped;
          }
        where
          later : (n : ℕ) → (n < q) ⊎ (q + (pattern_numbers p + all_pattern_numbers ps) ≤ n) → (n < q + pattern_numbers p) ⊎ (q + pattern_numbers p + all_pattern_numbers ps ≤ n)
          later n (inl x) = inl (omega (arith, x))
          later n (inr x) = inr (omega (arith, x))

          sooner : (n : ℕ) → (n < q) ⊎ (q + (pattern_numbers p + all_pattern_numbers ps) ≤ n) → (n < q) ⊎ (q + pattern_numbers p ≤ n)
          sooner n (inl x) = inl x
          sooner n (inr x) = inr (omega (arith, x))

      fields_noted_is : (ls : List Text) (ps : Patterns Ref BindId) (q : ℕ) → Plain_parts types home K places ps q → (t : Size) → Fields_have N ls ps t → (st : State) (w : Done (Unit {0})) → fields_noted N types ls ps q t st ≡ Ok w → Noted_fields ls ps q t st w.state
      fields_noted_is [] no_pattern q pl t h st w z = let y = ap (λ (d : Done (Unit {0})). d.state) (sym (same_ok z)) in record { kept = λ n o. ap (λ (x : State). x.nodes n) y; nodes = tt; dropped = ap (λ (x : State). x.dropped) y }
      fields_noted_is [] (pattern_and p ps) q pl t h st w z = absurd h
      fields_noted_is (l ∷ ls) no_pattern q pl t h st w z = absurd h
      fields_noted_is (l ∷ ls) (pattern_and p ps) q pl t h st w z =
          let x1 = then_ok (field_noted (part_of N l t) (pattern_noted N types p q) st) z in
          let A = field_noted_is p q (λ u k v y e. noted_is p q pl.0 u k v y e) (part_of N l t) h.0 st x1.first x1.done in
          let B = fields_noted_is ls ps (q + pattern_numbers p) pl.1 t h.1 x1.first.state w x1.rest in record {
            kept = λ n o. B.kept n (later n o) ∙ A.kept n (sooner n o);
            nodes = (field_nodes_as N p q (part_of N l t) x1.first.state.nodes w.state.nodes (λ n x y. B.kept n (inl y)) A.nodes, B.nodes);
            dropped = B.dropped ∙ A.dropped;
          }
        where
          later : (n : ℕ) → (n < q) ⊎ (q + (pattern_numbers p + all_pattern_numbers ps) ≤ n) → (n < q + pattern_numbers p) ⊎ (q + pattern_numbers p + all_pattern_numbers ps ≤ n)
          later n (inl x) = inl (omega (arith, x))
          later n (inr x) = inr (omega (arith, x))

          sooner : (n : ℕ) → (n < q) ⊎ (q + (pattern_numbers p + all_pattern_numbers ps) ≤ n) → (n < q) ⊎ (q + pattern_numbers p ≤ n)
          sooner n (inl x) = inl x
          sooner n (inr x) = inr (omega (arith, x))

    -- ---- and the rule of a pattern

    module _ (s : ℕ → Size) (what : Free → Free) (same : (d : Free) → what d ≡ d) where
      takes_field : (o : Option Size) (P Q R : Size → Type 0) → ((u : Size) → P u → Q u → R u) → Of_part o P → If_part o Q → part_fits N types s home o R
      takes_field (Some t) P Q R f h k = f t h k
      takes_field None P Q R f h k = absurd h

      mutual
        unfolding Pattern_takes All_take Fields_take

        pub takes_it : (p : FlatPattern) (q : ℕ) → Plain_pattern types home K places p q → (t : Size) → Has_parts N p t → Nodes N p q t s → Pattern_takes N types s home what p q t
        takes_it (Bound_pattern x) q pl t h n = not_renamed what same (s q) ∙ n
        takes_it Wild_pattern q pl t h n = not_renamed what same (s q) ∙ n
        takes_it (Tuple_pattern ps) q pl (Built g ts) h n = (not_renamed what same (s q) ∙ n.0, ts, ap (λ w. Built w ts) h.0, take_all ps (1 + q) pl ts h.1 n.1)
        takes_it (Tuple_pattern ps) q pl (Hole v) h n = absurd h
        takes_it (Tuple_pattern ps) q pl (Open m v u) h n = absurd h
        takes_it (Tuple_pattern ps) q pl (Level d t) h n = absurd h
        takes_it (Tuple_pattern ps) q pl (Fun k p r) h n = absurd h
        takes_it (Record_pattern fs ps) q pl t h n = (not_renamed what same (s q) ∙ n.0, take_fields fs ps (1 + q) pl t h n.1)
        takes_it (Typed_pattern p e) q pl t h n = takes_it p q pl.1 t h.1 n

        take_all : (ps : Patterns Ref BindId) (q : ℕ) → Plain_parts types home K places ps q → (ts : Sizes) → All_have_parts N ps ts → All_nodes N ps q ts s → All_take N types s home what ps q ts
        take_all no_pattern q pl no_size h n = tt
        take_all no_pattern q pl (size_and t ts) h n = absurd h
        take_all (pattern_and p ps) q pl no_size h n = absurd h
        take_all (pattern_and p ps) q pl (size_and t ts) h n = (takes_it p q pl.0 t h.0 n.0, take_all ps (q + pattern_numbers p) pl.1 ts h.1 n.1)

        take_fields : (ls : List Text) (ps : Patterns Ref BindId) (q : ℕ) → Plain_parts types home K places ps q → (t : Size) → Fields_have N ls ps t → Fields_nodes N ls ps q t s → Fields_take N types s home what ls ps q t
        take_fields [] no_pattern q pl t h n = tt
        take_fields [] (pattern_and p ps) q pl t h n = absurd h
        take_fields (l ∷ ls) no_pattern q pl t h n = absurd h
        take_fields (l ∷ ls) (pattern_and p ps) q pl t h n = (takes_field (part_of N l t) (λ u. Has_parts N p u) (λ u. Nodes N p q u s) (λ u. Pattern_takes N types s home what p q u) (λ u k m. takes_it p q pl.0 u k m) h.0 n.0, take_fields ls ps (q + pattern_numbers p) pl.1 t h.1 n.1)
