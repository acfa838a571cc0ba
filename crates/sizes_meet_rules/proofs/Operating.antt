-- What the sized type of an operation's result says: what those of its parts say, and what its node meets.
use Rattle.std.proofs.Common.{◌≡◌, ℕ, zero, suc, ◌+◌, List, [], ◌∷◌, Bool, true, false, cond, nat_eq, ◌⊎◌, length, map, Option, Some, None, Ok, Err, refl, sym, ap, ◌∙◌, subst, arith, inl, inr, eqb-true, eq-eqb}
use Rattle.fut_ast.specs.Sorts.{Text}
use Rattle.fut_ast.specs.declared.node.End.{End}
use Rattle.fut_ast.specs.declared.node.End.TheVariants as end
use Rattle.fut_scalar.specs.declared.place.BindId.{BindId}
use Rattle.fut_flat.specs.declared.act.Part.{Part}
use Rattle.fut_flat.specs.declared.act.Part.TheVariants as part
use Rattle.fut_flat.specs.declared.prim.Ref.{Ref}
use Rattle.fut_flat.specs.declared.prim.Ref.TheVariants as ref
use Rattle.fut_flat.specs.Numbers.{numbers}
use Rattle.fut_flat.specs.Terms.{Size_term, Size_use, Size_const, Size_blank, Type_use, Array_type, Unique_type, Arrow_type, Tuple_type, Record_type, Type_terms, no_type, type_and, Operation, Integer, Truth, Tuple_of, Record_of, Array_of, Binary, Negate, Complement, Index, Project, Update, Replace, Ascribe, Coerce, Declared, Assert, Range, Use, Strict, Terms, no_term, term_and}
use Rattle.fut_scalar.specs.declared.scalar.ScalarType.TheVariants as scalar
use Rattle.fut_scalar.specs.declared.scalar.IntType.TheVariants as int
use Rattle.fut_types.specs.declared.Head.TheVariants as head
use Rattle.fut_types.specs.declared.Kind.{Kind}
use Rattle.fut_types.specs.Types.{Ty, Var, Made, Tys, none, more, Sub, Kinds}
use Rattle.fut_typing.specs.Names.{Names, AreNames, IsRecord, Parts_named}
use Rattle.fut_typing.specs.Primitives.{array_ty, i64_ty}
use Rattle.fut_flat.specs.Erased.{FlatTerm, FlatType}
use Rattle.fut_typing.specs.Names.{count}
use Rattle.fut_typing.specs.Rules.{Rule, Indexed, bounds, All_are}
use Rattle.fut_typing.specs.Typing.{term_types, operand}
use Rattle.sized_types.specs.Sizes.{Free, Const, Name, Unknown, Dim, At, Bound, levels, Variable, Inferred, Written, Size, Hole, Open, Level, Built, Fun, Sizes, no_size, size_and, erased, all_erased}
use Rattle.fut_sizes.specs.Agreeing.{fits_i64, Answer, Irregular, then_do, type_levels, of_type, of_types, no_size_of}
use Rattle.fut_types.specs.Shapes.{place, place_from, part_at, part_named, HasPart}
use Rattle.fut_typing.proofs.Members.{In as Is_in}
use Rattle.sizes_meet_rules.proofs.Covering.{Apart, numbers_apart, here_place, there_place, placed_label, all_written}
use Rattle.fut_sizes.specs.Operations.{operation, labelled, in_order, record_of, plain, part_or, empty_of, range_of, range_size, both, is_i64, element_ty, elements_agree, updated, indexed, many, value_of, slice_size, is_literal}
use Rattle.fut_sizes.specs.Rules.{Each_hole, Each_holes}
use Rattle.fut_sizes.specs.Suiting.{Each, Each_all, Scoped}
use Rattle.fut_sizes.specs.WrittenSizes.{part as size_part, with_part, part_of, changed_part, has_sizes, ascribed, written_dim, dim_or, same_dim, with_sizes, all_with_sizes, fields_with_sizes, levels_there, coerced, coercion, declared}
use Rattle.sizes_meet_rules.specs.Known.{is_i64_size, head_i64, Formed, All_formed, Is_made, Says}
use Rattle.sizes_meet_rules.specs.Plain.{Formed_type, Written_data, All_written_data, Is_scalar, Plain_operation}
use Rattle.sizes_meet_rules.proofs.Owning.{Owned, of_type_owned}
use Rattle.sizes_meet_rules.proofs.Replacing.{hole_as}
use Rattle.sizes_meet_rules.proofs.Meeting.{then_ok, same_ok, refused_ok}

-- the written sizes are these
abbrev pub Size_written : (Free → Type 0) → Size_term Ref BindId → Type 0
Size_written In (Size_use (ref.Bound b)) = In (Name b.0)
Size_written In s = Unit {0}

abbrev mutual
  pub Sizes_written : (Free → Type 0) → FlatType → Type 0
  Sizes_written In (Array_type s e) = Size_written In s × Sizes_written In e
  Sizes_written In (Unique_type e) = Sizes_written In e
  Sizes_written In (Tuple_type es) = All_sizes_written In es
  Sizes_written In (Record_type fs es) = All_sizes_written In es
  Sizes_written In e = Unit {0}

  pub All_sizes_written : (Free → Type 0) → Type_terms Ref BindId → Type 0
  All_sizes_written In no_type = Unit {0}
  All_sizes_written In (type_and e es) = Sizes_written In e × All_sizes_written In es

-- what sized types in a row say
pub record All_say (In : Free → Type 0) (Vars : Variable → Type 0) (ts : Sizes) : Type 0 where
  pub sizes : Each_all (Scoped In) 0 ts
  pub variables : Each_holes Vars ts
  pub formed : All_formed ts

pub first_says : (In : Free → Type 0) (Vars : Variable → Type 0) (t : Size) (ts : Sizes) → All_say In Vars (size_and t ts) → Says In Vars t
unfolding Each_all Each_holes All_formed
first_says In Vars t ts h = record { sizes = h.sizes.0; variables = h.variables.0; formed = h.formed.0 }

pub rest_say : (In : Free → Type 0) (Vars : Variable → Type 0) (t : Size) (ts : Sizes) → All_say In Vars (size_and t ts) → All_say In Vars ts
unfolding Each_all Each_holes All_formed
rest_say In Vars t ts h = record { sizes = h.sizes.1; variables = h.variables.1; formed = h.formed.1 }

pub none_say : (In : Free → Type 0) (Vars : Variable → Type 0) → All_say In Vars no_size
unfolding Each_all Each_holes All_formed
none_say In Vars = record { sizes = tt; variables = tt; formed = tt }

pub more_say : (In : Free → Type 0) (Vars : Variable → Type 0) (t : Size) (ts : Sizes) → Says In Vars t → All_say In Vars ts → All_say In Vars (size_and t ts)
unfolding Each_all Each_holes All_formed
more_say In Vars t ts h k = record { sizes = (h.sizes, k.sizes); variables = (h.variables, k.variables); formed = (h.formed, k.formed) }

pub first_ty : {t u : Ty} {ts us : Tys} → more t ts ≡ more u us → t ≡ u
first_ty e = cc

pub rest_ty : {t u : Ty} {ts us : Tys} → more t ts ≡ more u us → ts ≡ us
rest_ty e = cc

-- parts of tuples and records say what these say
module _ (N : Names) (In : Free → Type 0) (Vars : Variable → Type 0) where
  part_at_says : (o : Option ℕ) (ts : Sizes) (y : Ty) → All_say In Vars ts → part_at o (all_erased ts) ≡ Some y → (w : Size) × (size_part o ts ≡ Some w) × Says In Vars w × (erased w ≡ y)
  unfolding part_at all_erased
  part_at_says None ts y h e = absurd (let z : None ≡ Some y = e in cc)
  part_at_says (Some i) no_size y h e = absurd (let z : None ≡ Some y = e in cc)
  part_at_says (Some zero) (size_and t ts) y h e = (t, refl, first_says In Vars t ts h, let z : Some (erased t) ≡ Some y = e in cc)
  part_at_says (Some (suc i)) (size_and t ts) y h e = part_at_says (Some i) ts y (rest_say In Vars t ts h) e

  pub record Part_there (f : Text) (u : Size) (y : Ty) : Type 0 where
    pub part : Size
    pub is : part_of N f u ≡ Some part
    pub says : Says In Vars part
    pub typed : erased part ≡ y

  no_part : {X : Type 0} (y : Ty) → None ≡ Some y → X
  no_part y e = absurd (let z : None ≡ Some y = e in cc)

  pub part_of_says : (f : Text) (u : Size) (x y : Ty) → Says In Vars u → erased u ≡ x → HasPart N.shapes (N.label f) x y → Part_there f u y
  unfolding part_of part_named part_at place erased Each Each_hole Formed
  part_of_says f (Built k ts) x y h e p =
      let w = part_at_says (place N.shapes (N.label f) k) ts y (record { sizes = h.sizes; variables = h.variables; formed = h.formed.1 }) (subst (λ z. part_named N.shapes (N.label f) z ≡ Some y) (sym e) p) in
      record { part = w.0; is = w.1; says = w.2; typed = w.3 }
  part_of_says f (Hole (Inferred v)) x y h e p = no_part y (subst (λ z. part_named N.shapes (N.label f) z ≡ Some y) (sym e) p)
  part_of_says f (Hole (Written b k)) x y h e p = no_part y (subst (λ z. part_named N.shapes (N.label f) z ≡ Some y) (sym e) p)
  part_of_says f (Open n v t) x y h e p = absurd h.formed
  part_of_says f (Level d t) x y h e p = no_part y (subst (λ z. part_named N.shapes (N.label f) z ≡ Some y) (sym e) p)
  part_of_says f (Fun k t r) x y h e p = no_part y (subst (λ z. part_named N.shapes (N.label f) z ≡ Some y) (sym e) p)

module _ (N : Names) (types : Sub) (K : Kinds) (places : Kind) (In : Free → Type 0) (Vars : Variable → Type 0) (constants : (c : ℕ) → In (Const c)) where
  -- a part that is the name of a number may be a size
  abbrev pub Size_named : FlatTerm → ℕ → Type 0
  Size_named (Use (ref.Bound b) at k) n = types n ≡ i64_ty → In (Name b.0)
  Size_named e n = Unit {0}

  abbrev pub Sizes_named : Terms Ref BindId → ℕ → Type 0
  Sizes_named no_term n = Unit {0}
  Sizes_named (term_and e es) n = Size_named e n × Sizes_named es (n + numbers e)

  pub record Gives (lo : ℕ) (t : Size) : Type 0 where
    pub says : Says In Vars t
    pub typed : erased t ≡ types lo

  plain_gives : (lo : ℕ) (t : Size) → Is_scalar (types lo) → ◌≡◌ {A = Answer Size} (Ok (plain N types lo)) (Ok t) → Gives lo t
  unfolding of_type of_types Each Each_all Each_hole Each_holes Formed All_formed erased all_erased
  plain_gives lo t (c, e) q = subst (λ u. Gives lo u) (sym now ∙ same_ok q) here
    where
      now : plain N types lo ≡ Built (head.Scalar c) no_size
      now = ap (of_type (no_size_of lo) 0) e

      here : Gives lo (Built (head.Scalar c) no_size)
      here = record { says = record { sizes = tt; variables = tt; formed = (tt, tt) }; typed = sym e }

  -- the written type of a coercion or a declared result names these sizes alone
  abbrev pub Written_named : Operation Ref BindId → Type 0
  Written_named (Coerce e) = Sizes_written In e
  Written_named (Declared e) = Sizes_written In e
  Written_named o = Unit {0}

  abbrev Given : Operation Ref BindId → Type 0
  Given o = (lo : ℕ) → ((i : ℕ) → In (Unknown lo i)) → (at : ℕ) (ts : Terms Ref BindId) (us : Sizes) (t : Size) → Plain_operation N o (types lo) ts → Rule N places K o (types lo) (types (operand o lo)) (term_types types ts at) → All_say In Vars us → all_erased us ≡ term_types types ts at → Written_named o → Sizes_named ts at → operation N types o lo at ts us ≡ Ok t → Gives lo t

  tuple_gives : Given Tuple_of
  unfolding operation Each Each_hole Formed erased
  tuple_gives lo met at ts us t p r h e v w q = subst (λ u. Gives lo u) (same_ok q) (record { says = record { sizes = sizes; variables = variables; formed = formed }; typed = typed })
    where
      sizes : Each (Scoped In) 0 (Built head.Tuple us)
      sizes = h.sizes

      variables : Each_hole Vars (Built head.Tuple us)
      variables = h.variables

      formed : Formed (Built head.Tuple us)
      formed = (tt, h.formed)

      typed : erased (Built head.Tuple us) ≡ types lo
      typed = ap (Made head.Tuple) e ∙ sym r

  level_gives : (lo : ℕ) (d : Dim) (t : Size) → Scoped In 0 d → Says In Vars t → array_ty (erased t) ≡ types lo → Gives lo (Level d t)
  unfolding Each Each_hole Formed erased
  level_gives lo d t i h e = record { says = record { sizes = sizes; variables = variables; formed = formed }; typed = typed }
    where
      sizes : Each (Scoped In) 0 (Level d t)
      sizes = (i, h.sizes)

      variables : Each_hole Vars (Level d t)
      variables = h.variables

      formed : Formed (Level d t)
      formed = h.formed

      typed : erased (Level d t) ≡ types lo
      typed = e

  -- of a type of elements by itself, whose sizes the node meets
  elements_give : (lo : ℕ) (d : Dim) (element : Ty) → ((i : ℕ) → In (Unknown lo i)) → Scoped In 0 d → Formed_type element → types lo ≡ array_ty element → Gives lo (Level d (of_type (no_size_of lo) 0 element))
  elements_give lo d element met i f e = level_gives lo d (of_type (no_size_of lo) 0 element) i (record { sizes = o.sizes; variables = hole_as (λ v. ⊥) Vars (λ v z. absurd z) (of_type (no_size_of lo) 0 element) o.variables; formed = o.formed }) (ap array_ty o.typed ∙ sym e)
    where
      o : Owned In 0 (of_type (no_size_of lo) 0 element) element
      o = of_type_owned In (no_size_of lo) element 0 0 f met

  formed_element : (t element : Ty) → t ≡ array_ty element → Formed_type t → Formed_type element
  unfolding Formed_type
  formed_element t element e f = subst Formed_type e f

  empty_gives : (lo : ℕ) (t : Size) (u element : Ty) → ((i : ℕ) → In (Unknown lo i)) → Formed_type u → u ≡ array_ty element → types lo ≡ u → empty_of lo u ≡ Ok t → Gives lo t
  empty_gives lo t u element met f e z q = by_levels (nat_eq (type_levels element) 0) (ap (empty_of lo) (sym e) ∙ q)
    where
      by_levels : (b : Bool) → cond b (Ok (Level (At (Const 0)) (of_type (no_size_of lo) 0 element))) (Err (Irregular lo)) ≡ Ok t → Gives lo t
      by_levels true q = subst (λ w. Gives lo w) (same_ok q) (elements_give lo (At (Const 0)) element met (constants 0) (formed_element u element e f) (z ∙ e))
      by_levels false q = refused_ok q

  array_gives : Given Array_of
  unfolding operation all_erased
  array_gives lo met at no_term no_size t p (element, a, r) h e v w q = empty_gives lo t (types lo) element met p a.0 refl q
  array_gives lo met at no_term (size_and u us) t p r h e v w q = absurd (let z : more (erased u) (all_erased us) ≡ none = e in cc)
  array_gives lo met at (term_and x xs) no_size t p r h e v w q = absurd (let z : none ≡ more (types at) (term_types types xs (at + numbers x)) = e in cc)
  array_gives lo met at (term_and x xs) (size_and u us) t p (element, a, r) h e v w q = let step : then_do (elements_agree u xs (at + numbers x) us) (λ z. Ok (Level (At (Const (suc (many us)))) u)) ≡ Ok t = q in let ran = then_ok (elements_agree u xs (at + numbers x) us) step in subst (λ u. Gives lo u) (same_ok ran.rest)
      (level_gives lo (At (Const (suc (many us)))) u (constants (suc (many us))) (first_says In Vars u us h) (ap array_ty (first_ty e ∙ r.0) ∙ sym a.0))

  update_gives : Given Update
  unfolding operation all_erased
  update_gives lo met at no_term us t p r h e v w q = absurd r
  update_gives lo met at (term_and x xs) no_size t p r h e v w q = absurd (let z : none ≡ more (types at) (term_types types xs (at + numbers x)) = e in cc)
  update_gives lo met at (term_and x xs) (size_and u us) t p r h e v w q = let step : then_do (updated xs (at + numbers x) us u) (λ z. Ok u) ≡ Ok t = q in let ran = then_ok (updated xs (at + numbers x) us u) step in subst (λ u. Gives lo u) (same_ok ran.rest) (record { says = first_says In Vars u us h; typed = first_ty e ∙ sym r.0 })

  -- `e : t` is e
  ascribe_gives : (e : FlatType) → Given (Ascribe e)
  unfolding operation ascribed all_erased
  ascribe_gives x lo met at no_term us t p r h e v w q = absurd r
  ascribe_gives x lo met at (term_and y no_term) no_size t p r h e v w q = absurd (let z : none ≡ more (types at) none = e in cc)
  ascribe_gives x lo met at (term_and y no_term) (size_and u (size_and u2 us)) t p r h e v w q = absurd (let z : more (erased u2) (all_erased us) ≡ none = rest_ty e in cc)
  ascribe_gives x lo met at (term_and y (term_and z ys)) us t p r h e v w q = absurd r
  ascribe_gives x lo met at (term_and y no_term) (size_and u no_size) t p r h e v w q = let step : then_do (has_sizes N true at x u) (λ z. Ok u) ≡ Ok t = q in let ran = then_ok (has_sizes N true at x u) step in subst (λ w. Gives lo w) (same_ok ran.rest) (record { says = first_says In Vars u no_size h; typed = first_ty e ∙ sym r })

  -- the size that a part says
  value_in : (n i : ℕ) (e : FlatTerm) (at : ℕ) → ((i : ℕ) → In (Unknown n i)) → Size_named e at → types at ≡ i64_ty → In (value_of n i e)
  value_in n i (Use (ref.Bound b) p k) at met w z = w z
  value_in n i (Use (ref.Prim r) p k) at met w z = met i
  value_in n i (Use (ref.Scalar r) p k) at met w z = met i
  value_in n i (Strict (Integer c t) mark no_term) at met w z = by_fit (fits_i64 c)
    where
      by_fit : (b : Bool) → In (cond b (Const c) (Unknown n i))
      by_fit true = constants c
      by_fit false = met i
  value_in n i e at met w z = met i

  -- ---- written types

  written_in : (s : Size_term Ref BindId) (d : Dim) → Size_written In s → Scoped In 0 d → Scoped In 0 (dim_or (written_dim s) d)
  written_in (Size_use (ref.Bound b)) d w h = w
  written_in (Size_use (ref.Prim r)) d w h = h
  written_in (Size_use (ref.Scalar r)) d w h = h
  written_in (Size_const c) d w h = constants c
  written_in (Size_blank b) d w h = h

  -- a part that is changed and keeps its type
  module _ (change : Size → Size) (keeps : (u : Size) → Says In Vars u → Says In Vars (change u) × (erased (change u) ≡ erased u)) where
    one_changed : (o : Option ℕ) (ts : Sizes) → All_say In Vars ts → All_say In Vars (with_part o change ts) × (all_erased (with_part o change ts) ≡ all_erased ts)
    unfolding all_erased
    one_changed None ts h = (h, refl)
    one_changed (Some i) no_size h = (h, refl)
    one_changed (Some zero) (size_and t ts) h = let k = keeps t (first_says In Vars t ts h) in (more_say In Vars (change t) ts k.0 (rest_say In Vars t ts h), ap (λ z. more z (all_erased ts)) k.1)
    one_changed (Some (suc i)) (size_and t ts) h = let k = one_changed (Some i) ts (rest_say In Vars t ts h) in (more_say In Vars t (with_part (Some i) change ts) (first_says In Vars t ts h) k.0, ap (more (erased t)) k.1)

    part_changed : (f : Text) (t : Size) → Says In Vars t → Says In Vars (changed_part N f change t) × (erased (changed_part N f change t) ≡ erased t)
    unfolding changed_part erased Each Each_hole Formed
    part_changed f (Built k ts) h =
        let w = one_changed (place N.shapes (N.label f) k) ts (record { sizes = h.sizes; variables = h.variables; formed = h.formed.1 }) in
        (record { sizes = w.0.sizes; variables = w.0.variables; formed = (h.formed.0, w.0.formed) }, ap (Made k) w.1)
    part_changed f (Hole v) h = (h, refl)
    part_changed f (Open m v t) h = (h, refl)
    part_changed f (Level l t) h = (h, refl)
    part_changed f (Fun k t r) h = (h, refl)

  module _ (results : Option (ℕ → ℕ → Dim → Dim)) (blank : ℕ → Dim → Dim) (blanks : (i : ℕ) (d : Dim) → Scoped In 0 d → Scoped In 0 (blank i d)) where
    mutual
      unfolding with_sizes all_with_sizes fields_with_sizes Each Each_all Each_hole Each_holes Formed All_formed erased all_erased

      pub with_says : (e : FlatType) → Written_data e → Sizes_written In e → (t : Size) (i : ℕ) → Says In Vars t → Says In Vars (with_sizes N results blank i e t) × (erased (with_sizes N results blank i e t) ≡ erased t)
      with_says (Type_use r args) p w t i h = (h, refl)
      with_says (Array_type s e) p w (Level d t) i h =
          let k = with_says e p w.1 t (suc i) (record { sizes = h.sizes.1; variables = h.variables; formed = h.formed }) in
          (record { sizes = (written_in s (blank i d) w.0 (blanks i d h.sizes.0), k.0.sizes); variables = k.0.variables; formed = k.0.formed }, ap array_ty k.1)
      with_says (Array_type s e) p w t i h = (h, refl)
      with_says (Unique_type e) p w t i h = with_says e p w t i h
      with_says (Tuple_type es) p w (Built g ts) i h =
          let k = all_with_say es p w ts i (record { sizes = h.sizes; variables = h.variables; formed = h.formed.1 }) in
          (record { sizes = k.0.sizes; variables = k.0.variables; formed = (h.formed.0, k.0.formed) }, ap (Made g) k.1)
      with_says (Tuple_type es) p w t i h = (h, refl)
      with_says (Arrow_type b x y) p w t i h = absurd p
      with_says (Record_type fs es) p w t i h = fields_with_say fs es p w t i h

      all_with_say : (es : Type_terms Ref BindId) → All_written_data es → All_sizes_written In es → (ts : Sizes) (i : ℕ) → All_say In Vars ts → All_say In Vars (all_with_sizes N results blank i es ts) × (all_erased (all_with_sizes N results blank i es ts) ≡ all_erased ts)
      all_with_say (type_and e es) p w (size_and t ts) i h =
          let a = with_says e p.0 w.0 t i (record { sizes = h.sizes.0; variables = h.variables.0; formed = h.formed.0 }) in
          let b = all_with_say es p.1 w.1 ts (levels t + i) (record { sizes = h.sizes.1; variables = h.variables.1; formed = h.formed.1 }) in
          (record { sizes = (a.0.sizes, b.0.sizes); variables = (a.0.variables, b.0.variables); formed = (a.0.formed, b.0.formed) }, ap (λ x. more x (all_erased (all_with_sizes N results blank (levels t + i) es ts))) a.1 ∙ ap (more (erased t)) b.1)
      all_with_say (type_and e es) p w no_size i h = (h, refl)
      all_with_say no_type p w ts i h = (h, refl)

      fields_with_say : (fs : List Text) (es : Type_terms Ref BindId) → All_written_data es → All_sizes_written In es → (t : Size) (i : ℕ) → Says In Vars t → Says In Vars (fields_with_sizes N results blank i fs es t) × (erased (fields_with_sizes N results blank i fs es t) ≡ erased t)
      fields_with_say (f ∷ fs) (type_and e es) p w t i h =
          let a = part_changed (with_sizes N results blank i e) (λ u k. with_says e p.0 w.0 u i k) f t h in
          let b = fields_with_say fs es p.1 w.1 (changed_part N f (with_sizes N results blank i e) t) (levels_there (part_of N f t) + i) a.0 in
          (b.0, b.1 ∙ a.1)
      fields_with_say [] es p w t i h = (h, refl)
      fields_with_say (f ∷ fs) no_type p w t i h = (h, refl)

  coerce_gives : (e : FlatType) → Given (Coerce e)
  unfolding operation coercion coerced all_erased
  coerce_gives x lo met at no_term us t p r h e v w q = absurd r
  coerce_gives x lo met at (term_and y no_term) no_size t p r h e v w q = absurd (let z : none ≡ more (types at) none = e in cc)
  coerce_gives x lo met at (term_and y no_term) (size_and u (size_and u2 us)) t p r h e v w q = absurd (let z : more (erased u2) (all_erased us) ≡ none = rest_ty e in cc)
  coerce_gives x lo met at (term_and y (term_and z ys)) us t p r h e v w q = absurd r
  coerce_gives x lo met at (term_and y no_term) (size_and u no_size) t p r h e v w q =
      let step : then_do (has_sizes N false at x u) (λ z. Ok (with_sizes N None same_dim 0 x u)) ≡ Ok t = q in
      let ran = then_ok (has_sizes N false at x u) step in
      let k = with_says None same_dim (λ i d z. z) x p v u 0 (first_says In Vars u no_size h) in
      subst (λ z. Gives lo z) (same_ok ran.rest) (record { says = k.0; typed = k.1 ∙ first_ty e ∙ sym r })

  declared_gives : (e : FlatType) → Given (Declared e)
  unfolding operation declared all_erased
  declared_gives x lo met at no_term us t p r h e v w q = absurd r
  declared_gives x lo met at (term_and y no_term) no_size t p r h e v w q = absurd (let z : none ≡ more (types at) none = e in cc)
  declared_gives x lo met at (term_and y no_term) (size_and u (size_and u2 us)) t p r h e v w q = absurd (let z : more (erased u2) (all_erased us) ≡ none = rest_ty e in cc)
  declared_gives x lo met at (term_and y (term_and z ys)) us t p r h e v w q = absurd r
  declared_gives x lo met at (term_and y no_term) (size_and u no_size) t p r h e v w q =
      let step : then_do (has_sizes N true at x u) (λ z. Ok (with_sizes N (Some (λ k i d. Bound 0 (suc k + i))) (λ i d. At (Unknown lo i)) 0 x u)) ≡ Ok t = q in
      let ran = then_ok (has_sizes N true at x u) step in
      let k = with_says (Some (λ k i d. Bound 0 (suc k + i))) (λ i d. At (Unknown lo i)) (λ i d z. met i) x p v u 0 (first_says In Vars u no_size h) in
      subst (λ z. Gives lo z) (same_ok ran.rest) (record { says = k.0; typed = k.1 ∙ first_ty e ∙ sym r })

  -- ---- parts of tuples and records

  project_gives : (f : Text) → Given (Project f)
  unfolding operation all_erased
  project_gives f lo met at no_term us t p r h e v w q = absurd r
  project_gives f lo met at (term_and y no_term) no_size t p r h e v w q = absurd (let z : none ≡ more (types at) none = e in cc)
  project_gives f lo met at (term_and y no_term) (size_and u (size_and u2 us)) t p r h e v w q = absurd (let z : more (erased u2) (all_erased us) ≡ none = rest_ty e in cc)
  project_gives f lo met at (term_and y (term_and z ys)) us t p r h e v w q = absurd r
  project_gives f lo met at (term_and y no_term) (size_and u no_size) t p r h e v w q =
      let P = part_of_says N In Vars f u (types at) (types lo) (first_says In Vars u no_size h) (first_ty e) (subst (λ z. HasPart N.shapes (N.label f) z (types lo)) (sym r.0) r.1) in
      let step : ◌≡◌ {A = Answer Size} (Ok (part_or (part_of N f u) (plain N types lo))) (Ok t) = q in
      subst (λ z. Gives lo z) (sym (ap (λ o. part_or o (plain N types lo)) P.is) ∙ same_ok step) (record { says = P.says; typed = P.typed })

  with_part_says : (o : Option ℕ) (ts : Sizes) (n : Size) (y : Ty) → All_say In Vars ts → Says In Vars n → erased n ≡ y → part_at o (all_erased ts) ≡ Some y → All_say In Vars (with_part o (λ u. n) ts) × (all_erased (with_part o (λ u. n) ts) ≡ all_erased ts)
  unfolding part_at all_erased
  with_part_says None ts n y h k e p = (h, refl)
  with_part_says (Some i) no_size n y h k e p = (h, refl)
  with_part_says (Some zero) (size_and t ts) n y h k e p = (more_say In Vars n ts k (rest_say In Vars t ts h), ap (λ z. more z (all_erased ts)) (e ∙ (let z : Some (erased t) ≡ Some y = p in let w : y ≡ erased t = cc in w)))
  with_part_says (Some (suc i)) (size_and t ts) n y h k e p = let w = with_part_says (Some i) ts n y (rest_say In Vars t ts h) k e p in (more_say In Vars t (with_part (Some i) (λ u. n) ts) (first_says In Vars t ts h) w.0, ap (more (erased t)) w.1)

  changed_says : (f : Text) (u n : Size) (x y : Ty) → Says In Vars u → erased u ≡ x → Says In Vars n → erased n ≡ y → HasPart N.shapes (N.label f) x y → Says In Vars (changed_part N f (λ w. n) u) × (erased (changed_part N f (λ w. n) u) ≡ x)
  unfolding changed_part part_named erased Each Each_hole Formed
  changed_says f (Built k ts) n x y h e g d p =
      let w = with_part_says (place N.shapes (N.label f) k) ts n y (record { sizes = h.sizes; variables = h.variables; formed = h.formed.1 }) g d (subst (λ z. part_named N.shapes (N.label f) z ≡ Some y) (sym e) p) in
      (record { sizes = w.0.sizes; variables = w.0.variables; formed = (h.formed.0, w.0.formed) }, ap (Made k) w.1 ∙ e)
  changed_says f (Hole v) n x y h e g d p = (h, e)
  changed_says f (Open m v t) n x y h e g d p = (h, e)
  changed_says f (Level l t) n x y h e g d p = (h, e)
  changed_says f (Fun k t r) n x y h e g d p = (h, e)

  -- ---- records

  labelled_says : (l : ℕ) (T y : Ty) → part_named N.shapes l T ≡ Some y → (rest : Sizes) → All_say In Vars rest → (fs : List Text) (ts : Sizes) (us : Tys) → Parts_named N fs T us → All_say In Vars ts → all_erased ts ≡ us → Is_in l (map N.label fs)
      → All_say In Vars (labelled N l fs ts rest) × (all_erased (labelled N l fs ts rest) ≡ more y (all_erased rest))
  unfolding all_erased
  labelled_says l T y p rest k [] ts us h a e i = absurd i
  labelled_says l T y p rest k (f ∷ fs) no_size none h a e i = absurd h
  labelled_says l T y p rest k (f ∷ fs) no_size (more u us) h a e i = absurd (let z : none ≡ more u us = e in cc)
  labelled_says l T y p rest k (f ∷ fs) (size_and t ts) none h a e i = absurd h
  labelled_says l T y p rest k (f ∷ fs) (size_and t ts) (more u us) h a e i = by_label (nat_eq (N.label f) l) refl (labelled_says l T y p rest k fs ts us h.1 (rest_say In Vars t ts a) (rest_ty e)) i
    where
      same : N.label f ≡ l → erased t ≡ y
      same g = let z : Some u ≡ Some y = sym h.0 ∙ ap (λ m. part_named N.shapes m T) g ∙ p in first_ty e ∙ (let w : u ≡ y = cc in w)

      by_label : (b : Bool) → nat_eq (N.label f) l ≡ b → (Is_in l (map N.label fs) → All_say In Vars (labelled N l fs ts rest) × (all_erased (labelled N l fs ts rest) ≡ more y (all_erased rest))) → (l ≡ N.label f) ⊎ Is_in l (map N.label fs)
          → All_say In Vars (cond (nat_eq (N.label f) l) (size_and t rest) (labelled N l fs ts rest)) × (all_erased (cond (nat_eq (N.label f) l) (size_and t rest) (labelled N l fs ts rest)) ≡ more y (all_erased rest))
      by_label true g go i = subst (λ b. All_say In Vars (cond b (size_and t rest) (labelled N l fs ts rest)) × (all_erased (cond b (size_and t rest) (labelled N l fs ts rest)) ≡ more y (all_erased rest))) (sym g) (more_say In Vars t rest (first_says In Vars t ts a) k, ap (λ z. more z (all_erased rest)) (same (eqb-true (N.label f) l g)))
      by_label false g go (inl i) = absurd (let z : true ≡ false = sym (eq-eqb (N.label f) l (sym i)) ∙ g in cc)
      by_label false g go (inr i) = subst (λ b. All_say In Vars (cond b (size_and t rest) (labelled N l fs ts rest)) × (all_erased (cond b (size_and t rest) (labelled N l fs ts rest)) ≡ more y (all_erased rest))) (sym g) (go i)

  in_order_says : (T : Ty) (fs : List Text) (ts : Sizes) (us : Tys) → Parts_named N fs T us → All_say In Vars ts → all_erased ts ≡ us → (ls : List ℕ) (ps : Tys) → Apart ls → count ps ≡ length ls → ((l : ℕ) (t : Ty) → part_at (place_from 0 l ls) ps ≡ Some t → part_named N.shapes l T ≡ Some t) → ((l : ℕ) → Is_in l ls → Is_in l (map N.label fs))
      → All_say In Vars (in_order N ls fs ts) × (all_erased (in_order N ls fs ts) ≡ ps)
  unfolding all_erased
  in_order_says T fs ts us h a e [] none d c p w = (none_say In Vars, refl)
  in_order_says T fs ts us h a e [] (more t ps) d c p w = absurd (let z : 1 + count ps ≡ 0 = c in omega (arith, z))
  in_order_says T fs ts us h a e (l ∷ ls) none d c p w = absurd (let z : 0 ≡ suc (length ls) = c in omega (arith, z))
  in_order_says T fs ts us h a e (l ∷ ls) (more t ps) d c p w =
      let r = in_order_says T fs ts us h a e ls ps d.1 (let z : 1 + count ps ≡ suc (length ls) = c in omega (arith, z)) (λ m u q. p m u (there_place m l ls t ps (λ same. d.0 (subst (λ x. Is_in x ls) (sym same) (placed_label m ls ps u q))) ∙ q)) (λ m i. w m (inr i)) in
      let k = labelled_says l T t (p l t (here_place l ls t ps)) (in_order N ls fs ts) r.0 fs ts us h a e (w l (inl refl)) in
      (k.0, k.1 ∙ ap (more t) r.1)

  record_gives : (fs : List Text) → AreNames N → (lo : ℕ) (us : Sizes) (t : Size) (ws : Tys) → IsRecord N fs (types lo) ws → All_say In Vars us → all_erased us ≡ ws → ◌≡◌ {A = Answer Size} (Ok (record_of N fs (types lo) us)) (Ok t) → Gives lo t
  unfolding part_named place Each Each_hole Formed erased
  record_gives fs are lo us t ws r h e q =
      let k = in_order_says (types lo) fs us ws r.named h e (N.shapes.fields r.number) r.parts (numbers_apart (N.shapes.fields r.number) (are.once r.number)) (r.all ∙ sym r.fields) (λ l y p. ap (λ z. part_named N.shapes l z) r.made ∙ p) (all_written N are fs (types lo) ws r) in
      subst (λ z. Gives lo z) (sym (ap (λ z. record_of N fs z us) r.made) ∙ same_ok q) (record { says = record { sizes = k.0.sizes; variables = k.0.variables; formed = (tt, k.0.formed) }; typed = ap (Made (head.Record r.number)) k.1 ∙ sym r.made })

  replace_gives : (f : Text) → Given (Replace f)
  unfolding operation all_erased
  replace_gives f lo met at no_term us t p r h e v w q = absurd r
  replace_gives f lo met at (term_and y no_term) us t p r h e v w q = absurd r
  replace_gives f lo met at (term_and y (term_and z (term_and x xs))) us t p r h e v w q = absurd r
  replace_gives f lo met at (term_and y (term_and z no_term)) no_size t p r h e v w q = absurd (let a : none ≡ more (types at) (more (types (at + numbers y)) none) = e in cc)
  replace_gives f lo met at (term_and y (term_and z no_term)) (size_and u no_size) t p r h e v w q = absurd (let a : none ≡ more (types (at + numbers y)) none = rest_ty e in cc)
  replace_gives f lo met at (term_and y (term_and z no_term)) (size_and u (size_and n (size_and u2 us))) t p r h e v w q = absurd (let a : more (erased u2) (all_erased us) ≡ none = rest_ty (rest_ty e) in cc)
  replace_gives f lo met at (term_and y (term_and z no_term)) (size_and u (size_and n no_size)) t p r h e v w q =
      let k = changed_says f u n (types lo) (types (at + numbers y)) (first_says In Vars u (size_and n no_size) h) (first_ty e ∙ sym r.0) (first_says In Vars n no_size (rest_say In Vars u (size_and n no_size) h)) (first_ty (rest_ty e)) r.1 in
      let step : ◌≡◌ {A = Answer Size} (Ok (changed_part N f (λ w. n) u)) (Ok t) = q in
      subst (λ z. Gives lo z) (same_ok step) (record { says = k.0; typed = k.1 })

  -- one level less for each index, another size for each slice
  module _ (n : ℕ) (met : (i : ℕ) → In (Unknown n i)) where
    abbrev Indexed_says : List Part → Terms Ref BindId → ℕ → Size → Ty → Type 0
    Indexed_says ps es i u y = Says In Vars (indexed n i ps es u) × (erased (indexed n i ps es u) ≡ y)

    level_says : (d : Dim) (u : Size) (y : Ty) → Scoped In 0 d → Says In Vars u × (erased u ≡ y) → Says In Vars (Level d u) × (erased (Level d u) ≡ array_ty y)
    unfolding Each Each_hole Formed erased all_erased
    level_says d u y i (h, e) = (record { sizes = (i, h.sizes); variables = h.variables; formed = h.formed }, ap array_ty e)

    no_array : (u : Size) (x element : Ty) {X : Type 0} → Says In Vars u → erased u ≡ x → x ≡ array_ty element → ((d : Dim) (t : Size) → u ≡ Level d t → ⊥) → X
    unfolding erased all_erased Formed
    no_array (Level d t) x element h e a n = absurd (n d t refl)
    no_array (Hole (Inferred v)) x element h e a n = absurd (let z : Var v ≡ Made head.Array (more element none) = e ∙ a in cc)
    no_array (Hole (Written b k)) x element h e a n = absurd (let z : Made (head.Rigid b k) none ≡ Made head.Array (more element none) = e ∙ a in cc)
    no_array (Open m v t) x element h e a n = absurd h.formed
    no_array (Built k ts) x element h e a n = absurd (subst (λ g. Is_made g) (let q : k ≡ head.Array = (let z : Made k (all_erased ts) ≡ Made head.Array (more element none) = e ∙ a in cc) in q) h.formed.0)
    no_array (Fun k f t) x element h e a n = absurd (let z : Made head.Fun (more (erased f) (more (erased t) none)) ≡ Made head.Array (more element none) = e ∙ a in cc)

    -- the level that is indexed
    pub record Level_of (u : Size) (element : Ty) : Type 0 where
      pub dim : Dim
      pub row : Size
      pub is : u ≡ Level dim row
      pub known : Scoped In 0 dim
      pub says : Says In Vars row
      pub typed : erased row ≡ element

    pub level_of : (u : Size) (x element : Ty) → Says In Vars u → erased u ≡ x → x ≡ array_ty element → Level_of u element
    unfolding erased all_erased Each Each_hole Formed
    level_of (Level d t) x element h e a = record { dim = d; row = t; is = refl; known = h.sizes.0; says = record { sizes = h.sizes.1; variables = h.variables; formed = h.formed }; typed = (let z : Made head.Array (more (erased t) none) ≡ Made head.Array (more element none) = e ∙ a in cc) }
    level_of (Hole v) x element h e a = no_array (Hole v) x element h e a (λ d t z. (let y : Hole v ≡ Level d t = z in cc))
    level_of (Open m v t) x element h e a = no_array (Open m v t) x element h e a (λ d w z. (let y : Open m v t ≡ Level d w = z in cc))
    level_of (Built k ts) x element h e a = no_array (Built k ts) x element h e a (λ d t z. (let y : Built k ts ≡ Level d t = z in cc))
    level_of (Fun k f t) x element h e a = no_array (Fun k f t) x element h e a (λ d w z. (let y : Fun k f t ≡ Level d w = z in cc))

    slice_in : (i : ℕ) (b : Bool) (e : FlatTerm) (at : ℕ) → Size_named e at → types at ≡ i64_ty → In (slice_size n i b e)
    unfolding slice_size
    slice_in i true e at w z = value_in n i e at met w z
    slice_in i false e at w z = met i

    indexed_says : (ps : List Part) (es : Terms Ref BindId) (i at : ℕ) (u : Size) (x y : Ty) → All_are i64_ty (term_types types es at) → Sizes_named es at → count (term_types types es at) ≡ bounds ps → Says In Vars u → erased u ≡ x → Indexed N places K ps x y → Indexed_says ps es i u y
    unfolding indexed
    indexed_says [] es i at u x y k w c h e r = (h, e ∙ sym r)
    indexed_says (part.At ∷ ps) (term_and e1 es) i at u x y k w c h e (element, v, a, r, l) =
        let L = level_of u x element h e a.0 in
        subst (λ z. Indexed_says (part.At ∷ ps) (term_and e1 es) i z y) (sym L.is) (let m = indexed_says ps es i (at + numbers e1) L.row element v k.1 w.1 (omega (arith, c)) L.says L.typed r in (m.0, m.1 ∙ sym l))
    indexed_says (part.At ∷ ps) no_term i at u x y k w c h e r = absurd (omega (arith, c))
    indexed_says (part.Backwards ∷ ps) es i at u x y k w c h e (element, v, a, r, l) =
        let L = level_of u x element h e a.0 in
        subst (λ z. Indexed_says (part.Backwards ∷ ps) es i z y) (sym L.is) (let m = level_says L.dim (indexed n (suc i) ps es L.row) v L.known (indexed_says ps es (suc i) at L.row element v k w (omega (arith, c)) L.says L.typed r) in (m.0, m.1 ∙ sym l))
    indexed_says (part.Slice false false ∷ ps) es i at u x y k w c h e (element, v, a, r, l) =
        let L = level_of u x element h e a.0 in
        subst (λ z. Indexed_says (part.Slice false false ∷ ps) es i z y) (sym L.is) (let m = level_says L.dim (indexed n (suc i) ps es L.row) v L.known (indexed_says ps es (suc i) at L.row element v k w (omega (arith, c)) L.says L.typed r) in (m.0, m.1 ∙ sym l))
    indexed_says (part.Slice false true ∷ ps) (term_and e1 es) i at u x y k w c h e (element, v, a, r, l) =
        let L = level_of u x element h e a.0 in
        subst (λ z. Indexed_says (part.Slice false true ∷ ps) (term_and e1 es) i z y) (sym L.is) (let m = level_says (At (value_of n i e1)) (indexed n (suc i) ps es L.row) v (value_in n i e1 at met w.0 k.0) (indexed_says ps es (suc i) (at + numbers e1) L.row element v k.1 w.1 (omega (arith, c)) L.says L.typed r) in (m.0, m.1 ∙ sym l))
    indexed_says (part.Slice false true ∷ ps) no_term i at u x y k w c h e r = absurd (omega (arith, c))
    indexed_says (part.Slice true false ∷ ps) (term_and e1 es) i at u x y k w c h e (element, v, a, r, l) =
        let L = level_of u x element h e a.0 in
        subst (λ z. Indexed_says (part.Slice true false ∷ ps) (term_and e1 es) i z y) (sym L.is) (let m = level_says (At (Unknown n i)) (indexed n (suc i) ps es L.row) v (met i) (indexed_says ps es (suc i) (at + numbers e1) L.row element v k.1 w.1 (omega (arith, c)) L.says L.typed r) in (m.0, m.1 ∙ sym l))
    indexed_says (part.Slice true false ∷ ps) no_term i at u x y k w c h e r = absurd (omega (arith, c))
    indexed_says (part.Slice true true ∷ ps) (term_and e1 (term_and e2 es)) i at u x y k w c h e (element, v, a, r, l) =
        let L = level_of u x element h e a.0 in
        subst (λ z. Indexed_says (part.Slice true true ∷ ps) (term_and e1 (term_and e2 es)) i z y) (sym L.is) (let m = level_says (At (slice_size n i (is_literal 0 e1) e2)) (indexed n (suc i) ps es L.row) v (slice_in i (is_literal 0 e1) e2 (at + numbers e1) w.1.0 k.1.0) (indexed_says ps es (suc i) (at + numbers e1 + numbers e2) L.row element v k.1.1 w.1.1 (omega (arith, c)) L.says L.typed r) in (m.0, m.1 ∙ sym l))
    indexed_says (part.Slice true true ∷ ps) (term_and e1 no_term) i at u x y k w c h e r = absurd (omega (arith, c))
    indexed_says (part.Slice true true ∷ ps) no_term i at u x y k w c h e r = absurd (omega (arith, c))

  index_gives : (ps : List Part) → Given (Index ps)
  unfolding operation all_erased
  index_gives ps lo met at no_term us t p r h e v w q = absurd r
  index_gives ps lo met at (term_and x xs) no_size t p r h e v w q = absurd (let z : none ≡ more (types at) (term_types types xs (at + numbers x)) = e in cc)
  index_gives ps lo met at (term_and x xs) (size_and u us) t p r h e v w q =
      let step : ◌≡◌ {A = Answer Size} (Ok (indexed lo 0 ps xs u)) (Ok t) = q in
      let k = indexed_says lo met ps xs 0 (at + numbers x) u (types at) (types lo) r.0 w.1 r.1 (first_says In Vars u us h) (first_ty e) r.2 in
      subst (λ w. Gives lo w) (same_ok step) (record { says = k.0; typed = k.1 })

  -- ---- ranges

  size_in : (n : ℕ) (c : Bool) (e : FlatTerm) (at : ℕ) → ((i : ℕ) → In (Unknown n i)) → Size_named e at → (c ≡ true → types at ≡ i64_ty) → In (range_size n c e)
  size_in n true e at met w z = value_in n 0 e at met w (z refl)
  size_in n false e at met w z = met 0

  first_true : (b c : Bool) → both b c ≡ true → b ≡ true
  first_true true c e = refl
  first_true false c e = e

  range_in : (b : Bool) (n : ℕ) (stepped : Bool) (x : End) (ts : Terms Ref BindId) (at : ℕ) → ((i : ℕ) → In (Unknown n i)) → Sizes_named ts at → (b ≡ true → All_are i64_ty (term_types types ts at)) → In (range_of b n stepped x ts)
  range_in b n false end.Below (term_and y (term_and z no_term)) at met w k = size_in n (both b (is_literal 0 y)) z (at + numbers y) met w.1.0 (λ e. (k (first_true b (is_literal 0 y) e)).1.0)
  range_in b n true end.Below (term_and y (term_and v (term_and z no_term))) at met w k = size_in n (both b (both (is_literal 0 y) (is_literal 1 v))) z (at + numbers y + numbers v) met w.1.1.0 (λ e. (k (first_true b (both (is_literal 0 y) (is_literal 1 v)) e)).1.1.0)
  range_in b n true end.Through (term_and y (term_and v (term_and z no_term))) at met w k = size_in n (both b (both (is_literal 1 y) (is_literal 2 v))) z (at + numbers y + numbers v) met w.1.1.0 (λ e. (k (first_true b (both (is_literal 1 y) (is_literal 2 v)) e)).1.1.0)
  range_in b n stepped x ts at met w k = met 0

  i64_is : (t : Ty) → Formed_type t → is_i64 t ≡ true → t ≡ i64_ty
  unfolding Formed_type
  i64_is (Made (head.Scalar (scalar.Int int.I64)) none) f e = refl
  i64_is (Made (head.Scalar (scalar.Int int.I64)) (more t ts)) f e = absurd f
  i64_is t f e = absurd (let z : false ≡ true = e in cc)

  all_i64 : (element : Ty) (ts : Tys) → element ≡ i64_ty → All_are element ts → All_are i64_ty ts
  all_i64 element ts e h = subst (λ w. All_are w ts) e h

  row_gives : (b : Bool) (x : End) (lo : ℕ) → ((i : ℕ) → In (Unknown lo i)) → (at : ℕ) (ts : Terms Ref BindId) (us : Sizes) (t : Size) (element : Ty) → Formed_type (types lo) → types lo ≡ array_ty element → All_are element (term_types types ts at) → Sizes_named ts at → operation N types (Range b x) lo at ts us ≡ Ok t → Gives lo t
  unfolding operation
  row_gives b x lo met at ts us t element f e h w q = subst (λ v. Gives lo v) (same_ok step) (elements_give lo (At (range_of (is_i64 (element_ty (types lo))) lo b x ts)) (element_ty (types lo)) met (range_in (is_i64 (element_ty (types lo))) lo b x ts at met w in_i64) formed (e ∙ ap array_ty (sym same)))
    where
      step : ◌≡◌ {A = Answer Size} (Ok (Level (At (range_of (is_i64 (element_ty (types lo))) lo b x ts)) (of_type (no_size_of lo) 0 (element_ty (types lo))))) (Ok t)
      step = q

      same : element_ty (types lo) ≡ element
      same = ap element_ty e

      formed : Formed_type (element_ty (types lo))
      formed = subst Formed_type (sym same) (formed_element (types lo) element e f)

      in_i64 : is_i64 (element_ty (types lo)) ≡ true → All_are i64_ty (term_types types ts at)
      in_i64 z = all_i64 element (term_types types ts at) (sym same ∙ i64_is (element_ty (types lo)) formed z) h

  range_gives : (b : Bool) (x : End) → Given (Range b x)
  range_gives true x lo met at (term_and e1 (term_and e2 (term_and e3 no_term))) us t p r h e v w q = row_gives true x lo met at (term_and e1 (term_and e2 (term_and e3 no_term))) us t r.0 p r.1.0 r.3 w q
  range_gives false x lo met at (term_and e1 (term_and e2 no_term)) us t p r h e v w q = row_gives false x lo met at (term_and e1 (term_and e2 no_term)) us t r.0 p r.1.0 r.3 w q
  range_gives b x lo met at ts us t p r h e v w q = absurd r

  pub operation_gives : (o : Operation Ref BindId) → Given o
  unfolding operation
  operation_gives (Integer n i) lo met at ts us t p r h e v w q = plain_gives lo t p q
  operation_gives (Truth b) lo met at ts us t p r h e v w q = plain_gives lo t p q
  operation_gives (Binary o) lo met at ts us t p r h e v w q = plain_gives lo t p q
  operation_gives Negate lo met at ts us t p r h e v w q = plain_gives lo t p q
  operation_gives Complement lo met at ts us t p r h e v w q = plain_gives lo t p q
  operation_gives Assert lo met at ts us t p r h e v w q = plain_gives lo t p q
  operation_gives Tuple_of lo met at ts us t p r h e v w q = tuple_gives lo met at ts us t p r h e v w q
  operation_gives Array_of lo met at ts us t p r h e v w q = array_gives lo met at ts us t p r h e v w q
  operation_gives Update lo met at ts us t p r h e v w q = update_gives lo met at ts us t p r h e v w q
  operation_gives (Index ps) lo met at ts us t p r h e v w q = index_gives ps lo met at ts us t p r h e v w q
  operation_gives (Ascribe x) lo met at ts us t p r h e v w q = ascribe_gives x lo met at ts us t p r h e v w q
  operation_gives (Record_of fs) lo met at ts us t p r h e v w q = record_gives fs p lo us t (term_types types ts at) r h e q
  operation_gives (Project f) lo met at ts us t p r h e v w q = project_gives f lo met at ts us t p r h e v w q
  operation_gives (Replace f) lo met at ts us t p r h e v w q = replace_gives f lo met at ts us t p r h e v w q
  operation_gives (Coerce x) lo met at ts us t p r h e v w q = coerce_gives x lo met at ts us t p r h e v w q
  operation_gives (Declared x) lo met at ts us t p r h e v w q = declared_gives x lo met at ts us t p r h e v w q
  operation_gives (Range b x) lo met at ts us t p r h e v w q = range_gives b x lo met at ts us t p r h e v w q

-- a sized type of an i64 is told
pub number_is : (t : Size) → Formed t → erased t ≡ i64_ty → is_i64_size t ≡ true
unfolding Formed erased all_erased
number_is (Hole (Inferred v)) f e = absurd (let z : Var v ≡ Made (head.Scalar (scalar.Int int.I64)) none = e in cc)
number_is (Hole (Written b k)) f e = absurd (let z : Made (head.Rigid b k) none ≡ Made (head.Scalar (scalar.Int int.I64)) none = e in cc)
number_is (Open n v u) f e = absurd f
number_is (Level d t) f e = absurd (let z : Made head.Array (more (erased t) none) ≡ Made (head.Scalar (scalar.Int int.I64)) none = e in cc)
number_is (Built h no_size) f e = ap head_i64 (let z : Made h none ≡ Made (head.Scalar (scalar.Int int.I64)) none = e in (let q : h ≡ head.Scalar (scalar.Int int.I64) = cc in q))
number_is (Built h (size_and t ts)) f e = absurd (let z : Made h (more (erased t) (all_erased ts)) ≡ Made (head.Scalar (scalar.Int int.I64)) none = e in cc)
number_is (Fun k p r) f e = absurd (let z : Made head.Fun (more (erased p) (more (erased r) none)) ≡ Made (head.Scalar (scalar.Int int.I64)) none = e in cc)
