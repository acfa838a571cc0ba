-- The value of a definition that is data: it has one type in all of its typings, and a written type tells all of its sizes.
use Rattle.std.proofs.Common.{◌≡◌, ℕ, suc, ◌+◌, [], ◌∷◌, Bool, true, false, Option, Some, Ok, refl, sym, ap, ◌∙◌, subst, inl, inr}
use Rattle.fut_scalar.specs.declared.place.BindId.{BindId}
use Rattle.fut_scalar.specs.declared.place.Place.{Place}
use Rattle.fut_flat.specs.declared.prim.Ref.{Ref}
use Rattle.fut_flat.specs.declared.prim.Ref.TheVariants as ref
use Rattle.fut_flat.specs.Numbers.{own_numbers}
use Rattle.fut_flat.specs.Terms.{Size_use, Size_const, Type_use, Array_type, Unique_type, Tuple_type, Type_terms, no_arg, no_type, type_and, Declared, Truth, Strict, Terms, no_term, term_and}
use Rattle.fut_flat.specs.Erased.{FlatTerm, FlatType}
use Rattle.fut_types.specs.declared.Head.TheVariants as head
use Rattle.fut_types.specs.declared.Kind.{Kind}
use Rattle.fut_types.specs.Types.{Ty, Made, Tys, none, more, Sub, Kinds}
use Rattle.fut_typing.specs.Free.{is_free}
use Rattle.fut_typing.specs.Names.{Names}
use Rattle.fut_typing.specs.Primitives.{bool_ty}
use Rattle.fut_typing.specs.Rules.{Rule}
use Rattle.fut_typing.specs.Scopes.{Scope as TypeScope, Denotes, All_denote}
use Rattle.fut_typing.specs.Typing.{Typed}
use Rattle.sized_types.specs.Sizes.{Free, Const, Unknown, Dim, At, Bound, Variable, Size, Hole, Open, Level, Built, Fun, Sizes, no_size, size_and, erased, all_erased, levels}
use Rattle.fut_sizes.specs.Agreeing.{Answer}
use Rattle.fut_sizes.specs.Applications.{Part, Applied, Waiting, whole}
use Rattle.fut_sizes.specs.Operations.{operation}
use Rattle.fut_sizes.specs.Scopes.{Scope}
use Rattle.fut_sizes.specs.Sizing.{finished, sized, all_sized}
use Rattle.fut_sizes.specs.Steps.{State, Done, ask}
use Rattle.fut_sizes.specs.Suiting.{Each, Each_all, Scoped}
use Rattle.fut_sizes.specs.WrittenSizes.{with_sizes, all_with_sizes, has_sizes, declared}
use Rattle.sizes_meet_rules.specs.Known.{Is_made, Formed, All_formed, Elsewhere}
use Rattle.sizes_meet_rules.specs.Plain.{Written_whole, All_written_whole, One_type}
use Rattle.sizes_meet_rules.proofs.Looping.{scalar_is}
use Rattle.sizes_meet_rules.proofs.Meeting.{then_ok, asked, same_ok, With_met, met_settled, says_settled, Part_meets}
use Rattle.sizes_meet_rules.proofs.Operating.{Sizes_written, All_sizes_written}
use Rattle.sizes_meet_rules.proofs.Settling.{Settled, noted, whole_finished}
use Rattle.sizes_meet_rules.proofs.Taking.{head_same, parts_same, not_variable, no_variable_array}

-- ---- one type in all typings

module _ (N : Names) (places : Kind) (K : Kinds) (a b : Sub) where
  mutual
    same_denoted : (e : FlatType) → Written_whole e → (T S : TypeScope) (t u : Ty) → Denotes N places K a e T t → Denotes N places K b e S u → t ≡ u
    same_denoted (Type_use (ref.Scalar s) no_arg) w T S t u d c = d ∙ sym c
    same_denoted (Array_type (Size_use (ref.Bound x)) e) w T S t u d c = d.1.2.0 ∙ ap (λ y. Made head.Array (more y none)) (same_denoted e w T S d.1.0 c.1.0 d.1.1 c.1.1) ∙ sym c.1.2.0
    same_denoted (Array_type (Size_const x) e) w T S t u d c = d.1.2.0 ∙ ap (λ y. Made head.Array (more y none)) (same_denoted e w T S d.1.0 c.1.0 d.1.1 c.1.1) ∙ sym c.1.2.0
    same_denoted (Unique_type e) w T S t u d c = same_denoted e w T S t u d c
    same_denoted (Tuple_type es) w T S t u d c = d.2 ∙ ap (Made head.Tuple) (all_same_denoted es w T S d.0 c.0 d.1 c.1) ∙ sym c.2
    same_denoted e w T S t u d c = absurd w

    all_same_denoted : (es : Type_terms Ref BindId) → All_written_whole es → (T S : TypeScope) (ts us : Tys) → All_denote N places K a es T ts → All_denote N places K b es S us → ts ≡ us
    all_same_denoted no_type w T S none none d c = refl
    all_same_denoted no_type w T S (more t ts) us d c = absurd d
    all_same_denoted no_type w T S none (more u us) d c = absurd c
    all_same_denoted (type_and e es) w T S none us d c = absurd d
    all_same_denoted (type_and e es) w T S (more t ts) none d c = absurd c
    all_same_denoted (type_and e es) w T S (more t ts) (more u us) d c = ap (λ x. more x ts) (same_denoted e w.0 T S t u d.0 c.0) ∙ ap (more u) (all_same_denoted es w.1 T S ts us d.1 c.1)

  truth_typed : (c : Bool) (t u : Ty) (ts : Tys) → Rule N places K (Truth c) t u ts → t ≡ bool_ty
  truth_typed c t u none r = r
  truth_typed c t u (more y ys) r = absurd r

  pub one_typed : (v : FlatTerm) (n : ℕ) (T : TypeScope) → One_type v n → Typed N places v n T K a → Typed N places v n T K b → (is_free false v n n ≡ false → b n ≡ a n) → b n ≡ a n
  one_typed (Strict (Declared e) mark ts) n T o ta tb k = sym (same_denoted e o T T (a n) (b n) ta.2 tb.2)
  one_typed (Strict (Truth c) mark ts) n T o ta tb k = truth_typed c (b n) (b n) _ tb.1 ∙ sym (truth_typed c (a n) (a n) _ ta.1)
  one_typed v n T o ta tb k = k o

-- ---- all sizes are those that are written

module _ (N : Names) (places : Kind) (K : Kinds) (a : Sub) (T : TypeScope) (In : Free → Type 0) (constants : (c : ℕ) → In (Const c)) (results : Option (ℕ → ℕ → Dim → Dim)) (blank : ℕ → Dim → Dim) where
  mutual
    unfolding with_sizes all_with_sizes Each Each_all Formed All_formed erased all_erased

    pub whole_written : (e : FlatType) → Written_whole e → Sizes_written In e → (t : Size) (i : ℕ) (u : Ty) → Denotes N places K a e T u → Formed (with_sizes N results blank i e t) → erased (with_sizes N results blank i e t) ≡ u → Each (Scoped In) 0 (with_sizes N results blank i e t)
    whole_written (Type_use (ref.Scalar s) no_arg) w z t i u d f e = subst (Each (Scoped In) 0) (sym (scalar_is t s f (e ∙ d))) tt
    whole_written (Array_type (Size_use (ref.Bound x)) y) w z (Level l t) i u d f e = (z.0, whole_written y w z.1 t (suc i) d.1.0 d.1.1 f (let v : Made head.Array (more (erased (with_sizes N results blank (suc i) y t)) none) ≡ Made head.Array (more d.1.0 none) = e ∙ d.1.2.0 in cc))
    whole_written (Array_type (Size_use (ref.Bound x)) y) w z (Hole v) i u d f e = absurd (no_variable_array v (more d.1.0 none) (e ∙ d.1.2.0))
    whole_written (Array_type (Size_use (ref.Bound x)) y) w z (Open m v o) i u d f e = absurd f
    whole_written (Array_type (Size_use (ref.Bound x)) y) w z (Built h ts) i u d f e = absurd (subst Is_made (head_same (e ∙ d.1.2.0)) f.0)
    whole_written (Array_type (Size_use (ref.Bound x)) y) w z (Fun k p r) i u d f e = absurd (let v : head.Fun ≡ head.Array = head_same (e ∙ d.1.2.0) in cc)
    whole_written (Array_type (Size_const c) y) w z (Level l t) i u d f e = (constants c, whole_written y w z.1 t (suc i) d.1.0 d.1.1 f (let v : Made head.Array (more (erased (with_sizes N results blank (suc i) y t)) none) ≡ Made head.Array (more d.1.0 none) = e ∙ d.1.2.0 in cc))
    whole_written (Array_type (Size_const c) y) w z (Hole v) i u d f e = absurd (no_variable_array v (more d.1.0 none) (e ∙ d.1.2.0))
    whole_written (Array_type (Size_const c) y) w z (Open m v o) i u d f e = absurd f
    whole_written (Array_type (Size_const c) y) w z (Built h ts) i u d f e = absurd (subst Is_made (head_same (e ∙ d.1.2.0)) f.0)
    whole_written (Array_type (Size_const c) y) w z (Fun k p r) i u d f e = absurd (let v : head.Fun ≡ head.Array = head_same (e ∙ d.1.2.0) in cc)
    whole_written (Unique_type y) w z t i u d f e = whole_written y w z t i u d f e
    whole_written (Tuple_type ys) w z (Built h ts) i u d f e = all_whole_written ys w z ts i d.0 d.1 f.1 (parts_same (e ∙ d.2))
    whole_written (Tuple_type ys) w z (Hole v) i u d f e = absurd (not_variable v head.Tuple d.0 tt (e ∙ d.2))
    whole_written (Tuple_type ys) w z (Open m v o) i u d f e = absurd f
    whole_written (Tuple_type ys) w z (Level l t) i u d f e = absurd (let v : head.Array ≡ head.Tuple = head_same (e ∙ d.2) in cc)
    whole_written (Tuple_type ys) w z (Fun k p r) i u d f e = absurd (let v : head.Fun ≡ head.Tuple = head_same (e ∙ d.2) in cc)
    whole_written y w z t i u d f e = absurd w

    all_whole_written : (ys : Type_terms Ref BindId) → All_written_whole ys → All_sizes_written In ys → (ts : Sizes) (i : ℕ) (us : Tys) → All_denote N places K a ys T us → All_formed (all_with_sizes N results blank i ys ts) → all_erased (all_with_sizes N results blank i ys ts) ≡ us → Each_all (Scoped In) 0 (all_with_sizes N results blank i ys ts)
    all_whole_written no_type w z no_size i us d f e = tt
    all_whole_written no_type w z (size_and t ts) i none d f e = absurd (let v : more (erased t) (all_erased ts) ≡ none = e in cc)
    all_whole_written no_type w z (size_and t ts) i (more u us) d f e = absurd d
    all_whole_written (type_and y ys) w z no_size i none d f e = absurd d
    all_whole_written (type_and y ys) w z no_size i (more u us) d f e = absurd (let v : none ≡ more u us = e in cc)
    all_whole_written (type_and y ys) w z (size_and t ts) i none d f e = absurd d
    all_whole_written (type_and y ys) w z (size_and t ts) i (more u us) d f e =
        let v : more (erased (with_sizes N results blank i y t)) (all_erased (all_with_sizes N results blank (levels t + i) ys ts)) ≡ more u us = e in
        (whole_written y w.0 z.0 t i u d.0 f.0 (let x : erased (with_sizes N results blank i y t) ≡ u = cc in x), all_whole_written ys w.1 z.1 ts (levels t + i) us d.1 f.1 (let x : all_erased (all_with_sizes N results blank (levels t + i) ys ts) ≡ us = cc in x))

-- ---- the value of a written type by itself

module _ (N : Names) (types : Sub) (home : ℕ → ℕ) (In : Free → Type 0) (e : FlatType) (mark : Place) (n : ℕ) (scope : Scope) where
  abbrev value : Terms Ref BindId → FlatTerm
  value ts = Strict (Declared e) mark ts

  -- what is found of it, with the sizes that are written
  pub record Declared_is (u : Size) : Type 0 where
    pub found : Size
    pub results : Option (ℕ → ℕ → Dim → Dim)
    pub blank : ℕ → Dim → Dim
    pub is : u ≡ with_sizes N results blank 0 e found

  settled_whole : (v : FlatTerm) (Vars : Variable → Type 0) (lo hi : ℕ) (st after : State) (t : Size) → Elsewhere N types home lo hi In → Part_meets N types home In Vars scope v lo hi st (whole t) after → Settled t
  settled_whole v Vars lo hi st after t E (inl W) = subst Settled (let z : Applied t false [] ≡ Applied W.size false [] = W.is_whole in let y : W.size ≡ t = cc in y) (says_settled (With_met In lo hi) Vars W.size (met_settled N types home In lo hi lo hi E) W.inner.says)
  settled_whole v Vars lo hi st after t E (inr (inl W)) = absurd (let z : Applied t false [] ≡ Waiting W.waiting = W.is_waiting in cc)
  settled_whole v Vars lo hi st after t E (inr (inr W)) = absurd (let z : Applied t false [] ≡ Applied W.function W.regular (W.argument ∷ W.others) = W.is_applied in let y : [] ≡ W.argument ∷ W.others = cc in cc)

  one_declared : (at : ℕ) (t0 : FlatTerm) (t : Size) (st : State) (d : Done Sizes) → all_sized N types (term_and t0 no_term) at scope st ≡ Ok d → operation N types (Declared e) n at (term_and t0 no_term) d.result ≡ Ok t → Declared_is t
  unfolding sized all_sized operation declared
  one_declared at t0 t st d q r =
      let x1 = then_ok (sized N types t0 [] at scope st) q in
      let x2 = then_ok (finished N types at x1.first.result x1.first.state) x1.rest in
      let size_is : size_and x2.first.result no_size ≡ d.result = ap (λ (y : Done Sizes). y.result) (same_ok x2.rest) in
      let y = then_ok (has_sizes N true at e x2.first.result) (ap (operation N types (Declared e) n at (term_and t0 no_term)) size_is ∙ r) in
      record { found = x2.first.result; results = Some (λ k i d. Bound 0 (suc k + i)); blank = λ i d. At (Unknown n i); is = sym (same_ok y.rest) }

  abbrev pub One : Terms Ref BindId → Type 0
  One (term_and t0 no_term) = Unit {0}
  One ts = ⊥

  pub one_term : (K : Kinds) (places : Kind) (T : TypeScope) (ts : Terms Ref BindId) → Typed N places (value ts) n T K types → One ts
  one_term K places T no_term t = absurd t.1
  one_term K places T (term_and t0 no_term) t = tt
  one_term K places T (term_and t0 (term_and t1 ts)) t = absurd t.1

  pub declared_is : (ts : Terms Ref BindId) (Vars : Variable → Type 0) (hi : ℕ) (st : State) (d : Done Part) (v : Done Size) → One ts → Elsewhere N types home n hi In → Part_meets N types home In Vars scope (value ts) n hi st d.result d.state → sized N types (value ts) [] n scope st ≡ Ok d → finished N types n d.result d.state ≡ Ok v → Declared_is v.result
  unfolding sized
  declared_is no_term Vars hi st d v o E P q f = absurd o
  declared_is (term_and t0 (term_and t1 ts)) Vars hi st d v o E P q f = absurd o
  declared_is (term_and t0 no_term) Vars hi st d v o E P q f =
      let at : ℕ = n + own_numbers (Declared e) in
      let x1 = then_ok (all_sized N types (term_and t0 no_term) at scope st) q in
      let x2 = then_ok (ask (operation N types (Declared e) n at (term_and t0 no_term) x1.first.result) x1.first.state) x1.rest in
      let a2 = asked (operation N types (Declared e) n at (term_and t0 no_term) x1.first.result) x1.first.state x2.first x2.done in
      let part_is : whole x2.first.result ≡ d.result = ap (λ (y : Done Part). y.result) (same_ok x2.rest) in
      let settled = settled_whole (value (term_and t0 no_term)) Vars n hi st d.state x2.first.result E (subst (λ p. Part_meets N types home In Vars scope (value (term_and t0 no_term)) n hi st p d.state) (sym part_is) P) in
      let now : ◌≡◌ {A = Answer (Done Size)} (Ok (noted n x2.first.result d.state)) (Ok v) = sym (whole_finished N types n x2.first.result d.state settled) ∙ ap (λ p. finished N types n p d.state) part_is ∙ f in
      let result_is : x2.first.result ≡ v.result = ap (λ (y : Done Size). y.result) (same_ok now) in
      let D = one_declared at t0 x2.first.result st x1.first x1.done a2.answer in
      record { found = D.found; results = D.results; blank = D.blank; is = sym result_is ∙ D.is }
