-- Names in scope, uses of names, and what patterns take, by two numberings.
use Rattle.std.proofs.Common.{◌≡◌, ℕ, suc, Bool, true, false, cond, nat_eq, List, [], ◌∷◌, length, Option, Some, None, Err, refl, sym, ap, ◌∙◌, subst}
use Rattle.fut_ast.specs.Sorts.{Text}
use Rattle.fut_scalar.specs.declared.place.BindId.{BindId}
use Rattle.fut_flat.specs.declared.prim.Ref.{Ref}
use Rattle.fut_flat.specs.Terms.{Bound_pattern, Wild_pattern, Tuple_pattern, Record_pattern, Typed_pattern, Patterns, no_pattern, pattern_and}
use Rattle.fut_flat.specs.Erased.{FlatType, FlatPattern}
use Rattle.fut_types.specs.declared.Head.TheVariants as head
use Rattle.fut_types.specs.Types.{Ty, Made, Tys, none, more}
use Rattle.fut_typing.specs.Names.{Names, AreNames}
use Rattle.sized_types.specs.Sizes.{Variable, Inferred, Written, is_variable, Size, Hole, Open, Level, Built, Fun, Sizes, no_size, size_and, erased, replaced, renaming}
use Rattle.fut_sizes.specs.Agreeing.{Answer, Escapes, then_do}
use Rattle.fut_sizes.specs.Matching.{Found, none_opened, data_way, meet}
use Rattle.fut_sizes.specs.Scopes.{Known, Scope, with_known, with_name, i64_size, with_size_names, or_else, type_of, type_in, or_variable, instance, instances, used, Taken, as_slot, some_part, taken, all_taken, fields_taken, is_still_open, all_met, bound_at, bound_by}
use Rattle.fut_sizes.specs.WrittenSizes.{part_of, has_sizes, coerced}
use Rattle.sizing_laws.specs.Renumbering.{Renumbers, renumbered_head, renumbered_type, renumbered_types, renumbered, all_renumbered}
use Rattle.sizing_laws.proofs.Agreeing.{replaced_to}
use Rattle.sizing_laws.proofs.Steps.{AnswerR, gives, then_are, then_same, cond_are}
use Rattle.sizing_laws.proofs.Matching.{FoundR, alike, nothing_alike, counted_alike, meet_alike}
use Rattle.sizing_laws.proofs.Written.{if_some, has_sizes_same, coerced_to, part_of_to}

module _ (number : ℕ → ℕ) where
  abbrev to : Size → Size
  to = renumbered number

  abbrev tos : Sizes → Sizes
  tos = all_renumbered number

  abbrev to_type : Ty → Ty
  to_type = renumbered_type number

  -- ---- names

  abbrev pub known_to : Option Known → Option Known
  known_to (Some k) = Some (record { size = to k.size; is_general = k.is_general })
  known_to None = None

  abbrev pub ScopeR : Scope → Scope → Type 0
  ScopeR s t = (b : ℕ) → t b ≡ known_to (s b)

  pub with_known_alike : (b : ℕ) (general : Bool) (t u : Size) → u ≡ to t → (s r : Scope) → ScopeR s r → ScopeR (with_known b (record { size = t; is_general = general }) s) (with_known b (record { size = u; is_general = general }) r)
  with_known_alike b general t u e s r h c = cond_are (λ (x y : Option Known). y ≡ known_to x) (nat_eq b c) (nat_eq b c) refl (λ i. Some (record { size = e i; is_general = general })) (h c)

  pub with_name_alike : (b : ℕ) (t u : Size) → u ≡ to t → (s r : Scope) → ScopeR s r → ScopeR (with_name b t s) (with_name b u r)
  with_name_alike b t u e s r h = with_known_alike b false t u e s r h

  pub size_names_alike : (bs : List BindId) (s r : Scope) → ScopeR s r → ScopeR (with_size_names bs s) (with_size_names bs r)
  size_names_alike [] s r h = h
  size_names_alike (b ∷ bs) s r h = size_names_alike bs (with_name b.0 i64_size s) (with_name b.0 i64_size r) (with_name_alike b.0 i64_size i64_size refl s r h)

  -- ---- uses

  abbrev if_type : Option Ty → Option Ty
  if_type (Some t) = Some (to_type t)
  if_type None = None

  or_else_to : (o p : Option Ty) → or_else (if_type o) (if_type p) ≡ if_type (or_else o p)
  or_else_to (Some t) p = refl
  or_else_to None p = refl

  by_test : (b : Bool) (u : Ty) → cond b (Some (to_type u)) None ≡ if_type (cond b (Some u) None)
  by_test true u = refl
  by_test false u = refl

  mutual
    unfolding type_of

    type_of_to : (v : Variable) (t : Size) (u : Ty) → type_of v (to t) (to_type u) ≡ if_type (type_of v t u)
    type_of_to v (Hole w) u = by_test (is_variable v w) u
    type_of_to v (Level d t) (Made head.Array (more u none)) = type_of_to v t u
    type_of_to v (Built h ts) (Made g us) = type_in_to v ts us
    type_of_to v (Fun k p r) (Made head.Fun (more u (more x none))) = (λ i. or_else (type_of_to v p u i) (type_of_to v r x i)) ∙ or_else_to (type_of v p u) (type_of v r x)
    type_of_to v t u = refl

    type_in_to : (v : Variable) (ts : Sizes) (us : Tys) → type_in v (tos ts) (renumbered_types number us) ≡ if_type (type_in v ts us)
    type_in_to v (size_and t ts) (more u us) = (λ i. or_else (type_of_to v t u i) (type_in_to v ts us i)) ∙ or_else_to (type_of v t u) (type_in v ts us)
    type_in_to v ts us = refl

  or_variable_to : (v : Variable) (o : Option Ty) → or_variable v (if_type o) ≡ to_type (or_variable v o)
  unfolding erased
  or_variable_to v (Some t) = refl
  or_variable_to (Inferred n) None = refl
  or_variable_to (Written b k) None = refl

  mutual
    unfolding instance

    instance_to : (n : ℕ) (types others : Variable → Ty) → ((v : Variable) → others v ≡ to_type (types v)) → (t : Size) → instance n others (to t) ≡ to (instance n types t)
    instance_to n types others e (Hole v) = ap (Open n v) (e v)
    instance_to n types others e (Open m v u) = refl
    instance_to n types others e (Level d t) = ap (Level d) (instance_to n types others e t)
    instance_to n types others e (Built h ts) = ap (Built (renumbered_head number h)) (instances_to n types others e ts)
    instance_to n types others e (Fun k p r) = λ i. Fun k (instance_to n types others e p i) (instance_to n types others e r i)

    instances_to : (n : ℕ) (types others : Variable → Ty) → ((v : Variable) → others v ≡ to_type (types v)) → (ts : Sizes) → instances n others (tos ts) ≡ tos (instances n types ts)
    instances_to n types others e no_size = refl
    instances_to n types others e (size_and t ts) = λ i. size_and (instance_to n types others e t i) (instances_to n types others e ts i)

  pub used_to : (n : ℕ) (u : Ty) (t : Size) → used n (to_type u) (to t) ≡ to (used n u t)
  unfolding used
  used_to n u t = instance_to n (λ v. or_variable v (type_of v t u)) (λ v. or_variable v (type_of v (to t) (to_type u))) (λ v. ap (or_variable v) (type_of_to v t u) ∙ or_variable_to v (type_of v t u)) t

  -- ---- what a pattern takes

  pub record TakenR (k l : Taken) : Type 0 where
    pub scope : ScopeR k.scope l.scope
    pub found : FoundR number k.found l.found

  part_taken : (o : Option Size) (take other : Size → Answer Taken) → ((t : Size) → AnswerR TakenR (take t) (other (to t))) → {k l : Taken} → TakenR k l → AnswerR TakenR (some_part o take k) (some_part (if_some number o) other l)
  part_taken (Some t) take other f h = f t
  part_taken None take other f h = gives h

  all_met_same : (at i : ℕ) (bs : List BindId) {σ τ : Found} → FoundR number σ τ → all_met at i bs τ ≡ all_met at i bs σ
  all_met_same at i [] (alike h) = refl
  all_met_same at i (b ∷ bs) (alike {size} {type} {other} {next} {maker} h) = ap (λ (x : Answer (Unit {0})). cond (is_still_open (size i)) (Err (Escapes at)) x) (all_met_same at (suc i) bs (alike {size = size} {type = type} {other = other} {next = next} {maker = maker} h))

module _ (M N : Names) (m : AreNames M) (n : AreNames N) (number : ℕ → ℕ) (renumbers : Renumbers M N number) where
  abbrev go : Size → Size
  go = renumbered number

  module _ (sizes : List BindId) (at : ℕ) where
    -- a written type, where the value has this size behind it
    abbrev typed_taken : FlatPattern → FlatType → Size → Size → Size → Taken → Answer Taken
    typed_taken p e t c x k = then_do (meet at data_way at none_opened x none_opened t k.found) (λ found. then_do (has_sizes N true at e c) (λ z. taken N sizes at p c (record { scope = k.scope; found = found })))

    mutual
      unfolding taken

      pub taken_alike : (p : FlatPattern) (t : Size) {k l : Taken} → TakenR number k l → AnswerR (TakenR number) (taken M sizes at p t k) (taken N sizes at p (go t) l)
      taken_alike (Bound_pattern b) t {k} {l} h = gives (record { scope = with_name_alike number b.0 t (go t) refl k.scope l.scope h.scope; found = h.found })
      taken_alike Wild_pattern t h = gives h
      taken_alike (Tuple_pattern ps) (Built g ts) h = all_taken_alike ps ts h
      taken_alike (Tuple_pattern ps) t h = gives h
      taken_alike (Record_pattern fs ps) t h = fields_taken_alike fs ps t h
      taken_alike (Typed_pattern p e) t {k} {l} h = subst (λ (x : Size × Size). AnswerR (TakenR number) (taken M sizes at (Typed_pattern p e) t k) (typed_taken p e (go t) x.0 x.1 l))
          (λ i. (sym (coerced_to M N m n number renumbers e t) i, sym (ap (replaced (renaming (as_slot sizes)) 0) (coerced_to M N m n number renumbers e t) ∙ replaced_to number (renaming (as_slot sizes)) 0 (coerced M e t)) i))
          (then_are _ _ (meet_alike number at data_way at none_opened (replaced (renaming (as_slot sizes)) 0 (coerced M e t)) none_opened t h.found)
          (λ a b f. then_same _ _ (has_sizes_same M N m n number renumbers true at e (coerced M e t)) (λ z. taken_alike p (coerced M e t) (record { scope = h.scope; found = f }))))

      all_taken_alike : (ps : Patterns Ref BindId) (ts : Sizes) {k l : Taken} → TakenR number k l → AnswerR (TakenR number) (all_taken M sizes at ps ts k) (all_taken N sizes at ps (all_renumbered number ts) l)
      all_taken_alike (pattern_and p ps) (size_and t ts) h = then_are _ _ (taken_alike p t h) (λ a b g. all_taken_alike ps ts g)
      all_taken_alike (pattern_and p ps) no_size h = gives h
      all_taken_alike no_pattern ts h = gives h

      fields_taken_alike : (fs : List Text) (ps : Patterns Ref BindId) (t : Size) {k l : Taken} → TakenR number k l → AnswerR (TakenR number) (fields_taken M sizes at fs ps t k) (fields_taken N sizes at fs ps (go t) l)
      fields_taken_alike (f ∷ fs) (pattern_and p ps) t {k} {l} h = then_are _ _
          (subst (λ o. AnswerR (TakenR number) (some_part (part_of M f t) (λ u. taken M sizes at p u k) k) (some_part o (λ u. taken N sizes at p u l) l)) (sym (part_of_to M N m n number renumbers f t))
          (part_taken number (part_of M f t) (λ u. taken M sizes at p u k) (λ u. taken N sizes at p u l) (λ u. taken_alike p u h) h))
          (λ a b g. fields_taken_alike fs ps t g)
      fields_taken_alike (f ∷ fs) no_pattern t h = gives h
      fields_taken_alike [] ps t h = gives h

  pub bound_at_alike : (sizes : List BindId) (unmet at : ℕ) (p : FlatPattern) (t u : Size) → u ≡ go t → (s r : Scope) → ScopeR number s r → AnswerR (TakenR number) (bound_at M sizes unmet at p t s) (bound_at N sizes unmet at p u r)
  bound_at_alike sizes unmet at p t u e s r h = subst (λ x. AnswerR (TakenR number) (bound_at M sizes unmet at p t s) (bound_at N sizes unmet at p x r)) (sym e)
      (then_are _ _ (taken_alike sizes at p t (record { scope = size_names_alike number sizes s r h; found = counted_alike number (length sizes) (nothing_alike number) }))
      (λ a b g. then_same _ _ (all_met_same number unmet 0 sizes g.found) (λ z. gives g)))

  pub bound_alike : (sizes : List BindId) (at : ℕ) (p : FlatPattern) (t u : Size) → u ≡ go t → (s r : Scope) → ScopeR number s r → AnswerR (TakenR number) (bound_by M sizes at p t s) (bound_by N sizes at p u r)
  unfolding bound_by
  bound_alike sizes at = bound_at_alike sizes at at
