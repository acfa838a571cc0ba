-- Parts by their names, and sizes that a program writes: a name has its part in the same place.
use Rattle.std.proofs.Common.{◌≡◌, ℕ, zero, suc, ◌+◌, Bool, true, false, cond, nat_eq, List, [], ◌∷◌, Option, Some, None, Ok, refl, sym, ap, ◌∙◌, eq-eqb, eqb-true}
use Rattle.fut_ast.specs.Sorts.{Text}
use Rattle.fut_scalar.specs.declared.place.BindId.{BindId}
use Rattle.fut_flat.specs.declared.prim.Ref.{Ref}
use Rattle.fut_flat.specs.Terms.{Type_use, Array_type, Unique_type, Arrow_type, Tuple_type, Record_type, Type_terms, no_type, type_and}
use Rattle.fut_flat.specs.Erased.{FlatType}
use Rattle.fut_types.specs.declared.Head.{Head}
use Rattle.fut_types.specs.declared.Head.TheVariants as head
use Rattle.fut_types.specs.Types.{Ty, Var, Made}
use Rattle.fut_types.specs.Shapes.{place_from, place}
use Rattle.fut_typing.specs.Names.{Names, AreNames}
use Rattle.sized_types.specs.Sizes.{Unknown, Dim, At, Bound, Size, Hole, Open, Level, Built, Fun, Sizes, no_size, size_and, levels, replaced, given as given_dim, binding}
use Rattle.fut_sizes.specs.Agreeing.{Answer, then_do}
use Rattle.fut_sizes.specs.Operations.{labelled, in_order, record_of}
use Rattle.fut_sizes.specs.WrittenSizes.{part, with_part, part_of, changed_part, written_dim, has_written, dim_or, inside, argument_place, same_dim, levels_there, if_there, has_sizes, all_have_sizes, fields_have_sizes, with_sizes, all_with_sizes, fields_with_sizes, ascribed, coerced, coercion, parameter_size, declared}
use Rattle.sizing_laws.specs.Renumbering.{Same_names, Renumbers, renumbered_head, renumbered_type, renumbered, all_renumbered}
use Rattle.sizing_laws.proofs.Agreeing.{levels_same, replaced_to}
use Rattle.sizing_laws.proofs.Steps.{AnswerR, gives, then_same}

same_tests : (x y : Bool) → (x ≡ true → y ≡ true) → (y ≡ true → x ≡ true) → x ≡ y
same_tests true y f g = sym (f refl)
same_tests false true f g = g refl
same_tests false false f g = refl

equal_where : (a b c d : ℕ) → (a ≡ b → c ≡ d) → (c ≡ d → a ≡ b) → nat_eq a b ≡ nat_eq c d
equal_where a b c d f g = same_tests (nat_eq a b) (nat_eq c d) (λ e. eq-eqb c d (f (eqb-true a b e))) (λ e. eq-eqb a b (g (eqb-true c d e)))

same_places : (x y : Option ℕ) → ((n : ℕ) → x ≡ Some n → y ≡ Some n) → ((n : ℕ) → y ≡ Some n → x ≡ Some n) → x ≡ y
same_places (Some a) y f g = sym (f a refl)
same_places None (Some b) f g = g b refl
same_places None None f g = refl

pub cond_through : {A B : Type 0} (f : A → B) (b : Bool) (x y : A) → cond b (f x) (f y) ≡ f (cond b x y)
cond_through f true x y = refl
cond_through f false x y = refl

-- what is there, renumbered
abbrev pub if_some : (ℕ → ℕ) → Option Size → Option Size
if_some number (Some t) = Some (renumbered number t)
if_some number None = None

module _ (number : ℕ → ℕ) where
  abbrev to : Size → Size
  to = renumbered number

  abbrev tos : Sizes → Sizes
  tos = all_renumbered number

  pub levels_there_same : (o : Option Size) → levels_there (if_some number o) ≡ levels_there o
  levels_there_same (Some t) = levels_same number t
  levels_there_same None = refl

  part_to : (o : Option ℕ) (ts : Sizes) → part o (tos ts) ≡ if_some number (part o ts)
  part_to None ts = refl
  part_to (Some i) no_size = refl
  part_to (Some zero) (size_and t ts) = refl
  part_to (Some (suc i)) (size_and t ts) = part_to (Some i) ts

  if_there_same : (o : Option Size) (test other : Size → Answer (Unit {0})) → ((t : Size) → other (to t) ≡ test t) → if_there (if_some number o) other ≡ if_there o test
  if_there_same (Some t) test other e = e t
  if_there_same None test other e = refl

  with_part_to : (o : Option ℕ) (change other : Size → Size) → ((t : Size) → other (to t) ≡ to (change t)) → (ts : Sizes) → with_part o other (tos ts) ≡ tos (with_part o change ts)
  with_part_to None change other e ts = refl
  with_part_to (Some i) change other e no_size = refl
  with_part_to (Some zero) change other e (size_and t ts) = ap (λ x. size_and x (tos ts)) (e t)
  with_part_to (Some (suc i)) change other e (size_and t ts) = ap (size_and (to t)) (with_part_to (Some i) change other e ts)

module _ (M N : Names) (m : AreNames M) (n : AreNames N) (number : ℕ → ℕ) (renumbers : Renumbers M N number) where
  abbrev go : Size → Size
  go = renumbered number

  abbrev gos : Sizes → Sizes
  gos = all_renumbered number

  -- ---- names have their parts in the same places

  pub label_same : (s : Text) (k l : ℕ) → ((t : Text) × (k ≡ M.label t) × (l ≡ N.label t)) → nat_eq (N.label s) l ≡ nat_eq (M.label s) k
  label_same s k l h = equal_where (N.label s) l (M.label s) k (λ e. ap M.label (n.one_label s h.0 (e ∙ h.2)) ∙ sym h.1) (λ e. ap N.label (m.one_label s h.0 (e ∙ h.1)) ∙ sym h.2)

  pub same_label : (s : Text) (k l : ℕ) → ((t : Text) × (k ≡ M.label t) × (l ≡ N.label t)) → nat_eq l (N.label s) ≡ nat_eq k (M.label s)
  same_label s k l h = equal_where l (N.label s) k (M.label s) (λ e. h.1 ∙ ap M.label (n.one_label h.0 s (sym h.2 ∙ e))) (λ e. h.2 ∙ ap N.label (m.one_label h.0 s (sym h.1 ∙ e)))

  place_from_same : (at : ℕ) (s : Text) (ks ls : List ℕ) → Same_names M N ks ls → place_from at (N.label s) ls ≡ place_from at (M.label s) ks
  unfolding place_from
  place_from_same at s [] [] h = refl
  place_from_same at s (k ∷ ks) (l ∷ ls) h = λ i. cond (same_label s k l h.0 i) (Some at) (place_from_same (suc at) s ks ls h.1 i)
  place_from_same at s (k ∷ ks) [] h = absurd h
  place_from_same at s [] (l ∷ ls) h = absurd h

  position_same : (s : Text) → N.shapes.position (N.label s) ≡ M.shapes.position (M.label s)
  position_same s = same_places (N.shapes.position (N.label s)) (M.shapes.position (M.label s)) (λ i e. (m.position s i).1 ((n.position s i).0 e)) (λ i e. (n.position s i).1 ((m.position s i).0 e))

  pub place_same : (s : Text) (h : Head) → place N.shapes (N.label s) (renumbered_head number h) ≡ place M.shapes (M.label s) h
  unfolding place
  place_same s (head.Record r) = place_from_same 0 s (M.shapes.fields r) (N.shapes.fields (number r)) (renumbers r)
  place_same s head.Tuple = position_same s
  place_same s (head.Scalar t) = refl
  place_same s head.Array = refl
  place_same s head.Fun = refl
  place_same s (head.Rigid k d) = refl
  place_same s (head.Abstract k d) = refl

  -- ---- parts

  pub part_of_to : (s : Text) (t : Size) → part_of N s (go t) ≡ if_some number (part_of M s t)
  unfolding part_of
  part_of_to s (Hole v) = refl
  part_of_to s (Open k v u) = refl
  part_of_to s (Level d t) = refl
  part_of_to s (Built h ts) = (λ i. part (place_same s h i) (gos ts)) ∙ part_to number (place M.shapes (M.label s) h) ts
  part_of_to s (Fun k p r) = refl

  pub changed_part_to : (s : Text) (change other : Size → Size) → ((t : Size) → other (go t) ≡ go (change t)) → (t : Size) → changed_part N s other (go t) ≡ go (changed_part M s change t)
  unfolding changed_part
  changed_part_to s change other e (Hole v) = refl
  changed_part_to s change other e (Open k v u) = refl
  changed_part_to s change other e (Level d t) = refl
  changed_part_to s change other e (Built h ts) = ap (Built (renumbered_head number h)) ((λ i. with_part (place_same s h i) other (gos ts)) ∙ with_part_to number (place M.shapes (M.label s) h) change other e ts)
  changed_part_to s change other e (Fun k p r) = refl

  -- ---- records

  labelled_to : (k l : ℕ) → ((t : Text) × (k ≡ M.label t) × (l ≡ N.label t)) → (fs : List Text) (ts rest : Sizes) → labelled N l fs (gos ts) (gos rest) ≡ gos (labelled M k fs ts rest)
  labelled_to k l h (f ∷ fs) (size_and t ts) rest = (λ i. cond (label_same f k l h i) (size_and (go t) (gos rest)) (labelled_to k l h fs ts rest i)) ∙ cond_through gos (nat_eq (M.label f) k) (size_and t rest) (labelled M k fs ts rest)
  labelled_to k l h (f ∷ fs) no_size rest = refl
  labelled_to k l h [] ts rest = refl

  in_order_to : (ks ls : List ℕ) → Same_names M N ks ls → (fs : List Text) (ts : Sizes) → in_order N ls fs (gos ts) ≡ gos (in_order M ks fs ts)
  in_order_to [] [] h fs ts = refl
  in_order_to (k ∷ ks) (l ∷ ls) h fs ts = ap (labelled N l fs (gos ts)) (in_order_to ks ls h.1 fs ts) ∙ labelled_to k l h.0 fs ts (in_order M ks fs ts)
  in_order_to (k ∷ ks) [] h fs ts = absurd h
  in_order_to [] (l ∷ ls) h fs ts = absurd h

  pub record_of_to : (fs : List Text) (t : Ty) (ts : Sizes) → record_of N fs (renumbered_type number t) (gos ts) ≡ go (record_of M fs t ts)
  record_of_to fs (Var v) ts = refl
  record_of_to fs (Made (head.Record r) us) ts = ap (Built (head.Record (number r))) (in_order_to (M.shapes.fields r) (N.shapes.fields (number r)) (renumbers r) fs ts)
  record_of_to fs (Made head.Tuple us) ts = refl
  record_of_to fs (Made (head.Scalar s) us) ts = refl
  record_of_to fs (Made head.Array us) ts = refl
  record_of_to fs (Made head.Fun us) ts = refl
  record_of_to fs (Made (head.Rigid k d) us) ts = refl
  record_of_to fs (Made (head.Abstract k d) us) ts = refl

  -- ---- sizes that are written

  mutual
    unfolding has_sizes

    pub has_sizes_same : (everywhere : Bool) (at : ℕ) (e : FlatType) (t : Size) → has_sizes N everywhere at e (go t) ≡ has_sizes M everywhere at e t
    has_sizes_same everywhere at (Array_type s e) (Level d t) = λ i. then_do (cond everywhere (has_written at (written_dim s) d) (Ok tt)) (λ z. has_sizes_same everywhere at e t i)
    has_sizes_same everywhere at (Array_type s e) (Hole v) = refl
    has_sizes_same everywhere at (Array_type s e) (Open n v u) = refl
    has_sizes_same everywhere at (Array_type s e) (Built h ts) = refl
    has_sizes_same everywhere at (Array_type s e) (Fun k p r) = refl
    has_sizes_same everywhere at (Unique_type e) t = has_sizes_same everywhere at e t
    has_sizes_same everywhere at (Arrow_type b x y) (Fun k p r) = (λ i. then_do (has_sizes N true at x (replaced_to number (given_dim (inside at k b)) 1 p i)) (λ z. has_sizes N true at y (replaced_to number (given_dim (inside at k b)) 1 r i)))
        ∙ (λ i. then_do (has_sizes_same true at x (replaced (given_dim (inside at k b)) 1 p) i) (λ z. has_sizes_same true at y (replaced (given_dim (inside at k b)) 1 r) i))
    has_sizes_same everywhere at (Arrow_type b x y) (Hole v) = refl
    has_sizes_same everywhere at (Arrow_type b x y) (Open n v u) = refl
    has_sizes_same everywhere at (Arrow_type b x y) (Level d t) = refl
    has_sizes_same everywhere at (Arrow_type b x y) (Built h ts) = refl
    has_sizes_same everywhere at (Tuple_type es) (Built h ts) = all_have_sizes_same everywhere at es ts
    has_sizes_same everywhere at (Tuple_type es) (Hole v) = refl
    has_sizes_same everywhere at (Tuple_type es) (Open n v u) = refl
    has_sizes_same everywhere at (Tuple_type es) (Level d t) = refl
    has_sizes_same everywhere at (Tuple_type es) (Fun k p r) = refl
    has_sizes_same everywhere at (Record_type fs es) t = fields_have_sizes_same everywhere at fs es t
    has_sizes_same everywhere at (Type_use r xs) t = refl

    all_have_sizes_same : (everywhere : Bool) (at : ℕ) (es : Type_terms Ref BindId) (ts : Sizes) → all_have_sizes N everywhere at es (gos ts) ≡ all_have_sizes M everywhere at es ts
    all_have_sizes_same everywhere at (type_and e es) (size_and t ts) = λ i. then_do (has_sizes_same everywhere at e t i) (λ z. all_have_sizes_same everywhere at es ts i)
    all_have_sizes_same everywhere at (type_and e es) no_size = refl
    all_have_sizes_same everywhere at no_type ts = refl

    fields_have_sizes_same : (everywhere : Bool) (at : ℕ) (fs : List Text) (es : Type_terms Ref BindId) (t : Size) → fields_have_sizes N everywhere at fs es (go t) ≡ fields_have_sizes M everywhere at fs es t
    fields_have_sizes_same everywhere at (f ∷ fs) (type_and e es) t = λ i. then_do (((λ j. if_there (part_of_to f t j) (λ u. has_sizes N everywhere at e u)) ∙ if_there_same number (part_of M f t) (λ u. has_sizes M everywhere at e u) (λ u. has_sizes N everywhere at e u) (λ u. has_sizes_same everywhere at e u)) i) (λ z. fields_have_sizes_same everywhere at fs es t i)
    fields_have_sizes_same everywhere at (f ∷ fs) no_type t = refl
    fields_have_sizes_same everywhere at [] es t = refl

  mutual
    unfolding with_sizes

    pub with_sizes_to : (results : Option (ℕ → ℕ → Dim → Dim)) (blank : ℕ → Dim → Dim) (i : ℕ) (e : FlatType) (t : Size) → with_sizes N results blank i e (go t) ≡ go (with_sizes M results blank i e t)
    with_sizes_to results blank i (Array_type s e) (Level d t) = ap (Level (dim_or (written_dim s) (blank i d))) (with_sizes_to results blank (suc i) e t)
    with_sizes_to results blank i (Array_type s e) (Hole v) = refl
    with_sizes_to results blank i (Array_type s e) (Open n v u) = refl
    with_sizes_to results blank i (Array_type s e) (Built h ts) = refl
    with_sizes_to results blank i (Array_type s e) (Fun k p r) = refl
    with_sizes_to results blank i (Unique_type e) t = with_sizes_to results blank i e t
    with_sizes_to results blank i (Tuple_type es) (Built h ts) = ap (Built (renumbered_head number h)) (all_with_sizes_to results blank i es ts)
    with_sizes_to results blank i (Tuple_type es) (Hole v) = refl
    with_sizes_to results blank i (Tuple_type es) (Open n v u) = refl
    with_sizes_to results blank i (Tuple_type es) (Level d t) = refl
    with_sizes_to results blank i (Tuple_type es) (Fun k p r) = refl
    with_sizes_to results blank i (Record_type fs es) t = fields_with_sizes_to results blank i fs es t
    with_sizes_to (Some given) blank i (Arrow_type b x y) (Fun k p r) = λ j. Fun k (with_sizes_to (Some given) same_dim 0 x p j)
        ((ap (replaced (binding (argument_place k b)) 0) (with_sizes_to (Some given) (given k) 0 y r) ∙ replaced_to number (binding (argument_place k b)) 0 (with_sizes M (Some given) (given k) 0 y r)) j)
    with_sizes_to (Some given) blank i (Arrow_type b x y) (Hole v) = refl
    with_sizes_to (Some given) blank i (Arrow_type b x y) (Open n v u) = refl
    with_sizes_to (Some given) blank i (Arrow_type b x y) (Level d t) = refl
    with_sizes_to (Some given) blank i (Arrow_type b x y) (Built h ts) = refl
    with_sizes_to None blank i (Arrow_type b x y) (Hole v) = refl
    with_sizes_to None blank i (Arrow_type b x y) (Open n v u) = refl
    with_sizes_to None blank i (Arrow_type b x y) (Level d t) = refl
    with_sizes_to None blank i (Arrow_type b x y) (Built h ts) = refl
    with_sizes_to None blank i (Arrow_type b x y) (Fun k p r) = refl
    with_sizes_to results blank i (Type_use r xs) t = refl

    all_with_sizes_to : (results : Option (ℕ → ℕ → Dim → Dim)) (blank : ℕ → Dim → Dim) (i : ℕ) (es : Type_terms Ref BindId) (ts : Sizes) → all_with_sizes N results blank i es (gos ts) ≡ gos (all_with_sizes M results blank i es ts)
    all_with_sizes_to results blank i (type_and e es) (size_and t ts) = λ j. size_and (with_sizes_to results blank i e t j)
        (((λ k. all_with_sizes N results blank (levels_same number t k + i) es (gos ts)) ∙ all_with_sizes_to results blank (levels t + i) es ts) j)
    all_with_sizes_to results blank i (type_and e es) no_size = refl
    all_with_sizes_to results blank i no_type ts = refl

    fields_with_sizes_to : (results : Option (ℕ → ℕ → Dim → Dim)) (blank : ℕ → Dim → Dim) (i : ℕ) (fs : List Text) (es : Type_terms Ref BindId) (t : Size) → fields_with_sizes N results blank i fs es (go t) ≡ go (fields_with_sizes M results blank i fs es t)
    fields_with_sizes_to results blank i (f ∷ fs) (type_and e es) t =
        (λ j. fields_with_sizes N results blank ((ap levels_there (part_of_to f t) ∙ levels_there_same number (part_of M f t)) j + i) fs es
        (changed_part_to f (with_sizes M results blank i e) (with_sizes N results blank i e) (λ u. with_sizes_to results blank i e u) t j))
        ∙ fields_with_sizes_to results blank (levels_there (part_of M f t) + i) fs es (changed_part M f (with_sizes M results blank i e) t)
    fields_with_sizes_to results blank i (f ∷ fs) no_type t = refl
    fields_with_sizes_to results blank i [] es t = refl

  pub coerced_to : (e : FlatType) (t : Size) → coerced N e (go t) ≡ go (coerced M e t)
  unfolding coerced
  coerced_to e t = with_sizes_to None same_dim 0 e t

  pub parameter_size_to : (own : ℕ → Dim → Dim) (e : FlatType) (t : Size) → parameter_size N own e (go t) ≡ go (parameter_size M own e t)
  unfolding parameter_size
  parameter_size_to own e t = with_sizes_to (Some (λ k i d. d)) own 0 e t

  pub ascribed_to : (at : ℕ) (e : FlatType) (t : Size) → AnswerR (λ x y. y ≡ go x) (ascribed M at e t) (ascribed N at e (go t))
  unfolding ascribed
  ascribed_to at e t = then_same _ _ (has_sizes_same true at e t) (λ z. gives refl)

  pub coercion_to : (at : ℕ) (e : FlatType) (t : Size) → AnswerR (λ x y. y ≡ go x) (coercion M at e t) (coercion N at e (go t))
  unfolding coercion
  coercion_to at e t = then_same _ _ (has_sizes_same false at e t) (λ z. gives (coerced_to e t))

  pub declared_to : (k at : ℕ) (e : FlatType) (t : Size) → AnswerR (λ x y. y ≡ go x) (declared M k at e t) (declared N k at e (go t))
  unfolding declared
  declared_to k at e t = then_same _ _ (has_sizes_same true at e t) (λ z. gives (with_sizes_to (Some (λ j i d. Bound 0 (suc j + i))) (λ i d. At (Unknown k i)) 0 e t))
