-- A record for each chain of distinct labels.
use Rattle.std.proofs.Common.{◌≡◌, ◌≢◌, ℕ, zero, suc, ◌+◌, ◌≤◌, ◌<◌, List, [], ◌∷◌, length, slice_index_or, map, Option, Some, None, ◌==◌, cond, if◌then◌else◌, refl, sym, ◌∙◌, ap, subst, arith}
use mathlib.Core.Logic.{◌⊎◌, inl, inr}
use native.Mathlib.Decide.{ℕ_discrete}
use Rattle.std.specs.List.{Contains}
use Rattle.std.proofs.lemmas.Bool.{eq-eqb}
use Rattle.std.proofs.lemmas.Bool.Decides.{eqb_tells}
use Rattle.std.proofs.lemmas.List.Kept.{AllPairs-cons}
use Rattle.fut_ast.specs.Sorts.{Text}
use Rattle.fut_types.specs.declared.Head.TheVariants as head
use Rattle.fut_types.specs.Types.{Ty, Var, Made, Tys, none, more, Sub, Kinds, rank, least}
use Rattle.fut_types.specs.Shapes.{Shapes, HasPart, place_from, place, part_at}
use Rattle.fut_types.proofs.TyLaws.{rank_made, least_none, least_more}
use Rattle.fut_types.proofs.ShapeLaws.{place_step, part_made}
use Rattle.fut_typing.specs.Names.{Names, AreNames, Once}
use Rattle.type_graph.specs.declared.Entry.{Entry}
use Rattle.type_graph.specs.Graph.{Each, Tables, chained, All_named, Lacks, Distinct}
use Rattle.type_graph.specs.Filling.{Rich}
use Rattle.type_answers.specs.Richness.{Named_labels, Names_are_rich}
use Rattle.type_answers.proofs.Opens.{all_each}

some_same : {X : Type 0} (x y : X) → Some x ≡ Some y → x ≡ y
some_same {X} x y e = ap (back x) e
  where
    back : X → Option X → X
    back d (Some z) = z
    back d None = d

none_some : {X : Type 0} (x : X) → None ≡ Some x → ⊥
none_some {X} x e = subst is_none e tt
  where
    is_none : Option X → Type 0
    is_none (Some z) = ⊥
    is_none None = Unit {0}

if_same : {X : Type 0} (x y : ℕ) (p q : X) → x ≡ y → (if x == y then p else q) ≡ p
if_same {X} x y p q e = ap (λ b. cond b p q) (eq-eqb x y e)

if_other : {X : Type 0} (x y : ℕ) (p q : X) → (x ≡ y → ⊥) → (if x == y then p else q) ≡ q
if_other {X} x y p q n = elim (eqb_tells x y) as (λ d. (if x == y then p else q) ≡ q) [ inl s ↦ absurd (n s.1) | inr s ↦ ap (λ b. cond b p q) s.0 ]

-- parts in the order of labels
abbrev in_order : (ℕ → Ty) → List ℕ → Tys
in_order f [] = none
in_order f (l ∷ ls) = more (f l) (in_order f ls)

contains_split : {X : Type 0} (x y : X) (ys : List X) → Contains (y ∷ ys) x → (y ≡ x) ⊎ Contains ys x
contains_split x y ys h = go h.0 h.1 h.2
  where
    go : (k : ℕ) → k < length (y ∷ ys) → slice_index_or (y ∷ ys) k x ≡ x → (y ≡ x) ⊎ Contains ys x
    go zero lt e = inl e
    go (suc k) lt e = inr (k, omega arith, e)

contains_here : {X : Type 0} (x : X) (ys : List X) → Contains (x ∷ ys) x
contains_here x ys = (0, omega arith, refl)

contains_there : {X : Type 0} (x y : X) (ys : List X) → Contains ys x → Contains (y ∷ ys) x
contains_there x y ys h = (suc h.0, (let l : h.0 < length ys = h.1 in omega arith), h.2)

-- the part under a label is found
placed : (f : ℕ → Ty) (l at : ℕ) (ls : List ℕ) → Contains ls l → (i : ℕ) × (place_from at l ls ≡ Some (at + i)) × (part_at (Some i) (in_order f ls) ≡ Some (f l))
unfolding part_at
placed f l at [] h = absurd (let lt : h.0 < 0 = h.1 in omega arith)
placed f l at (x ∷ xs) h = elim (ℕ_discrete x l) as (λ d. (i : ℕ) × (place_from at l (x ∷ xs) ≡ Some (at + i)) × (part_at (Some i) (in_order f (x ∷ xs)) ≡ Some (f l))) [
  | yes e ↦ (0, place_step at l x xs ∙ if_same x l _ _ e ∙ ap (λ n. Some n) (let z : at ≡ at + 0 = omega arith in z), ap (λ y. Some (f y)) e)
  | no ne ↦ elim (contains_split l x xs h) as (λ d. (i : ℕ) × (place_from at l (x ∷ xs) ≡ Some (at + i)) × (part_at (Some i) (in_order f (x ∷ xs)) ≡ Some (f l))) [
    | inl e ↦ absurd (ne e)
    | inr c ↦ let r = placed f l (suc at) xs c in (suc r.0, place_step at l x xs ∙ if_other x l _ _ ne ∙ r.1 ∙ ap (λ n. Some n) (let z : suc at + r.0 ≡ at + suc r.0 = omega arith in z), r.2)
  ]
]

part_in_order : (S : Shapes) (f : ℕ → Ty) (n l : ℕ) → Contains (S.fields n) l → HasPart S l (Made (head.Record n) (in_order f (S.fields n))) (f l)
unfolding place
part_in_order S f n l c =
    let r = placed f l 0 (S.fields n) c in
    part_made S l (head.Record n) (in_order f (S.fields n)) ∙ ap (λ o. part_at o (in_order f (S.fields n))) (r.1 ∙ ap (λ m. Some m) (let z : 0 + r.0 ≡ r.0 = omega arith in z)) ∙ r.2

least_in_order : (K : Kinds) (f : ℕ → Ty) (k : ℕ) → k ≤ 4 → (ls : List ℕ) → ((l : ℕ) → Contains ls l → k ≤ rank K (f l)) → k ≤ least K (in_order f ls)
least_in_order K f k le [] h = subst (λ m. k ≤ m) (sym (least_none K)) le
least_in_order K f k le (l ∷ ls) h = subst (λ m. k ≤ m) (sym (least_more K (f l) (in_order f ls)))
    (let p : k ≤ rank K (f l) = h l (contains_here l ls) in let q : k ≤ least K (in_order f ls) = least_in_order K f k le ls (λ m c. h m (contains_there m l ls c)) in omega arith)

order_agree : (f g : ℕ → Ty) (ls : List ℕ) → ((l : ℕ) → f l ≡ g l) → in_order f ls ≡ in_order g ls
order_agree f g [] h = refl
order_agree f g (l ∷ ls) h = λ i. more (h l i) (order_agree f g ls h i)

-- labels of a chain, and the child under one
module _ (entry : ℕ → Entry) where
  labels_of : ℕ → ℕ → List ℕ
  labels_of e zero = []
  labels_of e (suc n) = (entry e).label ∷ labels_of (entry e).next n

  child_of : Sub → ℕ → ℕ → ℕ → Ty
  child_of b e zero l = Var 0
  child_of b e (suc n) l = elim (ℕ_discrete (entry e).label l) as (λ d. Ty) [ yes z ↦ b (entry e).child | no ne ↦ child_of b (entry e).next n l ]

  child_here : (b : Sub) (e n l : ℕ) → (entry e).label ≡ l → child_of b e (suc n) l ≡ b (entry e).child
  unfolding child_of
  child_here b e n l z = elim (ℕ_discrete (entry e).label l) as (λ d. (elim d as (λ d. Ty) [ yes z ↦ b (entry e).child | no ne ↦ child_of b (entry e).next n l ]) ≡ b (entry e).child) [ yes y ↦ refl | no ne ↦ absurd (ne z) ]

  child_there : (b : Sub) (e n l : ℕ) → (entry e).label ≢ l → child_of b e (suc n) l ≡ child_of b (entry e).next n l
  unfolding child_of
  child_there b e n l ne = elim (ℕ_discrete (entry e).label l) as (λ d. (elim d as (λ d. Ty) [ yes z ↦ b (entry e).child | no ne ↦ child_of b (entry e).next n l ]) ≡ child_of b (entry e).next n l) [ yes y ↦ absurd (ne y) | no x ↦ refl ]

  child_agree : (b c : Sub) (e n l : ℕ) → Each (λ x. b x ≡ c x) (chained entry e n) → child_of b e n l ≡ child_of c e n l
  unfolding child_of chained
  child_agree b c e zero l h = refl
  child_agree b c e (suc n) l h = elim (ℕ_discrete (entry e).label l) as (λ d. (elim d as (λ d. Ty) [ yes z ↦ b (entry e).child | no ne ↦ child_of b (entry e).next n l ]) ≡ (elim d as (λ d. Ty) [ yes z ↦ c (entry e).child | no ne ↦ child_of c (entry e).next n l ])) [ yes y ↦ h.0 | no ne ↦ child_agree b c (entry e).next n l h.1 ]

  child_rank : (K : Kinds) (b : Sub) (k e n l : ℕ) → Each (λ c. k ≤ rank K (b c)) (chained entry e n) → Contains (labels_of e n) l → k ≤ rank K (child_of b e n l)
  unfolding labels_of chained
  child_rank K b k e zero l h c = absurd (let lt : c.0 < 0 = c.1 in omega arith)
  child_rank K b k e (suc n) l h c = elim (ℕ_discrete (entry e).label l) as (λ d. k ≤ rank K (child_of b e (suc n) l)) [
    | yes z ↦ subst (λ t. k ≤ rank K t) (sym (child_here b e n l z)) h.0
    | no ne ↦ subst (λ t. k ≤ rank K t) (sym (child_there b e n l ne)) (elim (contains_split l (entry e).label (labels_of (entry e).next n) c) as (λ x. k ≤ rank K (child_of b (entry e).next n l)) [ inl z ↦ absurd (ne z) | inr r ↦ child_rank K b k (entry e).next n l h.1 r ])
  ]

  -- g gives each label of the chain its child
  Gives : (ℕ → Ty) → Sub → ℕ → ℕ → Type 0
  Gives g b e zero = Unit {0}
  Gives g b e (suc n) = (g (entry e).label ≡ b (entry e).child) × Gives g b (entry e).next n

  gives_more : (g h : ℕ → Ty) (b : Sub) (x e n : ℕ) → ((l : ℕ) → x ≢ l → h l ≡ g l) → Lacks entry x e n → Gives g b e n → Gives h b e n
  unfolding Gives Lacks
  gives_more g h b x e zero eq l k = tt
  gives_more g h b x e (suc n) eq l k = (eq (entry e).label (λ z. l.0 (sym z)) ∙ k.0, gives_more g h b x (entry e).next n eq l.1 k.1)

  gives_children : (b : Sub) (e n : ℕ) → Distinct entry e n → Gives (child_of b e n) b e n
  unfolding Gives Distinct
  gives_children b e zero d = tt
  gives_children b e (suc n) d = (child_here b e n (entry e).label refl, gives_more (child_of b (entry e).next n) (child_of b e (suc n)) b (entry e).label (entry e).next n (λ l ne. child_there b e n l ne) d.0 (gives_children b (entry e).next n d.1))

  all_named : (S : Shapes) (g : ℕ → Ty) (b : Sub) (t : Ty) (e n : ℕ) → ((l : ℕ) → Contains (labels_of e n) l → HasPart S l t (g l)) → Gives g b e n → All_named S entry b t e n
  unfolding Gives All_named labels_of
  all_named S g b t e zero h k = tt
  all_named S g b t e (suc n) h k = (subst (HasPart S (entry e).label t) k.0 (h (entry e).label (contains_here (entry e).label (labels_of (entry e).next n))), all_named S g b t (entry e).next n (λ l c. h l (contains_there l (entry e).label (labels_of (entry e).next n) c)) k.1)

  -- it can be decided whether labels are distinct
  lacks_or : (x e n : ℕ) → Lacks entry x e n ⊎ (Lacks entry x e n → ⊥)
  unfolding Lacks
  lacks_or x e zero = inl tt
  lacks_or x e (suc n) = elim (ℕ_discrete (entry e).label x) as (λ d. (((entry e).label ≢ x) × Lacks entry x (entry e).next n) ⊎ ((((entry e).label ≢ x) × Lacks entry x (entry e).next n) → ⊥)) [
    | yes z ↦ inr (λ p. p.0 z)
    | no ne ↦ elim (lacks_or x (entry e).next n) as (λ d. (((entry e).label ≢ x) × Lacks entry x (entry e).next n) ⊎ ((((entry e).label ≢ x) × Lacks entry x (entry e).next n) → ⊥)) [ inl l ↦ inl (ne, l) | inr f ↦ inr (λ p. f p.1) ]
  ]

  distinct_or : (e n : ℕ) → Distinct entry e n ⊎ (Distinct entry e n → ⊥)
  unfolding Distinct
  distinct_or e zero = inl tt
  distinct_or e (suc n) = elim (lacks_or (entry e).label (entry e).next n) as (λ d. (Lacks entry (entry e).label (entry e).next n × Distinct entry (entry e).next n) ⊎ ((Lacks entry (entry e).label (entry e).next n × Distinct entry (entry e).next n) → ⊥)) [
    | inr f ↦ inr (λ p. f p.0)
    | inl l ↦ elim (distinct_or (entry e).next n) as (λ d. (Lacks entry (entry e).label (entry e).next n × Distinct entry (entry e).next n) ⊎ ((Lacks entry (entry e).label (entry e).next n × Distinct entry (entry e).next n) → ⊥)) [ inl k ↦ inl (l, k) | inr f ↦ inr (λ p. f p.1) ]
  ]

lt_or : (m n : ℕ) → (m < n) ⊎ (n ≤ m)
lt_or zero zero = inr (omega arith)
lt_or zero (suc n) = inl (omega arith)
lt_or (suc m) zero = inr (omega arith)
lt_or (suc m) (suc n) = elim (lt_or m n) as (λ x. (suc m < suc n) ⊎ (suc n ≤ suc m)) [ inl h ↦ inl (omega arith) | inr h ↦ inr (omega arith) ]

module _ (N : Names) (T : Tables) (last : ℕ) (are : AreNames N) (nl : Named_labels N T last) where
  text_at : ℕ → Text
  text_at e = elim (lt_or e last) as (λ d. Text) [ inl lt ↦ (nl e lt).0.0 | inr le ↦ [] ]

  text_label : (e : ℕ) → e < last → (T.entry e).label ≡ N.label (text_at e)
  unfolding text_at
  text_label e lt = elim (lt_or e last) as (λ d. (T.entry e).label ≡ N.label (elim d as (λ d. Text) [ inl lt ↦ (nl e lt).0.0 | inr le ↦ [] ])) [ inl l ↦ (nl e l).0.1 | inr le ↦ absurd (omega arith) ]

  texts : ℕ → ℕ → List Text
  texts e zero = []
  texts e (suc n) = text_at e ∷ texts (T.entry e).next n

  texts_labels : (e n : ℕ) → e < last → map N.label (texts e n) ≡ labels_of T.entry e n
  unfolding texts labels_of
  texts_labels e zero lt = refl
  texts_labels e (suc n) lt = λ i. sym (text_label e lt) i ∷ texts_labels (T.entry e).next n (nl e lt).1 i

  apart : (s : Text) (x e n : ℕ) → e < last → x ≡ N.label s → Lacks T.entry x e n → Each (λ r. s ≢ r) (texts e n)
  unfolding texts Lacks
  apart s x e zero lt z l = tt
  apart s x e (suc n) lt z l = ((λ q. l.0 (text_label e lt ∙ ap N.label (sym q) ∙ sym z)), apart s x (T.entry e).next n (nl e lt).1 z l.1)

  once : (e n : ℕ) → e < last → Distinct T.entry e n → Once (texts e n)
  unfolding texts Distinct
  once e zero lt d = λ i j x l m. absurd (omega arith)
  once e (suc n) lt d = AllPairs-cons (λ x y. x ≢ y) _ _ (all_each _ _ (apart (text_at e) (T.entry e).label (T.entry e).next n (nl e lt).1 (text_label e lt) d.0)) (once (T.entry e).next n (nl e lt).1 d.1)

  -- the record of a chain
  number : ℕ → ℕ → ℕ
  number e n = elim (lt_or e last) as (λ d. ℕ) [ inr le ↦ 0 | inl lt ↦ elim (distinct_or T.entry e n) as (λ d. ℕ) [ inr f ↦ 0 | inl d ↦ (are.every (texts e n) (once e n lt d)).0 ] ]

  fields : (e n : ℕ) → e < last → Distinct T.entry e n → (l : ℕ) → (Contains (N.shapes.fields (number e n)) l → Contains (labels_of T.entry e n) l) × (Contains (labels_of T.entry e n) l → Contains (N.shapes.fields (number e n)) l)
  unfolding number
  fields e n lt d l = elim (lt_or e last) as (λ x. (Contains (N.shapes.fields (elim x as (λ d. ℕ) [ inr le ↦ 0 | inl lt ↦ elim (distinct_or T.entry e n) as (λ d. ℕ) [ inr f ↦ 0 | inl d ↦ (are.every (texts e n) (once e n lt d)).0 ] ])) l → Contains (labels_of T.entry e n) l) × (Contains (labels_of T.entry e n) l → Contains (N.shapes.fields (elim x as (λ d. ℕ) [ inr le ↦ 0 | inl lt ↦ elim (distinct_or T.entry e n) as (λ d. ℕ) [ inr f ↦ 0 | inl d ↦ (are.every (texts e n) (once e n lt d)).0 ] ])) l)) [
    | inr le ↦ absurd (omega arith)
    | inl l1 ↦ elim (distinct_or T.entry e n) as (λ x. (Contains (N.shapes.fields (elim x as (λ d. ℕ) [ inr f ↦ 0 | inl d ↦ (are.every (texts e n) (once e n l1 d)).0 ])) l → Contains (labels_of T.entry e n) l) × (Contains (labels_of T.entry e n) l → Contains (N.shapes.fields (elim x as (λ d. ℕ) [ inr f ↦ 0 | inl d ↦ (are.every (texts e n) (once e n l1 d)).0 ])) l)) [
      | inr f ↦ absurd (f d)
      | inl d1 ↦ let r = (are.every (texts e n) (once e n l1 d1)).1 l in ((λ c. subst (λ ls. Contains ls l) (texts_labels e n lt) (r.0 c)), (λ c. r.1 (subst (λ ls. Contains ls l) (sym (texts_labels e n lt)) c)))
    ]
  ]

  rich_here : T.shapes ≡ N.shapes → Rich T last
  rich_here eq = record {
    pick = λ b e n. Made (head.Record (number e n)) (in_order (child_of T.entry b e n) (N.shapes.fields (number e n)));
    same = λ b c e n h. ap (Made (head.Record (number e n))) (order_agree (child_of T.entry b e n) (child_of T.entry c e n) (N.shapes.fields (number e n)) (λ l. child_agree T.entry b c e n l h));
    named = λ b e n pos lt d. subst (λ S. All_named S T.entry b (Made (head.Record (number e n)) (in_order (child_of T.entry b e n) (N.shapes.fields (number e n)))) e n) (sym eq)
        (all_named T.entry N.shapes (child_of T.entry b e n) b (Made (head.Record (number e n)) (in_order (child_of T.entry b e n) (N.shapes.fields (number e n)))) e n (λ l c. part_in_order N.shapes (child_of T.entry b e n) (number e n) l ((fields e n lt d l).1 c)) (gives_children T.entry b e n d));
    kinds = λ b e n pos lt d K k le h. subst (λ m. k ≤ m) (sym (rank_made K (head.Record (number e n)) (in_order (child_of T.entry b e n) (N.shapes.fields (number e n)))))
        (let q : k ≤ least K (in_order (child_of T.entry b e n) (N.shapes.fields (number e n))) = least_in_order K (child_of T.entry b e n) k (omega arith) (N.shapes.fields (number e n)) (λ l c. child_rank T.entry K b k e n l h ((fields e n lt d l).0 c)) in omega arith);
  }

pub rich : Names_are_rich
rich N T last are eq nl = rich_here N T last are nl eq
