-- Two numberings in which records have their parts in one order: each record of the one is one of the other, there and back, and a
-- typing of a program under the one is a typing under the other.
use Rattle.std.proofs.Common.{◌≡◌, ◌↔◌, ℕ, zero, suc, ◌+◌, ◌≤◌, ◌<◌, min, List, [], ◌∷◌, length, map, slice_index_or, refl, sym, ap, ◌∙◌, subst, arith}
use Rattle.std.specs.List.{All, AllPairs, Contains}
use mathlib.Core.Logic.{inl, inr}
use Rattle.fut_ast.specs.Sorts.{Text}
use Rattle.fut_types.specs.declared.Kind.{Kind}
use Rattle.fut_types.specs.declared.Kind.TheVariants as kind
use Rattle.fut_types.specs.declared.Head.{Head}
use Rattle.fut_types.specs.declared.Head.TheVariants as head
use Rattle.fut_types.specs.Types.{Ty, Var, Made, Tys, none, more, Sub, Kinds, HasKind, level, cap, rank, least, applied, all_applied}
use Rattle.fut_types.specs.Shapes.{place, part_at, part_named, HasPart}
use Rattle.fut_typing.specs.Names.{Names, AreNames, Once, count, Parts_named, IsRecord}
use Rattle.fut_typing.specs.Program.{Defined, program_numbers, Program_typed}
use Rattle.fut_typing.specs.Answers.{Open, Met, Principal, Stands, Stands_in, default_at, default, Typing_is}
use Rattle.fut_typing.proofs.Members.{In, in_list, list_in}
unfoldable use Rattle.typing_laws.proofs.Moved.{moved, all_moved}
use Rattle.typing_laws.proofs.Moved.{Turn, Faithful}
use Rattle.typing_laws.proofs.Lists.{relabelled, names, names_are}
use Rattle.typing_laws.proofs.Typings.{program_moves}
use Rattle.sizing_laws.specs.Renumbering.{Same_names, One_record, Renumbers, renumbered_head, renumbered_type, renumbered_types}
use Rattle.sizing_laws.specs.Claims.{TypingIsOne}
use Rattle.sizing_laws.proofs.Written.{place_same}
use Rattle.sizing_laws.proofs.Stars.{if_type, part_at_to}

-- ---- the record of the same names

long_map : (f : Text → ℕ) (fs : List Text) → length (map f fs) ≡ length fs
long_map f [] = refl
long_map f (x ∷ fs) = ap suc (long_map f fs)

map_at : (f : Text → ℕ) (fs : List Text) (i : ℕ) (d : Text) → slice_index_or (map f fs) i (f d) ≡ f (slice_index_or fs i d)
map_at f [] i d = refl
map_at f (x ∷ fs) zero d = refl
map_at f (x ∷ fs) (suc i) d = map_at f fs i d

-- names whose labels are apart are apart
once_back : (f : Text → ℕ) (fs : List Text) → Once (map f fs) → Once fs
once_back f fs once i j d lt within e = once i j (f d) lt (let z : length (map f fs) ≡ length fs = long_map f fs in omega arith) (map_at f fs i d ∙ ap f e ∙ sym (map_at f fs j d))

module _ (M N : Names) (m : AreNames M) (n : AreNames N) where
  found_record : (r : ℕ) → (q : ℕ) × ((l : ℕ) → Contains (N.shapes.fields q) l ↔ Contains (map N.label (names M m r)) l)
  found_record r = n.every (names M m r) (once_back M.label (names M m r) (subst Once (sym (names_are M m r)) (m.once r)))

  pub record_of : ℕ → ℕ
  record_of r = (found_record r).0

  one_record : (r : ℕ) → One_record M N r (record_of r)
  unfolding record_of
  one_record r s = (
    λ h. ((found_record r).1 (N.label s)).1 (list_in (map N.label (names M m r)) (N.label s) (relabelled M N m (names M m r) s (subst (In (M.label s)) (sym (names_are M m r)) (in_list (M.shapes.fields r) (M.label s) h)))),
    λ h. list_in (M.shapes.fields r) (M.label s) (subst (In (M.label s)) (names_are M m r) (relabelled N M n (names M m r) s (in_list (map N.label (names M m r)) (N.label s) (((found_record r).1 (N.label s)).0 h)))),
  )

-- ---- with renumbered records all is as it was

module _ (number : ℕ → ℕ) where
  abbrev to_type : Ty → Ty
  to_type = renumbered_type number

  abbrev to_types : Tys → Tys
  to_types = renumbered_types number

  abbrev turn : Turn
  turn r ts = Made (head.Record (number r)) ts

  mutual
    unfolding moved

    moved_to : (t : Ty) → moved turn t ≡ to_type t
    moved_to (Var v) = refl
    moved_to (Made (head.Record r) ts) = ap (Made (head.Record (number r))) (all_moved_to ts)
    moved_to (Made (head.Scalar s) ts) = ap (Made (head.Scalar s)) (all_moved_to ts)
    moved_to (Made head.Array ts) = ap (Made head.Array) (all_moved_to ts)
    moved_to (Made head.Tuple ts) = ap (Made head.Tuple) (all_moved_to ts)
    moved_to (Made head.Fun ts) = ap (Made head.Fun) (all_moved_to ts)
    moved_to (Made (head.Rigid r k) ts) = ap (Made (head.Rigid r k)) (all_moved_to ts)
    moved_to (Made (head.Abstract r d) ts) = ap (Made (head.Abstract r d)) (all_moved_to ts)

    all_moved_to : (ts : Tys) → all_moved turn ts ≡ to_types ts
    all_moved_to none = refl
    all_moved_to (more t ts) = λ i. more (moved_to t i) (all_moved_to ts i)

  cap_same : (h : Head) → cap (renumbered_head number h) ≡ cap h
  cap_same (head.Record r) = refl
  cap_same h = refl

  mutual
    unfolding rank

    rank_same : (K : Kinds) (t : Ty) → rank K (to_type t) ≡ rank K t
    rank_same K (Var v) = refl
    rank_same K (Made h ts) = λ i. min (cap_same h i) (least_same K ts i)

    least_same : (K : Kinds) (ts : Tys) → least K (to_types ts) ≡ least K ts
    least_same K none = refl
    least_same K (more t ts) = λ i. min (rank_same K t i) (least_same K ts i)

  kind_same : (K : Kinds) (k : Kind) (t : Ty) → HasKind K k t → HasKind K k (to_type t)
  kind_same K k t h = subst (λ n. level k ≤ n) (sym (rank_same K t)) h

  mutual
    unfolding applied

    applied_to : (by other : Sub) → ((v : ℕ) → other v ≡ to_type (by v)) → (t : Ty) → to_type (applied by t) ≡ applied other (to_type t)
    applied_to by other e (Var v) = sym (e v)
    applied_to by other e (Made h ts) = ap (Made (renumbered_head number h)) (all_applied_to by other e ts)

    all_applied_to : (by other : Sub) → ((v : ℕ) → other v ≡ to_type (by v)) → (ts : Tys) → to_types (all_applied by ts) ≡ all_applied other (to_types ts)
    all_applied_to by other e none = refl
    all_applied_to by other e (more t ts) = λ i. more (applied_to by other e t i) (all_applied_to by other e ts i)

  mutual
    stands_back : (v : ℕ) (t : Ty) → Stands v (to_type t) → Stands v t
    stands_back v (Var w) h = h
    stands_back v (Made k ts) h = all_stand_back v ts h

    all_stand_back : (v : ℕ) (ts : Tys) → Stands_in v (to_types ts) → Stands_in v ts
    all_stand_back v none h = h
    all_stand_back v (more t ts) (inl h) = inl (stands_back v t h)
    all_stand_back v (more t ts) (inr h) = inr (all_stand_back v ts h)

  default_same : (v : ℕ) (k : Kind) → default_at v k ≡ to_type (default_at v k)
  default_same v kind.Integer = refl
  default_same v k = refl

  count_same : (ts : Tys) → count (to_types ts) ≡ count ts
  count_same none = refl
  count_same (more t ts) = ap (λ k. 1 + k) (count_same ts)

-- there and back
module _ (number back : ℕ → ℕ) (round : (r : ℕ) → number (back r) ≡ r) where
  head_round : (h : Head) → renumbered_head number (renumbered_head back h) ≡ h
  head_round (head.Record r) = ap head.Record (round r)
  head_round (head.Scalar s) = refl
  head_round head.Array = refl
  head_round head.Tuple = refl
  head_round head.Fun = refl
  head_round (head.Rigid r k) = refl
  head_round (head.Abstract r d) = refl

  mutual
    type_round : (t : Ty) → renumbered_type number (renumbered_type back t) ≡ t
    type_round (Var v) = refl
    type_round (Made h ts) = λ i. Made (head_round h i) (types_round ts i)

    types_round : (ts : Tys) → renumbered_types number (renumbered_types back ts) ≡ ts
    types_round none = refl
    types_round (more t ts) = λ i. more (type_round t i) (types_round ts i)

module _ (M N : Names) where
  same_long : (ks ls : List ℕ) → Same_names M N ks ls → length ls ≡ length ks
  same_long [] [] h = refl
  same_long (k ∷ ks) (l ∷ ls) h = ap suc (same_long ks ls h.1)
  same_long (k ∷ ks) [] h = absurd h
  same_long [] (l ∷ ls) h = absurd h

  turned_names : (ks ls : List ℕ) → Same_names M N ks ls → Same_names N M ls ks
  turned_names [] [] h = tt
  turned_names (k ∷ ks) (l ∷ ls) h = ((h.0.0, h.0.2, h.0.1), turned_names ks ls h.1)
  turned_names (k ∷ ks) [] h = absurd h
  turned_names [] (l ∷ ls) h = absurd h

-- what is typed under the one is typed under the other
module _ (M N : Names) (m : AreNames M) (n : AreNames N) (number : ℕ → ℕ) (renumbers : Renumbers M N number) where
  part_kept : (s : Text) (t u : Ty) → HasPart M.shapes (M.label s) t u → HasPart N.shapes (N.label s) (renumbered_type number t) (renumbered_type number u)
  unfolding part_named
  part_kept s (Made h ts) u e = (λ i. part_at (place_same M N m n number renumbers s h i) (renumbered_types number ts)) ∙ part_at_to number (λ v. v) (place M.shapes (M.label s) h) ts ∙ ap (if_type number (λ v. v)) e
  part_kept s (Var v) u e = absurd cc

  parts_kept : (fs : List Text) (t : Ty) (us : Tys) → Parts_named M fs t us → Parts_named N fs (renumbered_type number t) (renumbered_types number us)
  parts_kept [] t none h = tt
  parts_kept [] t (more u us) h = absurd h
  parts_kept (f ∷ fs) t none h = absurd h
  parts_kept (f ∷ fs) t (more u us) h = (part_kept f t u h.0, parts_kept fs t us h.1)

  row_kept : (fs : List Text) (t : Ty) (us : Tys) → IsRecord M fs t us → IsRecord N fs (renumbered_type number t) (renumbered_types number us)
  row_kept fs t us r = record {
    once = r.once;
    number = number r.number;
    parts = renumbered_types number r.parts;
    made = ap (renumbered_type number) r.made;
    fields = same_long M N (M.shapes.fields r.number) (N.shapes.fields (number r.number)) (renumbers r.number) ∙ r.fields;
    all = count_same number r.parts ∙ r.all;
    named = parts_kept fs t us r.named;
  }

  faithful : Faithful M N (turn number)
  faithful = record {
    kind = λ K k t h. subst (HasKind K k) (sym (moved_to number t)) (kind_same number K k t h);
    part = λ s t u h. subst (λ (x : Ty × Ty). HasPart N.shapes (N.label s) x.0 x.1) (λ i. (sym (moved_to number t) i, sym (moved_to number u) i)) (part_kept s t u h);
    row = λ fs t us h. subst (λ (x : Ty × Tys). IsRecord N fs x.0 x.1) (λ i. (sym (moved_to number t) i, sym (all_moved_to number us) i)) (row_kept fs t us h);
  }

  pub typed_kept : (places : Kind) (ds : List Defined) (K : Kinds) (a : Sub) → Program_typed M places ds K a → Program_typed N places ds K (λ k. renumbered_type number (a k))
  typed_kept places ds K a h = subst (Program_typed N places ds K) (λ i k. moved_to number (a k) i) (program_moves M N (turn number) faithful places ds K a h)

-- ---- typings

module _ (M N : Names) (m : AreNames M) (n : AreNames N) (number back : ℕ → ℕ) (there : Renumbers M N number) (again : Renumbers N M back) (round : (r : ℕ) → number (back r) ≡ r) (ds : List Defined) (types : Sub) (t : Typing_is M ds types) where
  abbrev p : Principal M.shapes (program_numbers ds) (Program_typed M kind.Data ds)
  p = t.principal

  abbrev go : Ty → Ty
  go = renumbered_type number

  none_met : (S : _) (by : Sub) (os : List Open) → os ≡ [] → All (Met S by) os
  none_met S by os e = subst (All (Met S by)) (sym e) (λ i d lt. absurd (omega arith))

  once_none : AllPairs (λ (o p : Open). o.variable ≡ p.variable → (o.label ≡ p.label → ⊥)) []
  once_none i j d lt within = absurd (omega arith)

  given_back : (K : Kinds) (a : Sub) → Program_typed N kind.Data ds K a → (by : Sub) × ((v : ℕ) → HasKind K (p.kinds v) (by v)) × All (Met N.shapes by) [] × ((k : ℕ) → k < program_numbers ds → a k ≡ applied by (go (p.types k)))
  given_back K a h =
      let w = p.instance K (λ k. renumbered_type back (a k)) (typed_kept N M n m back again kind.Data ds K a h) in (
        λ v. go (w.0 v),
        λ v. kind_same number K (p.kinds v) (w.0 v) (w.1 v),
        none_met N.shapes (λ v. go (w.0 v)) [] refl,
        λ k lt. sym (type_round number back round (a k)) ∙ ap go (w.3 k lt) ∙ applied_to number w.0 (λ v. go (w.0 v)) (λ v. refl) (p.types k),
      )

  typed_by : (K : Kinds) (by : Sub) → ((v : ℕ) → HasKind K (p.kinds v) (by v)) → All (Met N.shapes by) [] → Program_typed N kind.Data ds K (λ k. applied by (go (p.types k)))
  typed_by K by kinds h = subst (Program_typed N kind.Data ds K) (λ i k. (applied_to number (λ v. renumbered_type back (by v)) by (λ v. sym (type_round number back round (by v))) (p.types k)) i)
      (typed_kept M N m n number there kind.Data ds K (λ k. applied (λ v. renumbered_type back (by v)) (p.types k))
      (p.typing K (λ v. renumbered_type back (by v)) (λ v. kind_same back K (p.kinds v) (by v) (kinds v)) (none_met M.shapes (λ v. renumbered_type back (by v)) p.opens t.closed)))

  pub typing_again : Typing_is N ds (λ k. go (types k))
  typing_again = record {
    principal = record { kinds = p.kinds; types = λ k. go (p.types k); opens = []; once = once_none; instance = given_back; typing = typed_by };
    closed = refl;
    settled = λ k v lt h. t.settled k v lt (stands_back number v (p.types k) h);
    is = λ k lt. ap go (t.is k lt) ∙ applied_to number (default p.kinds) (default p.kinds) (λ v. default_same number v (p.kinds v)) (p.types k);
  }

pub typing_is_one : TypingIsOne
typing_is_one M N m n order ds types t =
    let number : ℕ → ℕ = record_of M N m n in
    let back : ℕ → ℕ = record_of N M n m in
    let there : Renumbers M N number = λ r. order r (number r) (one_record M N m n r) in
    let again : Renumbers N M back = λ q. turned_names M N (M.shapes.fields (back q)) (N.shapes.fields q) (order (back q) q (λ s. let e = one_record N M n m q s in (e.1, e.0))) in
    record { number = number; renumbers = there; typing = typing_again M N m n number back there again (λ q. round q) ds types t }
  where
    round : (q : ℕ) → record_of M N m n (record_of N M n m q) ≡ q
    round q = n.one_record (record_of M N m n (record_of N M n m q)) q (λ l. (
      λ h. let s = n.named (record_of M N m n (record_of N M n m q)) l h in subst (Contains (N.shapes.fields q)) (sym s.1) ((one_record N M n m q s.0).1 ((one_record M N m n (record_of N M n m q) s.0).1 (subst (Contains (N.shapes.fields (record_of M N m n (record_of N M n m q)))) s.1 h))),
      λ h. let s = n.named q l h in subst (Contains (N.shapes.fields (record_of M N m n (record_of N M n m q)))) (sym s.1) ((one_record M N m n (record_of N M n m q) s.0).0 ((one_record N M n m q s.0).0 (subst (Contains (N.shapes.fields q)) s.1 h))),
    ))
