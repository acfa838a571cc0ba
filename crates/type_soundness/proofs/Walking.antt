-- The walk of a typed term is never lost, and what is known of its value is known by its type.
use Rattle.std.proofs.Common.{◌≡◌, Bool, true, false, not, cond, ℕ, ◌+◌, max, refl, sym, ap, ◌∙◌, subst, arith, List, Some, None}
use Rattle.fut_scalar.specs.declared.place.BindId.{BindId}
use Rattle.fut_scalar.specs.declared.place.Place.{Place}
use Rattle.fut_scalar.specs.declared.scalar.IntType.TheVariants as int
use Rattle.fut_scalar.specs.declared.scalar.ScalarType.TheVariants as types
use Rattle.fut_flat.specs.declared.prim.Ref.{Ref}
use Rattle.fut_flat.specs.declared.prim.Ref.TheVariants as ref
use Rattle.fut_flat.specs.Terms.{Bound_pattern, Wild_pattern, Tuple_pattern, Record_pattern, Typed_pattern, Patterns, Operation, Assert, Use, Strict, Lambda, Apply, Let, If, Loop, Terms, no_term, term_and, Counted, Over, While}
use Rattle.fut_flat.specs.Numbers.{numbers}
use Rattle.fut_flat.specs.Erased.{FlatTerm, FlatPattern, FlatTurns}
use Rattle.fut_types.specs.declared.Kind.TheVariants as kind
use Rattle.fut_types.specs.Types.{Ty, Tys, none, more, Sub, Kinds, HasKind, fun_ty}
use Rattle.fut_typing.specs.Names.{Names, AreNames, count}
use Rattle.fut_typing.specs.Primitives.{bool_ty, i64_ty}
use Rattle.fut_typing.specs.Scopes.{Scope, Used}
use Rattle.fut_typing.specs.Typing.{term_types, FlatBinding}
use Rattle.fut_meaning.specs.Knowns.{Known, Data, Known_function, Knowns, known_none, known_and, Scope as Seen, known_as, find, known_primitive, or_else, or_size, known_use, is_data, known_result, known_bound, data_bound}
use Rattle.fut_meaning.specs.Walk.{is_assertion, is_let, Visits, v_use, v_strict, v_declared, v_lambda, v_apply, v_lets, v_assert, v_if, v_loop, All_visits, v_none, v_more, Row_visits, v_let, v_body, Turn_visits, v_counted, v_over, v_while}
use Rattle.fut_meaning.specs.Comes.{Inside_all, in_here, in_rest, Inside_row, in_value, in_next, in_row_body, Inside_turns, in_counted, in_over, in_while, in_part, in_function, in_argument, in_body_run, in_lets, in_condition, in_guarded, in_if, in_then, in_else, in_first, in_turns, in_loop_body, comes_here, comes_in_declared, comes_on, Stuck_row, no_pattern_here, no_pattern_later, Stuck_turns, no_count, no_rows, no_condition, no_name, no_result, no_run, no_row, asserted_function, if_function, then_function, else_function, first_function, no_turns, body_function}
use Rattle.fut_meaning.proofs.Walk.{some_same, none_some, opposite}
use Rattle.type_soundness.specs.Knows.{Clear, Never_lost, Runs_well, Knows, All_know, Name_known, Names_known}
use Rattle.type_soundness.specs.Meant.{how_many, Use_meant}
use Rattle.type_soundness.proofs.Knowing.{is_no_data, kind_data, kind_only}
use Rattle.type_soundness.proofs.Seeing.{Binds}
use Rattle.type_soundness.proofs.Resulting.{scalar_data, Gives}
use Rattle.type_soundness.proofs.Giving.{known_function, prim_known}

pub as_many : (a : Sub) (ts : Terms Ref BindId) (lo : ℕ) → count (term_types a ts lo) ≡ how_many ts
as_many a no_term lo = refl
as_many a (term_and t ts) lo = let r = as_many a ts (lo + numbers t) in omega (arith, r)

module _ (N : Names) (S : ℕ → Bool) (are : AreNames N) (P : ℕ → Type 0) (K : Kinds) where
  abbrev In_scope : Seen → Scope → Sub → Seen → Type 0
  In_scope tops scope a sc = Names_known N S tops P scope K a sc

  -- the walk of a term is never lost, and what is known of its value is known by this type
  abbrev pub Walks : Seen → Seen → FlatTerm → Ty → Type 0
  Walks tops sc e t = Never_lost tops sc e × ((s : Known) (m d : ℕ) → Visits tops sc e s m d → Knows N S t tops s)

  knows_as : (tops : Seen) (t u : Ty) (s : Known) → t ≡ u → Knows N S t tops s → Knows N S u tops s
  knows_as tops t u s e h = subst (λ x. Knows N S x tops s) e h

  pub walks_as : (tops sc : Seen) (e : FlatTerm) (t u : Ty) → t ≡ u → Walks tops sc e t → Walks tops sc e u
  walks_as tops sc e t u same w = subst (Walks tops sc e) same w

  -- ---- names
  -- of a size nothing is bound, and it is data
  size_knows : (tops sc : Seen) (b : ℕ) (t : Ty) → Clear S tops → Clear S sc → S b ≡ true → t ≡ i64_ty → (s : Known) × (Some (or_size (or_else (find sc b) (find tops b))) ≡ Some s) × Knows N S t tops s
  size_knows tops sc b t c d is e = (
    Data,
    ap (λ z. Some (or_size (or_else z (find tops b)))) (d b is) ∙ ap (λ z. Some (or_size z)) (c b is),
    subst (λ x. Knows N S x tops Data) (sym e) (kind_data N S K i64_ty tops (scalar_data K (types.Int int.I64))),
  )

  pub use_knows : (tops sc : Seen) (scope : Scope) (a : Sub) (r : Ref) (t : Ty) → Use_meant P r → Used kind.Data scope K a r t → In_scope tops scope a sc → (s : Known) × (known_use tops sc r ≡ Some s) × Knows N S t tops s
  unfolding known_use
  use_knows tops sc scope a (ref.Bound b) t m u h = by_number (S b.0) refl (h.known b.0 m t u)
    where
      by_number : (is : Bool) → S b.0 ≡ is → Name_known N S tops t (or_else (find sc b.0) (find tops b.0)) is → (s : Known) × (Some (or_size (or_else (find sc b.0) (find tops b.0))) ≡ Some s) × Knows N S t tops s
      by_number true is e = size_knows tops sc b.0 t h.definitions_clear h.locals_clear is e
      by_number false is k = (k.0, ap (λ z. Some (or_size z)) k.1, k.2)
  use_knows tops sc scope a (ref.Prim p) t m u h = (known_primitive p, refl, subst (λ y. Knows N S y tops (known_primitive p)) (sym u.2) (prim_known N S K u.0 u.1 p tops))
  use_knows tops sc scope a (ref.Scalar s) t m u h = absurd u

  pub use_walks : (tops sc : Seen) (r : Ref) (at : Place) (k : ℕ) (t : Ty) → ((s : Known) × (known_use tops sc r ≡ Some s) × Knows N S t tops s) → Walks tops sc (Use r at k) t
  use_walks tops sc r at k t u = ((λ n j sc' e c l. lost n j sc' e c l), (λ s m d v. known s m d v))
    where
      lost : Never_lost tops sc (Use r at k)
      lost _ _ _ _ comes_here (no_name e) = none_some u.1 e
      lost _ _ _ _ (comes_on i c) l = elim i [ ]

      known : (s : Known) (m d : ℕ) → Visits tops sc (Use r at k) s m d → Knows N S t tops s
      known s _ _ (v_use e) = subst (λ x. Knows N S t tops x) (some_same (sym u.1 ∙ e)) u.2

  -- ---- operations
  -- of terms in a row
  abbrev pub All_walk : Seen → Seen → Terms Ref BindId → Tys → Type 0
  All_walk tops sc ts us = ((n : ℕ) (sc' : Seen) (t : FlatTerm) → Inside_all tops sc ts n sc' t → Never_lost tops sc' t) × ((ss : Knowns) (m d : ℕ) → All_visits tops sc ts ss m d → All_know N S us tops ss)

  pub none_walk : (tops sc : Seen) → All_walk tops sc no_term none
  unfolding All_know
  none_walk tops sc = ((λ n sc' t i. inside n sc' t i), (λ ss m d v. known ss m d v))
    where
      inside : (n : ℕ) (sc' : Seen) (t : FlatTerm) → Inside_all tops sc no_term n sc' t → Never_lost tops sc' t
      inside n sc' t i = elim i [ ]

      known : (ss : Knowns) (m d : ℕ) → All_visits tops sc no_term ss m d → All_know N S none tops ss
      known _ _ _ v_none = tt

  pub more_walk : (tops sc : Seen) (t : FlatTerm) (ts : Terms Ref BindId) (u : Ty) (us : Tys) → Walks tops sc t u → All_walk tops sc ts us → All_walk tops sc (term_and t ts) (more u us)
  unfolding All_know
  more_walk tops sc t ts u us w all = ((λ n sc' e i. inside n sc' e i), (λ ss m d v. known ss m d v))
    where
      inside : (n : ℕ) (sc' : Seen) (e : FlatTerm) → Inside_all tops sc (term_and t ts) n sc' e → Never_lost tops sc' e
      inside _ _ _ in_here = w.0
      inside _ sc' e (in_rest {n = n} v i) = all.0 n sc' e i

      known : (ss : Knowns) (m d : ℕ) → All_visits tops sc (term_and t ts) ss m d → All_know N S (more u us) tops ss
      known _ _ _ (v_more {s = s} {ss = ss} {m = m} {d = d} {m' = m'} {d' = d'} v vs) = (w.1 s m d v, all.1 ss m' d' vs)

  module _ (tops sc : Seen) where
    pub strict_lost : (o : Operation Ref BindId) (mark : Place) (ts : Terms Ref BindId) (us : Tys) (t : Ty) → All_walk tops sc ts us → ((ss : Knowns) → All_know N S us tops ss → Gives N S are tops o ss t) → Never_lost tops sc (Strict o mark ts)
    strict_lost o mark ts us t all gives _ _ _ _ comes_here (no_result {ss = ss} {m = m} {d = d} n v e) = let g = gives ss (all.1 ss m d v) in none_some g.1 e
    strict_lost _ mark _ us t all gives _ _ _ _ (comes_in_declared {t = e} c) l = all.0 _ _ e in_here _ _ _ _ c l
    strict_lost o mark ts us t all gives _ _ _ _ (comes_on (in_part {sc' = sc'} {t = e} {n = n} f i) c) l = all.0 n sc' e i _ _ _ _ c l

    pub strict_known : (o : Operation Ref BindId) (mark : Place) (ts : Terms Ref BindId) (us : Tys) (t : Ty) → All_walk tops sc ts us → ((ss : Knowns) → All_know N S us tops ss → Gives N S are tops o ss t) → (s : Known) (m d : ℕ) → Visits tops sc (Strict o mark ts) s m d → Knows N S t tops s
    unfolding known_result
    strict_known o mark ts us t all gives s _ _ (v_strict {ss = ss} {m = m} {d = d} n v e) = let g = gives ss (all.1 ss m d v) in subst (λ x. Knows N S t tops x) (some_same (sym g.1 ∙ e)) g.2
    strict_known _ mark _ us t all gives s _ _ (v_declared {m = m} {d = d} v) = let g = gives (known_and s known_none) (all.1 (known_and s known_none) _ _ (v_more v v_none)) in subst (λ x. Knows N S t tops x) (sym (some_same g.1)) g.2

    -- ---- functions
    pub apply_walks : (f e : FlatTerm) (t u : Ty) → Clear S tops → Walks tops sc f (fun_ty t u) → Walks tops sc e t → Walks tops sc (Apply f e) u
    apply_walks f e t u clear wf we = ((λ n k sc' x c l. lost n k sc' x c l), (λ s m d v. known s m d v))
      where
        well : (h s : Known) (m d m1 d1 : ℕ) → Visits tops sc f h m d → Visits tops sc e s m1 d1 → Runs_well tops h s (Knows N S u tops)
        well h s m d m1 d1 v w = known_function N S K t u tops clear h (wf.1 h m d v) s (we.1 s m1 d1 w)

        lost : Never_lost tops sc (Apply f e)
        lost _ _ _ _ comes_here (no_run {h = h} {s = s} {m = m} {d = d} {m1 = m1} {d1 = d1} v w stuck) = (well h s m d m1 d1 v w).0 stuck
        lost _ _ _ _ (comes_on in_function c) l = wf.0 _ _ _ _ c l
        lost _ _ _ _ (comes_on (in_argument v) c) l = we.0 _ _ _ _ c l
        lost _ _ _ _ (comes_on (in_body_run {sc' = sc'} {t = x} {h = h} {s = s} {m = m} {d = d} {m1 = m1} {d1 = d1} {n = n} v w i) c) l = (well h s m d m1 d1 v w).1 n sc' x i _ _ _ _ c l

        known : (s : Known) (m d : ℕ) → Visits tops sc (Apply f e) s m d → Knows N S u tops s
        known s' _ _ (v_apply {h = h} {s = s} {m = m} {d = d} {m1 = m1} {d1 = d1} {m2 = m2} {d2 = d2} v w r) = (well h s m d m1 d1 v w).2 s' m2 d2 r

    pub lambda_walks : (ps : Patterns Ref BindId) (e : FlatTerm) (t : Ty) → Knows N S t tops (Known_function ps e sc) → Walks tops sc (Lambda ps e) t
    lambda_walks ps e t h = ((λ n k sc' x c l. lost n k sc' x c l), (λ s m d v. known s m d v))
      where
        lost : Never_lost tops sc (Lambda ps e)
        lost _ _ _ _ comes_here l = elim l [ ]
        lost _ _ _ _ (comes_on i c) l = elim i [ ]

        known : (s : Known) (m d : ℕ) → Visits tops sc (Lambda ps e) s m d → Knows N S t tops s
        known _ _ _ v_lambda = h

    -- ---- branches
    pub if_walks : (c a b : FlatTerm) (t : Ty) → HasKind K kind.Data t → Walks tops sc c bool_ty → Walks tops sc a t → Walks tops sc b t → Walks tops sc (If c a b) t
    if_walks c a b t k wc wa wb = ((λ n j sc' x y l. lost n j sc' x y l), (λ s m d v. known s m d v))
      where
        data_here : (e : FlatTerm) (u : Ty) → HasKind K kind.Data u → Walks tops sc e u → (s : Known) (m d : ℕ) → Visits tops sc e s m d → is_data s ≡ false → ⊥
        data_here e u q w s m d v n = is_no_data (kind_only N S K u tops s q (w.1 s m d v)) n

        lost : Never_lost tops sc (If c a b)
        lost _ _ _ _ comes_here (if_function {s = s} {m = m} {d = d} v n) = data_here c bool_ty (scalar_data K types.Bool) wc s m d v n
        lost _ _ _ _ comes_here (then_function {s = s} {m = m} {d = d} v n) = data_here a t k wa s m d v n
        lost _ _ _ _ comes_here (else_function {s = s} {m = m} {d = d} v n) = data_here b t k wb s m d v n
        lost _ _ _ _ (comes_on in_if y) l = wc.0 _ _ _ _ y l
        lost _ _ _ _ (comes_on (in_then v) y) l = wa.0 _ _ _ _ y l
        lost _ _ _ _ (comes_on (in_else v w) y) l = wb.0 _ _ _ _ y l

        known : (s : Known) (m d : ℕ) → Visits tops sc (If c a b) s m d → Knows N S t tops s
        known _ _ _ (v_if v w z) = kind_data N S K t tops k

    -- ---- rows of lets
    abbrev pub Row_walks : FlatTerm → Ty → Type 0
    Row_walks e t = (Stuck_row tops sc e → ⊥) × ((n : ℕ) (sc' : Seen) (x : FlatTerm) → Inside_row tops sc e n sc' x → Never_lost tops sc' x) × ((s : Known) (m d : ℕ) → Row_visits tops sc e s m d → Knows N S t tops s)

    -- a term that is no let, as the body of a row
    pub body_walks : (e : FlatTerm) (t : Ty) → is_let e ≡ false → Walks tops sc e t → Row_walks e t
    body_walks e t plain w = ((λ x. stuck e plain x), (λ n sc' x i. inside e plain w n sc' x i), (λ s m d v. known e plain w s m d v))
      where
        stuck : (e : FlatTerm) → is_let e ≡ false → Stuck_row tops sc e → ⊥
        stuck _ plain (no_pattern_here l v f) = opposite l plain
        stuck _ plain (no_pattern_later l v f x) = opposite l plain

        inside : (e : FlatTerm) → is_let e ≡ false → Walks tops sc e t → (n : ℕ) (sc' : Seen) (x : FlatTerm) → Inside_row tops sc e n sc' x → Never_lost tops sc' x
        inside _ plain w _ _ _ (in_value l) = opposite l plain
        inside _ plain w _ _ _ (in_next l v f i) = opposite l plain
        inside e plain w _ _ _ (in_row_body f) = w.0

        known : (e : FlatTerm) → is_let e ≡ false → Walks tops sc e t → (s : Known) (m d : ℕ) → Row_visits tops sc e s m d → Knows N S t tops s
        known _ plain w s _ _ (v_let l v f r) = opposite l plain
        known e plain w s m d (v_body f v) = w.1 s m d v

    pub let_walks : (b : FlatBinding) (v e : FlatTerm) (t : Ty) → is_let (Let b v e) ≡ true → Row_walks (Let b v e) t → Walks tops sc (Let b v e) t
    let_walks b v e t plain row = ((λ n k sc' x c l. lost v plain row n k sc' x c l), (λ s m d w. known v plain row s m d w))
      where
        lost : (v : FlatTerm) → is_let (Let b v e) ≡ true → Row_walks (Let b v e) t → Never_lost tops sc (Let b v e)
        lost v plain row _ _ _ _ comes_here (no_row l stuck) = row.0 stuck
        lost _ plain row _ _ _ _ comes_here (asserted_function x f) = let z : false ≡ true = plain in cc
        lost v plain row _ _ _ _ (comes_on (in_lets {sc' = sc'} {t = x} {n = n} f i) c) l = row.1 n sc' x i _ _ _ _ c l
        lost _ plain row _ _ _ _ (comes_on in_condition c) l = let z : false ≡ true = plain in cc
        lost _ plain row _ _ _ _ (comes_on (in_guarded x) c) l = let z : false ≡ true = plain in cc

        known : (v : FlatTerm) → is_let (Let b v e) ≡ true → Row_walks (Let b v e) t → (s : Known) (m d : ℕ) → Visits tops sc (Let b v e) s m d → Knows N S t tops s
        known v plain row s _ _ (v_lets {m = m} {d = d} l r) = row.2 s m d r
        known _ plain row s _ _ (v_assert x r) = absurd (let z : false ≡ true = plain in cc)

  -- a let in front of a row, where its value binds the names that the row sees
  abbrev pub Let_binds : Seen → Seen → Sub → FlatBinding → FlatTerm → Scope → Type 0
  Let_binds tops sc a b v scope = Never_lost tops sc v × ((s : Known) (m d : ℕ) → Visits tops sc v s m d → Binds N S P K tops a (known_bound b.pattern s sc) scope)

  pub row_walks : (tops sc : Seen) (a : Sub) (b : FlatBinding) (v e : FlatTerm) (scope : Scope) (t : Ty) → is_let (Let b v e) ≡ true → Let_binds tops sc a b v scope → ((inner : Seen) → In_scope tops scope a inner → Row_walks tops inner e t) → Row_walks tops sc (Let b v e) t
  row_walks tops sc a b v e scope t plain w rest = ((λ x. stuck x), (λ n sc' x i. inside n sc' x i), (λ s m d r. known s m d r))
    where
      goes_on : (s : Known) (m d : ℕ) (inner : Seen) → Visits tops sc v s m d → known_bound b.pattern s sc ≡ Some inner → Row_walks tops inner e t
      goes_on s m d inner x f = let r = w.1 s m d x in rest inner (subst (λ y. In_scope tops scope a y) (some_same (sym r.1 ∙ f)) r.2)

      stuck : Stuck_row tops sc (Let b v e) → ⊥
      stuck (no_pattern_here {s = s} {m = m} {d = d} l x f) = let r = w.1 s m d x in none_some r.1 f
      stuck (no_pattern_later {inner = inner} {s = s} {m = m} {d = d} l x f y) = (goes_on s m d inner x f).0 y

      inside : (n : ℕ) (sc' : Seen) (x : FlatTerm) → Inside_row tops sc (Let b v e) n sc' x → Never_lost tops sc' x
      inside _ _ _ (in_value l) = w.0
      inside _ sc' x (in_next {inner = inner} {s = s} {m = m} {d = d} {n = n} l y f i) = (goes_on s m d inner y f).1 n sc' x i
      inside _ _ _ (in_row_body f) = opposite plain f

      known : (s : Known) (m d : ℕ) → Row_visits tops sc (Let b v e) s m d → Knows N S t tops s
      known s' _ _ (v_let {inner = inner} {s = s} {m = m} {d = d} {m' = m'} {d' = d'} l x f r) = (goes_on s m d inner x f).2 s' m' d' r
      known s' _ _ (v_body f x) = opposite plain f

  -- ---- assertions
  assertion_only : (v : FlatTerm) (Q : FlatTerm → Type 0) → is_assertion v ≡ true → ((mark : Place) (c : FlatTerm) → Q (Strict Assert mark (term_and c no_term))) → Q v
  assertion_only (Strict Assert mark (term_and c no_term)) Q h f = f mark c
  assertion_only v Q h f = absurd (let z : false ≡ true = h in cc)

  data_only : (s : Known) → (is_data s ≡ false → ⊥) → Data ≡ s
  data_only Data h = refl
  data_only s h = absurd (h refl)

  data_binds : (p : FlatPattern) (sc : Seen) → known_bound p Data sc ≡ Some (data_bound p sc)
  unfolding known_bound
  data_binds (Bound_pattern b) sc = refl
  data_binds Wild_pattern sc = refl
  data_binds (Tuple_pattern ps) sc = refl
  data_binds (Record_pattern names ps) sc = refl
  data_binds (Typed_pattern p u) sc = data_binds p sc

  module _ (tops sc : Seen) (a : Sub) (b : FlatBinding) (e : FlatTerm) (scope : Scope) (t : Ty) (rest : (inner : Seen) → In_scope tops scope a inner → Walks tops inner e t) where
    guarded : (mark : Place) (c : FlatTerm) → Let_binds tops sc a b (Strict Assert mark (term_and c no_term)) scope → Walks tops sc (Let b (Strict Assert mark (term_and c no_term)) e) t
    unfolding known_result
    guarded mark c w = ((λ n k sc' x y l. lost n k sc' x y l), (λ s m d v. known s m d v))
      where
        is_truth : (s : Known) (m d : ℕ) → Visits tops sc c s m d → is_data s ≡ false → ⊥
        is_truth s m d v f = w.0 _ _ _ _ comes_here (no_result {ss = known_and s known_none} refl (v_more v v_none) (ap (λ y. cond (cond y true false) (Some Data) None) f))

        goes_on : (s : Known) (m d : ℕ) → Visits tops sc c s m d → In_scope tops scope a (data_bound b.pattern sc)
        goes_on s m d v =
            let u : Visits tops sc c Data m d = subst (λ y. Visits tops sc c y m d) (sym (data_only s (is_truth s m d v))) v in
            let r = w.1 Data (1 + (m + 0)) (1 + max d 0) (v_strict refl (v_more u v_none) refl) in
            subst (λ y. In_scope tops scope a y) (some_same (sym r.1 ∙ data_binds b.pattern sc)) r.2

        lost : Never_lost tops sc (Let b (Strict Assert mark (term_and c no_term)) e)
        lost _ _ _ _ comes_here (no_row l stuck) = let z : false ≡ true = l in cc
        lost _ _ _ _ comes_here (asserted_function {s = s} {m = m} {d = d} v f) = is_truth s m d v f
        lost _ _ _ _ (comes_on (in_lets l i) y) q = let z : false ≡ true = l in cc
        lost _ _ _ _ (comes_on in_condition y) q = w.0 _ _ _ _ (comes_on (in_part refl in_here) y) q
        lost _ _ _ _ (comes_on (in_guarded {s = s} {m = m} {d = d} v) y) q = (rest (data_bound b.pattern sc) (goes_on s m d v)).0 _ _ _ _ y q

        known : (s : Known) (m d : ℕ) → Visits tops sc (Let b (Strict Assert mark (term_and c no_term)) e) s m d → Knows N S t tops s
        known s _ _ (v_lets l r) = absurd (let z : false ≡ true = l in cc)
        known s' _ _ (v_assert {m = m} {d = d} {m' = m'} {d' = d'} v r) = (rest (data_bound b.pattern sc) (goes_on Data m d v)).1 s' m' d' r

    -- a let, as a term and in a row
    pub lets_walk : (v : FlatTerm) → Let_binds tops sc a b v scope → ((inner : Seen) → In_scope tops scope a inner → Row_walks tops inner e t) → Walks tops sc (Let b v e) t × Row_walks tops sc (Let b v e) t
    lets_walk v w rows = by_value (is_assertion v) refl
      where
        by_value : (f : Bool) → is_assertion v ≡ f → Walks tops sc (Let b v e) t × Row_walks tops sc (Let b v e) t
        by_value true is =
            let walks = assertion_only v (λ v. Let_binds tops sc a b v scope → Walks tops sc (Let b v e) t) is guarded w in
            (walks, body_walks tops sc (Let b v e) t (ap not is) walks)
        by_value false is =
            let row = row_walks tops sc a b v e scope t (ap not is) w rows in
            (let_walks tops sc b v e t (ap not is) row, row)

  -- ---- loops
  -- what says how many turns there are; and the body, where it sees the names of a turn
  abbrev pub Turns_walk : Seen → Seen → Seen → FlatTurns → Type 0
  Turns_walk tops sc inside (Counted i n) = (u : Ty) × HasKind K kind.Data u × Walks tops sc n u
  Turns_walk tops sc inside (Over q x) = (u : Ty) × HasKind K kind.Data u × Walks tops sc x u
  Turns_walk tops sc inside (While c) = (u : Ty) × HasKind K kind.Data u × Walks tops inside c u

  abbrev pub turn_names : Seen → FlatTurns → Seen
  turn_names inside (Counted i n) = known_as i Data inside
  turn_names inside (Over q x) = data_bound q inside
  turn_names inside (While c) = inside

  module _ (tops sc : Seen) where
    turns_stuck : (inside : Seen) (turns : FlatTurns) → Turns_walk tops sc inside turns → Stuck_turns tops sc inside turns → ⊥
    turns_stuck inside (Counted i n) w (no_count {s = s} {m = m} {d = d} v e) = is_no_data (kind_only N S K w.0 tops s w.1 (w.2.1 s m d v)) e
    turns_stuck inside (Over q x) w (no_rows {s = s} {m = m} {d = d} v e) = is_no_data (kind_only N S K w.0 tops s w.1 (w.2.1 s m d v)) e
    turns_stuck inside (While c) w (no_condition {s = s} {m = m} {d = d} v e) = is_no_data (kind_only N S K w.0 tops s w.1 (w.2.1 s m d v)) e

    turns_inside : (inside : Seen) (turns : FlatTurns) → Turns_walk tops sc inside turns → (sc' : Seen) (t : FlatTerm) → Inside_turns sc inside turns sc' t → Never_lost tops sc' t
    turns_inside inside (Counted i n) w _ _ in_counted = w.2.0
    turns_inside inside (Over q x) w _ _ in_over = w.2.0
    turns_inside inside (While c) w _ _ in_while = w.2.0

    turns_names : (inside : Seen) (turns : FlatTurns) (inner : Seen) (m d : ℕ) → Turn_visits tops sc inside turns inner m d → turn_names inside turns ≡ inner
    turns_names inside (Counted i n) _ _ _ (v_counted v) = refl
    turns_names inside (Over q x) _ _ _ (v_over v) = refl
    turns_names inside (While c) _ _ _ (v_while v) = refl

    pub loop_walks : (mark : Place) (sizes : List BindId) (p : FlatPattern) (first body : FlatTerm) (turns : FlatTurns) (t : Ty) → HasKind K kind.Data t → Walks tops sc first t → Turns_walk tops sc (data_bound p sc) turns → Walks tops (turn_names (data_bound p sc) turns) body t
        → Walks tops sc (Loop mark sizes p first turns body) t
    loop_walks mark sizes p first body turns t k wf wt wb = ((λ n j sc' x c l. lost n j sc' x c l), (λ s m d v. known s m d v))
      where
        in_body : (inner : Seen) (m d : ℕ) → Turn_visits tops sc (data_bound p sc) turns inner m d → Walks tops inner body t
        in_body inner m d v = subst (λ y. Walks tops y body t) (turns_names (data_bound p sc) turns inner m d v) wb

        lost : Never_lost tops sc (Loop mark sizes p first turns body)
        lost _ _ _ _ comes_here (first_function {s = s} {m = m} {d = d} v n) = is_no_data (kind_only N S K t tops s k (wf.1 s m d v)) n
        lost _ _ _ _ comes_here (no_turns stuck) = turns_stuck (data_bound p sc) turns wt stuck
        lost _ _ _ _ comes_here (body_function {inner = inner} {s = s} {m = m} {d = d} {m1 = m1} {d1 = d1} x v n) = is_no_data (kind_only N S K t tops s k ((in_body inner m1 d1 x).1 s m d v)) n
        lost _ _ _ _ (comes_on in_first c) l = wf.0 _ _ _ _ c l
        lost _ _ _ _ (comes_on (in_turns {sc' = sc'} {t = x} v i) c) l = turns_inside (data_bound p sc) turns wt sc' x i _ _ _ _ c l
        lost _ _ _ _ (comes_on (in_loop_body {inner = inner} {m1 = m1} {d1 = d1} v x) c) l = (in_body inner m1 d1 x).0 _ _ _ _ c l

        known : (s : Known) (m d : ℕ) → Visits tops sc (Loop mark sizes p first turns body) s m d → Knows N S t tops s
        known _ _ _ (v_loop v w z) = kind_data N S K t tops k
