-- A row has a shape where it is evaluated: what stands at a place of it has what stands there in its shape, and a row of a sized
-- type has the shape that the meaning tells.
use Rattle.std.proofs.Common.{◌≡◌, ℕ, zero, suc, List, [], ◌∷◌, Bool, true, false, cond, nat_eq, Option, Some, None, refl, sym, ap, ◌∙◌}
use Rattle.std.specs.Prelude.{ℤ, pos, ◌&&◌}
use Rattle.std.specs.Str.{bytes_eq}
use Rattle.fut_ast.specs.Sorts.{Text}
use Rattle.fut_types.specs.declared.Head.TheVariants as head
use Rattle.fut_value.specs.Data.{Shape, Scalar_shape, Tuple_shape, Record_shape, Array_shape, Unmet_shape, Shapes, no_shape, shape_and, Named_shapes, no_named_shape, named_shape_and}
use Rattle.sized_types.specs.Sizes.{Free, Const, Name, Dim, At, Bound, Variable, Size, Hole, Open, Level, Built, Fun, Sizes, no_size, size_and}
use Rattle.sized_types.specs.Standing.{is_known, gives_chosen}
use Rattle.fut_meaning.specs.Found as meant
use Rattle.fut_meaning.specs.Found.{count, agrees, has_sizes, have_sizes, named_sizes}
use Rattle.fut_meaning.specs.Outcomes.{Out, Val, Fail, Wrong, and_then}
use Rattle.fut_meaning.specs.Places.{Path, Whole, In_rows, In_part, In_field, size_place, type_place, on_place, row_of, size_of, shape_at, part_of, field_shape, field_of, or_unmet, at_path}
use Rattle.fut_meaning.specs.Sames.{All_same, all_none, all_more}
use Rattle.fut_meaning.specs.Values.{is_before}
use Rattle.fut_blocks.specs.Names.{Component, Names}
use Rattle.fut_blocks.specs.Rows.{Row, Unknown_row, Tuple_row, Record_row, Array_row, Rows, no_row, row_and, Named_rows, no_named_row, named_row_and, Extent, Nowhere, Exactly, Worth_of, Length_of}
use Rattle.fut_blocks.specs.Sizes as blocks
use Rattle.fut_blocks.specs.Sizes.{row_shape, row_shapes, extent_worth, where_there, and_also, passes, all_pass, named_pass}
use Rattle.unfold.specs.Telling.{rows_in, part_at, part_in, field_at, field_in, at_row, as_many, length_of, with_named, named_rows, told_row, told_rows, pushed, typed_by, result_row, Found, number, with_data, chosen_none, chosen_row, if_told, results_row, with_results, named_worth, with_worth, size_test, size_tests, named_tests}

-- ---- what came first, where all has come

record Came {A B : Type 0} (o : Out A) (k : A → Out B) (b : B) : Type 0 where
  first : A
  is : o ≡ Val first
  then : k first ≡ Val b

came : {A B : Type 0} (o : Out A) (k : A → Out B) {b : B} → and_then o k ≡ Val b → Came o k b
came (Val a) k e = record { first = a; is = refl; then = e }
came (Fail r) k {b} e = absurd (let z : Fail r ≡ Val b = e in cc)
came Wrong k {b} e = absurd (let z : Wrong ≡ Val b = e in cc)

value_is : {A : Type 0} {a b : A} → Val a ≡ Val b → a ≡ b
value_is h = cc

also_both : (b c : Bool) {o : Out Bool} → o ≡ Val c → and_also b o ≡ Val (b && c)
also_both true c e = e
also_both false c e = refl

where_field : (o : Option Shape) {test : Shape → Out Bool} {test' : Shape → Bool} → ((h : Shape) → test h ≡ Val (test' h)) → where_there o test ≡ Val (meant.if_field o test')
where_field (Some h) e = e h
where_field None e = refl

-- at a place where there is one, and else as it is
placed : {A B : Type 0} (r : A → B → Type 0) (o : Option Path) {there : Path → A} {there' : Path → B} {a : A} {b : B} → ((p : Path) → r (there p) (there' p)) → r a b → r (on_place o there a) (on_place o there' b)
placed r (Some p) t e = t p
placed r None t e = e

pub record Is_shape (d : Names Component) (r : Row) (h : Shape) : Type 0 where
  pub is : row_shape d r ≡ Val h

pub record Is_worth (d : Names Component) (e : Extent) (z : Option ℤ) : Type 0 where
  pub is : extent_worth d e ≡ Val z

-- an extent is so many
pub record Counts (d : Names Component) (e : Extent) (n : ℕ) : Type 0 where
  pub worth : Option ℤ
  pub is : extent_worth d e ≡ Val worth
  pub many : count worth ≡ n

module _ (d : Names Component) where
  -- ---- what stands at a place

  pub rows_are : (r : Row) {h : Shape} → Is_shape d r h → Is_shape d (rows_in r) (row_of h)
  rows_are (Array_row e r) {h} m =
      let first = came (extent_worth d e) _ m.is in
      let second = came (row_shape d r) _ first.then in
      record { is = second.is ∙ ap (λ z. Val (row_of z)) (value_is second.then) }
  rows_are r m = record { is = ap (λ z. and_then z (λ h. Val (row_of h))) m.is }

  part_at_is : (k : ℕ) (rs : Rows) {hs : Shapes} → row_shapes d rs ≡ Val hs → Is_shape d (part_at k rs) (shape_at k hs)
  part_at_is k no_row e = record { is = ap (λ z. Val (shape_at k z)) (value_is e) }
  part_at_is zero (row_and r rs) e =
      let first = came (row_shape d r) (λ h. and_then (row_shapes d rs) (λ hs. Val (shape_and h hs))) e in
      let others = came (row_shapes d rs) (λ hs. Val (shape_and first.first hs)) first.then in
      record { is = first.is ∙ ap (λ z. Val (shape_at 0 z)) (value_is others.then) }
  part_at_is (suc k) (row_and r rs) e =
      let first = came (row_shape d r) (λ h. and_then (row_shapes d rs) (λ hs. Val (shape_and h hs))) e in
      let others = came (row_shapes d rs) (λ hs. Val (shape_and first.first hs)) first.then in
      record { is = (part_at_is k rs others.is).is ∙ ap (λ z. Val (shape_at (suc k) z)) (value_is others.then) }

  part_is : (k : ℕ) (r : Row) {h : Shape} → Is_shape d r h → Is_shape d (part_in k r) (part_of k h)
  part_is k (Tuple_row rs) m =
      let parts = came (row_shapes d rs) (λ hs. Val (Tuple_shape hs)) m.is in
      record { is = (part_at_is k rs parts.is).is ∙ ap (λ z. Val (part_of k z)) (value_is parts.then) }
  part_is k r m = record { is = ap (λ z. and_then z (λ h. Val (part_of k h))) m.is }

  cond_is : (b : Bool) (o : Option Shape) {r r' : Row} {h : Shape} → Is_shape d r h → Is_shape d r' (or_unmet o) → Is_shape d (cond b r r') (or_unmet (cond b (Some h) o))
  cond_is true o m m' = m
  cond_is false o m m' = m'

  field_at_is : (f : Text) (rs : Named_rows) {hs : Named_shapes} → blocks.named_shapes d rs ≡ Val hs → Is_shape d (field_at f rs) (or_unmet (field_shape f hs))
  field_at_is f no_named_row e = record { is = ap (λ z. Val (or_unmet (field_shape f z))) (value_is e) }
  field_at_is f (named_row_and g r rs) e =
      let first = came (row_shape d r) (λ h. and_then (blocks.named_shapes d rs) (λ hs. Val (named_shape_and g h hs))) e in
      let others = came (blocks.named_shapes d rs) (λ hs. Val (named_shape_and g first.first hs)) first.then in
      let found = cond_is (bytes_eq g f) (field_shape f others.first) {r = r} {r' = field_at f rs} {h = first.first} (record { is = first.is }) (field_at_is f rs others.is) in
      record { is = found.is ∙ ap (λ z. Val (or_unmet (field_shape f z))) (value_is others.then) }

  field_is : (f : Text) (r : Row) {h : Shape} → Is_shape d r h → Is_shape d (field_in f r) (field_of f h)
  field_is f (Record_row rs) m =
      let fields = came (blocks.named_shapes d rs) (λ hs. Val (Record_shape hs)) m.is in
      record { is = (field_at_is f rs fields.is).is ∙ ap (λ z. Val (field_of f z)) (value_is fields.then) }
  field_is f r m = record { is = ap (λ z. and_then z (λ h. Val (field_of f h))) m.is }

  pub at_row_is : (p : Path) (r : Row) {h : Shape} → Is_shape d r h → Is_shape d (at_row p r) (at_path p h)
  at_row_is Whole r m = m
  at_row_is (In_rows p) r m = at_row_is p (rows_in r) (rows_are r m)
  at_row_is (In_part k p) r m = at_row_is p (part_in k r) (part_is k r m)
  at_row_is (In_field f p) r m = at_row_is p (field_in f r) (field_is f r m)

  many_is : (e : Extent) {z : Option ℤ} → extent_worth d e ≡ Val z → extent_worth d (as_many e) ≡ Val (Some (pos (count z)))
  many_is Nowhere h = ap (λ z. Val (Some (pos (count z)))) (value_is h)
  many_is (Exactly n) h = ap (λ z. Val (Some (pos (count z)))) (value_is h)
  many_is (Worth_of u) h = ap (λ o. and_then (and_then o (λ z. Val (Array_shape (count z) Unmet_shape))) (λ h. Val (Some (pos (size_of h))))) h
  many_is (Length_of r) {z} h =
      let rows = came (row_shape d r) (λ h. Val (Some (pos (size_of h)))) h in
      h ∙ ap (λ z. Val z) (sym (value_is rows.then)) ∙ ap (λ z. Val (Some (pos (count z)))) (value_is rows.then)

  pub length_is : (r : Row) {h : Shape} → Is_shape d r h → Is_worth d (length_of r) (Some (pos (size_of h)))
  length_is (Array_row e r) {h} m =
      let first = came (extent_worth d e) _ m.is in
      let second = came (row_shape d r) _ first.then in
      record { is = many_is e first.is ∙ ap (λ z. Val (Some (pos (size_of z)))) (value_is second.then) }
  length_is r m = record { is = ap (λ z. and_then z (λ h. Val (Some (pos (size_of h))))) m.is }

  pub length_counts : (r : Row) {h : Shape} → Is_shape d r h → Counts d (length_of r) (size_of h)
  length_counts r {h} m = record { worth = Some (pos (size_of h)); is = (length_is r m).is; many = refl }

  -- ---- rows of sized types

  abbrev pub Numbers : (Dim → Extent) → (Dim → ℕ) → Type 0
  Numbers number number' = (x : Dim) → Counts d (number x) (number' x)

  abbrev pub Types : (Variable → Row) → (Variable → Shape) → Type 0
  Types type type' = (v : Variable) → Is_shape d (type v) (type' v)

  -- rows of fields with these shapes
  pub data Named_are : Named_rows → Named_shapes → Type 0 where
    named_none : Named_are no_named_row no_named_shape
    named_more : {f : Text} {r : Row} {h : Shape} {rs : Named_rows} {hs : Named_shapes} → Is_shape d r h → Named_are rs hs → Named_are (named_row_and f r rs) (named_shape_and f h hs)

  pub named_is : {rs : Named_rows} {hs : Named_shapes} → Named_are rs hs → blocks.named_shapes d rs ≡ Val hs
  named_is named_none = refl
  named_is (named_more {f} {r} {h} {rs} {hs} e x) =
      ap (λ z. and_then z (λ h. and_then (blocks.named_shapes d rs) (λ hs. Val (named_shape_and f h hs)))) e.is ∙ ap (λ z. and_then z (λ hs. Val (named_shape_and f h hs))) (named_is x)

  put_named : (f : Text) {r : Row} {h : Shape} {rs : Named_rows} {hs : Named_shapes} → Is_shape d r h → Named_are rs hs → Named_are (with_named f r rs) (meant.with_named f h hs)
  put_named f e named_none = named_more e named_none
  put_named f {r} {h} e (named_more {f = g} {r = q} {h = k} {rs} {hs} e' x) = by_order (is_before f g) (put_named f e x)
    where
      by_order : (b : Bool) → Named_are (with_named f r rs) (meant.with_named f h hs) → Named_are (cond b (named_row_and f r (named_row_and g q rs)) (named_row_and g q (with_named f r rs))) (cond b (named_shape_and f h (named_shape_and g k hs)) (named_shape_and g k (meant.with_named f h hs)))
      by_order true y = named_more e (named_more e' x)
      by_order false y = named_more e' y

  pub array_is : {e : Extent} {n : ℕ} {r : Row} {h : Shape} → Counts d e n → Is_shape d r h → Is_shape d (Array_row e r) (Array_shape n h)
  array_is {r = r} {h} c e =
      record {
        is = ap (λ z. and_then z (λ z. and_then (row_shape d r) (λ h. Val (Array_shape (count z) h)))) c.is
            ∙ ap (λ z. and_then z (λ h. Val (Array_shape (count c.worth) h))) e.is ∙ ap (λ z. Val (Array_shape z h)) c.many;
      }

  module _ (fields : ℕ → List Text) {number : Dim → Extent} {number' : Dim → ℕ} {type : Variable → Row} {type' : Variable → Shape} (N : Numbers number number') (T : Types type type') where
    mutual
      unfolding told_row told_rows meant.told_shape meant.told_shapes

      pub told_is : (t : Size) → Is_shape d (told_row fields number type t) (meant.told_shape fields number' type' t)
      told_is (Hole v) = T v
      told_is (Open n v u) = record { is = refl }
      told_is (Level x t) = array_is (N x) (told_is t)
      told_is (Built head.Tuple ts) = record { is = ap (λ z. and_then z (λ hs. Val (Tuple_shape hs))) (all_told ts) }
      told_is (Built (head.Record n) ts) = record { is = ap (λ z. and_then z (λ hs. Val (Record_shape hs))) (named_is (named_told (fields n) ts)) }
      told_is (Built k ts) = record { is = refl }
      told_is (Fun k p r) = record { is = refl }

      all_told : (ts : Sizes) → row_shapes d (told_rows fields number type ts) ≡ Val (meant.told_shapes fields number' type' ts)
      all_told no_size = refl
      all_told (size_and t ts) =
          ap (λ z. and_then z (λ h. and_then (row_shapes d (told_rows fields number type ts)) (λ hs. Val (shape_and h hs)))) (told_is t).is
          ∙ ap (λ z. and_then z (λ hs. Val (shape_and (meant.told_shape fields number' type' t) hs))) (all_told ts)

      named_told : (fs : List Text) (ts : Sizes) → Named_are (named_rows fs (told_rows fields number type ts)) (meant.named_shapes fs (meant.told_shapes fields number' type' ts))
      named_told [] ts = named_none
      named_told (f ∷ fs) no_size = named_none
      named_told (f ∷ fs) (size_and t ts) = put_named f (told_is t) (named_told fs ts)

  module _ (fields : ℕ → List Text) where
    pushed_numbers : {number : Dim → Extent} {number' : Dim → ℕ} (p : Size) {r : Row} {h : Shape} → Is_shape d r h → Numbers number number' → Numbers (pushed fields p r number) (meant.pushed fields p h number')
    pushed_numbers p e N (At x) = N (At x)
    pushed_numbers p {r} e N (Bound zero i) = placed (Counts d) (size_place fields (Bound 0 i) p) (λ q. length_counts (at_row q r) (at_row_is q r e)) (record { worth = None; is = refl; many = refl })
    pushed_numbers p e N (Bound (suc j) i) = N (Bound j i)

    typed_types : {type : Variable → Row} {type' : Variable → Shape} (p : Size) {r : Row} {h : Shape} → Is_shape d r h → Types type type' → Types (typed_by fields p r type) (meant.typed_by fields p h type')
    typed_types p {r} e T v = placed (Is_shape d) (type_place fields v p) (λ q. at_row_is q r e) (T v)

    pub result_is : (t : Size) {number : Dim → Extent} {number' : Dim → ℕ} {type : Variable → Row} {type' : Variable → Shape} {rs : List Row} {hs : List Shape} → Numbers number number' → Types type type' → All_same (Is_shape d) rs hs → Is_shape d (result_row fields number type t rs) (meant.result_shape fields number' type' t hs)
    unfolding result_row meant.result_shape
    result_is t N T all_none = told_is fields N T t
    result_is (Fun k p r) N T (all_more e es) = result_is r (pushed_numbers p e N) (typed_types p e T) es
    result_is (Hole v) N T (all_more e es) = record { is = refl }
    result_is (Open n v u) N T (all_more e es) = record { is = refl }
    result_is (Level x t) N T (all_more e es) = record { is = refl }
    result_is (Built h ts) N T (all_more e es) = record { is = refl }

  -- ---- what is found

  pub record Finds (W : Found) (F : meant.Found) : Type 0 where
    pub size : (x : Free) → Is_worth d (W.size x) (F.size x)
    pub type : (v : Variable) → Is_shape d (W.type v) (or_unmet (F.type v))

  module _ {W : Found} {F : meant.Found} (k : Finds W F) where
    worth_of_size : (x : Dim) → Is_worth d (number W x) (meant.worth F x)
    worth_of_size (At (Const c)) = record { is = refl }
    worth_of_size (At x) = k.size x
    worth_of_size (Bound j i) = record { is = refl }

    pub worth_is : (x : Dim) → extent_worth d (number W x) ≡ Val (meant.worth F x)
    worth_is x = (worth_of_size x).is

    pub numbers_found : Numbers (number W) (meant.number F)
    numbers_found x = record { worth = meant.worth F x; is = worth_is x; many = refl }

    module _ (fields : ℕ → List Text) where
      pub data_found : (t : Size) {r : Row} {h : Shape} → Is_shape d r h → Finds (with_data fields t r W) (meant.with_data fields t h F)
      data_found t {r} e =
          record {
            size = λ x. placed (Is_worth d) (size_place fields (At x) t) (λ p. length_is (at_row p r) (at_row_is p r e)) (k.size x);
            type = λ v. placed (λ s o. Is_shape d s (or_unmet o)) (type_place fields v t) (λ p. at_row_is p r e) (k.type v);
          }

      chosen_numbers : Numbers chosen_none meant.chosen_none
      chosen_numbers (At (Const c)) = record { worth = Some (pos c); is = refl; many = refl }
      chosen_numbers (At x) = record { worth = None; is = refl; many = refl }
      chosen_numbers (Bound j i) = record { worth = None; is = refl; many = refl }

      pub results_found : (t : Size) (tell : List Row → Row) (tell' : List Shape → Shape) → ((rs : List Row) (hs : List Shape) → All_same (Is_shape d) rs hs → Is_shape d (tell rs) (tell' hs)) → Finds (with_results fields t (results_row fields t tell) W) (meant.with_results fields t tell' F)
      unfolding meant.with_results
      results_found (Fun i p q) tell tell' l = by_sizes (is_known p && gives_chosen i q)
        where
          by_sizes : (b : Bool) → Finds (if_told b (with_data fields q (cond b (tell (chosen_row fields p ∷ [])) Unknown_row) W) W) (meant.if_told b (meant.with_data fields q (tell' (meant.chosen_shape fields p ∷ [])) F) F)
          by_sizes true = data_found q (l (chosen_row fields p ∷ []) (meant.chosen_shape fields p ∷ []) (all_more (told_is fields chosen_numbers (λ v. record { is = refl }) p) all_none))
          by_sizes false = k
      results_found (Hole v) tell tell' l = k
      results_found (Open n v u) tell tell' l = k
      results_found (Level x t) tell tell' l = k
      results_found (Built h ts) tell tell' l = k

    pub worth_found : (home : ℕ → ℕ) (q : ℕ) (t : Size) {e : Extent} {z : Option ℤ} → Is_worth d e z → Finds (with_worth home q t e W) (meant.with_worth home q t z F)
    worth_found home q t {e} {z} s = record { size = λ x. by_name x (k.size x); type = k.type }
      where
        by_home : (b : Bool) {e' : Extent} {z' : Option ℤ} → Is_worth d e' z' → Is_worth d (cond b e e') (cond b z z')
        by_home true o = s
        by_home false o = o

        by_name : (x : Free) {e' : Extent} {z' : Option ℤ} → Is_worth d e' z' → Is_worth d (named_worth home q t e x e') (meant.named_worth home q t z x z')
        by_name (Name b) o = by_home (nat_eq (home b) q && meant.is_number t) o
        by_name x o = o

  -- ---- tests

  module _ (fields : ℕ → List Text) {W : Found} {F : meant.Found} (k : Finds W F) where
    mutual
      unfolding size_test size_tests named_tests has_sizes have_sizes named_sizes

      pub test_is : (t : Size) (h : Shape) → passes d (size_test fields W t) h ≡ Val (has_sizes fields F t h)
      test_is (Hole v) h = refl
      test_is (Open n v u) h = refl
      test_is (Level x t) (Array_shape n h) = ap (λ z. and_then z (λ z. and_also (agrees z n) (passes d (size_test fields W t) h))) (worth_is k x) ∙ also_both (agrees (meant.worth F x) n) (has_sizes fields F t h) (test_is t h)
      test_is (Level x t) Unmet_shape = ap (λ z. and_then z (λ z. and_also (agrees z 0) (passes d (size_test fields W t) Unmet_shape))) (worth_is k x) ∙ also_both (agrees (meant.worth F x) 0) (has_sizes fields F t Unmet_shape) (test_is t Unmet_shape)
      test_is (Level x t) (Scalar_shape s) = refl
      test_is (Level x t) (Tuple_shape hs) = refl
      test_is (Level x t) (Record_shape hs) = refl
      test_is (Built head.Tuple ts) (Tuple_shape hs) = tests_are ts hs
      test_is (Built head.Tuple ts) h = refl
      test_is (Built (head.Record n) ts) (Record_shape hs) = named_are (fields n) ts hs
      test_is (Built (head.Record n) ts) h = refl
      test_is (Built c ts) h = refl
      test_is (Fun i p r) h = refl

      tests_are : (ts : Sizes) (hs : Shapes) → all_pass d (size_tests fields W ts) hs ≡ Val (have_sizes fields F ts hs)
      tests_are no_size hs = refl
      tests_are (size_and t ts) no_shape = refl
      tests_are (size_and t ts) (shape_and h hs) = ap (λ z. and_then z (λ b. and_also b (all_pass d (size_tests fields W ts) hs))) (test_is t h) ∙ also_both (has_sizes fields F t h) (have_sizes fields F ts hs) (tests_are ts hs)

      named_are : (fs : List Text) (ts : Sizes) (hs : Named_shapes) → named_pass d (named_tests fields W fs ts) hs ≡ Val (named_sizes fields F fs ts hs)
      named_are fs no_size hs = refl
      named_are [] (size_and t ts) hs = refl
      named_are (f ∷ fs) (size_and t ts) hs =
          ap (λ z. and_then z (λ b. and_also b (named_pass d (named_tests fields W fs ts) hs))) (where_field (field_shape f hs) (λ h. test_is t h))
          ∙ also_both (meant.if_field (field_shape f hs) (has_sizes fields F t)) (named_sizes fields F fs ts hs) (named_are fs ts hs)
