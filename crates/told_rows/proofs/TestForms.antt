-- The sizes that data has to have, form by form.
use Rattle.std.proofs.Common.{◌≡◌, ℕ, ◌+◌, ◌<◌, ◌≤◌, Bool, List, [], ◌∷◌, ◌++◌, map, length, get_or, drop, Result, Ok, Err, IfOk, refl, sym, ap, ◌∙◌}
use Rattle.std.specs.Borrow.{Bor}
use Rattle.fut_ast.specs.Sorts.{Text}
use Rattle.fut_blocks.specs.declared.row.FieldTest.{FieldTest}
use Rattle.fut_blocks.specs.declared.row.Extent.{Extent as Held_extent}
use Rattle.fut_blocks.specs.declared.row.SizeTest.{SizeTest}
use Rattle.fut_blocks.specs.declared.row.SizeTest.TheVariants as test
use Rattle.fut_blocks.specs.Rows as blocks
use Rattle.fut_blocks.specs.Rows.{Size_test, Any_size, Array_test, Tuple_test, Record_test, test_and, named_test_and, tests, extent_of, test_of, named_test_of}
use Rattle.fut_blocks.proofs.Layers.{test_of-Any, test_of-Array, test_of-Tuple, test_of-Record, named_test_of-parts}
use Rattle.fut_flat.specs.Erased.{texts}
use Rattle.fut_scalar.specs.declared.memory.NoMemory.{NoMemory}
use Rattle.fut_scalar.specs.declared.scalar.ScalarType.{ScalarType}
use Rattle.fut_types.specs.declared.Head.{Head}
use Rattle.fut_types.specs.declared.Head.TheVariants as head
use Rattle.fut_types.specs.declared.Kind.{Kind}
use Rattle.sized_types.specs.Sizes.{Size, Built, no_size}
use Rattle.size_arena.specs.declared.dims.Dim as dims
use Rattle.size_arena.specs.declared.dims.Variable as variables
use Rattle.size_arena.specs.declared.trees.SizeTree.{SizeTree}
use Rattle.size_arena.specs.declared.trees.SizeTree.TheVariants as form
use Rattle.size_arena.specs.declared.types.TypeTree.{TypeTree}
use Rattle.size_arena.specs.Trees.{dim_of, size_of, sizes_of}
use Rattle.size_arena.proofs.Forms.{size_hole, size_open, size_level, size_built, size_fun}
use Rattle.size_arena.proofs.Parts.{parts_at, parts_end}
use Rattle.unfold.specs.Telling.{Found, number, size_test, size_tests, named_tests, head_test}
use Rattle.told_rows.proofs.RowLists.{before, one_more, put_test, put_named, tests_are, named_are, part_at}

abbrev pub Test_made : Type 0
Test_made = Result (Bor SizeTest) NoMemory

abbrev pub Tests_made : Size_test → Test_made → Type 0
Tests_made t o = IfOk o (λ made. test_of made.now ≡ t)

named_none : (F : ℕ → List Text) (W : Found) (gs : List Text) → named_tests F W gs no_size ≡ blocks.no_named_test
unfolding named_tests
named_none F W [] = refl
named_none F W (g ∷ gs) = refl

-- a test that stands in the arena
pub makes_test : (o : Test_made) (x : SizeTest) (t : Size_test) → IfOk o (λ made. made.now ≡ x) → test_of x ≡ t → Tests_made t o
makes_test (Ok made) x t h e = ap test_of h ∙ e
makes_test (Err z) x t h e = tt

module _ (F : ℕ → List Text) (W : Found) (t : SizeTree) (o : Test_made) where
  abbrev pub Tested : Type 0
  Tested = Tests_made (size_test F W (size_of t)) o

  module _ (h : IfOk o (λ made. made.now ≡ test.Any)) where
    any : (x : Size) → size_of t ≡ x → Any_size ≡ size_test F W x → Tested
    any x is e = makes_test o test.Any (size_test F W (size_of t)) h (test_of-Any ∙ e ∙ sym (ap (size_test F W) is))

    pub hole_tested : (v : variables.Variable) → t ≡ form.Hole v → Tested
    unfolding size_test
    hole_tested v is = any _ (ap size_of is ∙ size_hole v) refl

    pub open_tested : (n : ℕ) (v : variables.Variable) (u : Bor TypeTree) → t ≡ form.Open n v u → Tested
    unfolding size_test
    open_tested n v u is = any _ (ap size_of is ∙ size_open n v u) refl

    pub fun_tested : (height k : ℕ) (p r : Bor SizeTree) → t ≡ form.Fun height k p r → Tested
    unfolding size_test
    fun_tested height k p r is = any _ (ap size_of is ∙ size_fun height k p r) refl

    pub other_tested : (height : ℕ) (x : Head) (ts : Bor (List SizeTree)) → t ≡ form.Built height x ts → Any_size ≡ size_test F W (Built x (sizes_of ts.now)) → Tested
    other_tested height x ts is e = any _ (ap size_of is ∙ size_built height x ts) e

  pub level_tested : (height : ℕ) (d : dims.Dim) (r : Bor SizeTree) (many : Held_extent) (under : Bor SizeTest) → t ≡ form.Level height d r → extent_of many ≡ number W (dim_of d) → test_of under.now ≡ size_test F W (size_of r.now)
      → IfOk o (λ made. made.now ≡ test.Array many under) → Tested
  unfolding size_test
  level_tested height d r many under is e u h =
      makes_test o (test.Array many under) (size_test F W (size_of t)) h
      (test_of-Array many under ∙ ap (λ z. Array_test z (test_of under.now)) e ∙ ap (Array_test (number W (dim_of d))) u ∙ sym (ap (size_test F W) (ap size_of is ∙ size_level height d r)))

  module _ (height : ℕ) (x : Head) (ts : Bor (List SizeTree)) (is : t ≡ form.Built height x ts) where
    built_is : (y : Head) → x ≡ y → size_test F W (size_of t) ≡ head_test y (size_tests F W (sizes_of ts.now)) (λ n. named_tests F W (F n) (sizes_of ts.now))
    unfolding size_test size_tests named_tests
    built_is y e = ap (size_test F W) (ap size_of is ∙ size_built height x ts) ∙ ap (λ z. head_test z (size_tests F W (sizes_of ts.now)) (λ n. named_tests F W (F n) (sizes_of ts.now))) e

    pub tuple_tested : x ≡ head.Tuple → (xs : Bor (List SizeTest)) → tests (map test_of xs.now) ≡ size_tests F W (sizes_of ts.now) → IfOk o (λ made. made.now ≡ test.Tuple xs) → Tested
    tuple_tested e xs h m = makes_test o (test.Tuple xs) (size_test F W (size_of t)) m (test_of-Tuple xs ∙ ap Tuple_test h ∙ sym (built_is head.Tuple e))

    pub record_tested : (n : ℕ) (fs : List Text) (xs : Bor (List FieldTest)) → x ≡ head.Record n → fs ≡ F n → blocks.named_tests (map named_test_of xs.now) ≡ named_tests F W fs (sizes_of ts.now) → IfOk o (λ made. made.now ≡ test.Record xs) → Tested
    record_tested n fs xs e f h m =
        makes_test o (test.Record xs) (size_test F W (size_of t)) m (test_of-Record xs ∙ ap Record_test (h ∙ ap (λ z. named_tests F W z (sizes_of ts.now)) f) ∙ sym (built_is (head.Record n) e))

-- by what a type is made of: of no part
module _ (F : ℕ → List Text) (W : Found) (t : SizeTree) (o : Test_made) (height : ℕ) (x : Head) (ts : Bor (List SizeTree)) (is : t ≡ form.Built height x ts) (h : IfOk o (λ made. made.now ≡ test.Any)) where
  headed_any : Any_size ≡ head_test x (size_tests F W (sizes_of ts.now)) (λ n. named_tests F W (F n) (sizes_of ts.now)) → Tested F W t o
  unfolding size_test size_tests named_tests
  headed_any e = other_tested F W t o h height x ts is e

  abbrev by_head : Head → Size_test
  by_head y = head_test y (size_tests F W (sizes_of ts.now)) (λ n. named_tests F W (F n) (sizes_of ts.now))

  pub scalar_tested : (s : ScalarType) → x ≡ head.Scalar s → Tested F W t o
  scalar_tested s e = headed_any (sym (ap by_head e))

  pub array_tested : x ≡ head.Array → Tested F W t o
  array_tested e = headed_any (sym (ap by_head e))

  pub arrow_tested : x ≡ head.Fun → Tested F W t o
  arrow_tested e = headed_any (sym (ap by_head e))

  pub rigid_tested : (b : ℕ) (k : Kind) → x ≡ head.Rigid b k → Tested F W t o
  rigid_tested b k e = headed_any (sym (ap by_head e))

  pub abstract_tested : (b : ℕ) (k : Bool) → x ≡ head.Abstract b k → Tested F W t o
  abstract_tested b k e = headed_any (sym (ap by_head e))

module _ (F : ℕ → List Text) (W : Found) where
  module _ (ts : List SizeTree) (i : ℕ) where
    module _ (made : List SizeTest) (h : size_tests F W (sizes_of ts) ≡ before put_test made (size_tests F W (sizes_of (drop i ts)))) where
      pub tests_more : (t : SizeTree) (x : SizeTest) (more : List SizeTest) → i < length ts → t ≡ get_or ts i t → test_of x ≡ size_test F W (size_of t) → more ≡ made ++ x ∷ [] → size_tests F W (sizes_of ts) ≡ before put_test more (size_tests F W (sizes_of (drop (i + 1) ts)))
      unfolding size_test size_tests
      tests_more t x more l is e m =
          one_more put_test (size_tests F W (sizes_of ts)) (size_tests F W (sizes_of (drop i ts))) (size_tests F W (sizes_of (drop (i + 1) ts))) made more x h
          (ap (size_tests F W) (parts_at ts i t l) ∙ ap (λ z. test_and z (size_tests F W (sizes_of (drop (i + 1) ts)))) (sym (e ∙ ap (λ z. size_test F W (size_of z)) is))) m

      pub tests_end : length ts ≤ i → tests (map test_of made) ≡ size_tests F W (sizes_of ts)
      unfolding size_tests
      tests_end l = tests_are made ∙ sym (h ∙ ap (λ z. before put_test made z) (ap (size_tests F W) (parts_end ts i l)))

    module _ (fs : List (Bor Text)) (made : List FieldTest) (h : named_tests F W (texts fs) (sizes_of ts) ≡ before put_named made (named_tests F W (texts (drop i fs)) (sizes_of (drop i ts)))) where
      pub named_more : (t : SizeTree) (f : Bor Text) (x : SizeTest) (more : List FieldTest) → i < length ts → i < length fs → t ≡ get_or ts i t → test_of x ≡ size_test F W (size_of t) → more ≡ made ++ record { name = get_or fs i f; test = x } ∷ []
          → named_tests F W (texts fs) (sizes_of ts) ≡ before put_named more (named_tests F W (texts (drop (i + 1) fs)) (sizes_of (drop (i + 1) ts)))
      unfolding size_test named_tests
      named_more t f x more l k is e m =
          one_more put_named (named_tests F W (texts fs) (sizes_of ts)) (named_tests F W (texts (drop i fs)) (sizes_of (drop i ts))) rest made more (record { name = get_or fs i f; test = x }) h
          (ap (λ z. named_tests F W (texts z) (sizes_of (drop i ts))) (part_at fs i f k) ∙ ap (named_tests F W ((get_or fs i f).now ∷ texts (drop (i + 1) fs))) (parts_at ts i t l)
          ∙ ap (λ z. named_test_and (get_or fs i f).now z rest) (sym (e ∙ ap (λ z. size_test F W (size_of z)) is)) ∙ sym (ap (λ z. named_test_and z.0 z.1 rest) (named_test_of-parts (record { name = get_or fs i f; test = x })))) m
        where
          rest : blocks.Named_tests
          rest = named_tests F W (texts (drop (i + 1) fs)) (sizes_of (drop (i + 1) ts))

      pub named_end : length ts ≤ i → blocks.named_tests (map named_test_of made) ≡ named_tests F W (texts fs) (sizes_of ts)
      unfolding named_tests
      named_end l = named_are made ∙ sym (h ∙ ap (λ z. before put_named made z) (ap (named_tests F W (texts (drop i fs))) (parts_end ts i l) ∙ named_none F W (texts (drop i fs))))
