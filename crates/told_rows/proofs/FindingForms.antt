-- Sizes of frames, and type variables of function types that are around.
use Rattle.std.proofs.Common.{◌≡◌, ℕ, suc, ◌+◌, ◌-◌, ◌<◌, ◌≤◌, List, [], ◌∷◌, length, get_or, Option, Some, None, refl, sym, ap, ◌∙◌, arith, ◌⊎◌, inl, inr}
use Rattle.std.proofs.Math.Nat.{eq-or-lt_of_le}
use Rattle.fut_ast.specs.Sorts.{Text}
use Rattle.fut_blocks.specs.Rows.{Row, Extent, Nowhere, row_of}
use Rattle.fut_meaning.specs.Places as places
use Rattle.fut_meaning.specs.Places.{or_else, on_place}
use Rattle.sized_types.specs.Sizes.{Free, Dim, At, Bound, Variable}
use Rattle.size_arena.specs.declared.dims.Dim.TheVariants as dim
use Rattle.size_arena.specs.declared.dims.Variable as variables
use Rattle.size_arena.specs.Trees.{size_of, variable_of}
use Rattle.unfold.specs.Telling.{at_row, length_of, pushed, typed_by}
use Rattle.told_rows.specs.declared.findings.Shaped.{Shaped}
use Rattle.told_rows.specs.declared.places.Sought.TheVariants as sought
use Rattle.told_rows.specs.Findings.{pushed_all, typed_all, last_there}
use Rattle.told_rows.specs.Places.{there, place_of, or_row, or_length}

module _ (F : ℕ → List Text) where
  -- a size by itself stands in no frame
  pub frames_free : (xs : List Shaped) (n : Dim → Extent) (d : Free) → pushed_all F xs n (At d) ≡ n (At d)
  frames_free [] n d = refl
  frames_free (x ∷ xs) n d = frames_free xs (pushed F (size_of x.tree.now) (row_of x.row.now) n) d

  pub frames_type : (xs : List Shaped) (u : Variable → Row) (v : variables.Variable) → typed_all F xs u (variable_of v) ≡ or_row (last_there F (sought.Type v) xs) (u (variable_of v))
  frames_type [] u v = refl
  frames_type (x ∷ xs) u v = frames_type xs (typed_by F (size_of x.tree.now) (row_of x.row.now) u) v ∙ by (last_there F (sought.Type v) xs) (place_of F (sought.Type v) (size_of x.tree.now))
    where
      by : (a : Option Row) (o : Option places.Path) → or_row a (on_place o (λ p. at_row p (row_of x.row.now)) (u (variable_of v))) ≡ or_row (or_else a (on_place o (λ p. Some (at_row p (row_of x.row.now))) None)) (u (variable_of v))
      by (Some r) o = refl
      by None (Some p) = refl
      by None None = refl

  -- what the frame of a position is worth there
  abbrev pub frame_worth : ℕ → Shaped → Extent
  frame_worth i x = or_length (there F (sought.Size (dim.Bound 0 i)) (size_of x.tree.now) (row_of x.row.now) None) Nowhere

  frame_is : (i : ℕ) (x : Shaped) (n : Dim → Extent) → pushed F (size_of x.tree.now) (row_of x.row.now) n (Bound 0 i) ≡ frame_worth i x
  frame_is i x n = by (places.size_place F (Bound 0 i) (size_of x.tree.now))
    where
      by : (o : Option places.Path) → on_place o (λ p. length_of (at_row p (row_of x.row.now))) Nowhere ≡ or_length (on_place o (λ p. Some (at_row p (row_of x.row.now))) None) Nowhere
      by (Some p) = refl
      by None = refl

  -- further out than these frames
  frames_past : (xs : List Shaped) (n : Dim → Extent) (k i : ℕ) → pushed_all F xs n (Bound (k + length xs) i) ≡ n (Bound k i)
  frames_past [] n k i = ap (λ z. n (Bound z i)) {y = k} (omega arith)
  frames_past (x ∷ xs) n k i = ap (λ z. pushed_all F (x ∷ xs) n (Bound z i)) {y = suc k + length xs} (omega arith) ∙ frames_past xs (pushed F (size_of x.tree.now) (row_of x.row.now) n) (suc k) i

  pub frames_outside : (xs : List Shaped) (n : Dim → Extent) (j i : ℕ) → ((k : ℕ) → n (Bound k i) ≡ Nowhere) → length xs ≤ j → Nowhere ≡ pushed_all F xs n (Bound j i)
  frames_outside xs n j i z l = sym (ap (λ m. pushed_all F xs n (Bound m i)) {y = (j - length xs) + length xs} (omega (arith, l)) ∙ frames_past xs n (j - length xs) i ∙ z (j - length xs))

  -- the frame that so many stand between, from the last on
  pub frames_at : (xs : List Shaped) (n : Dim → Extent) (j i : ℕ) (x : Shaped) → j < length xs → pushed_all F xs n (Bound j i) ≡ frame_worth i (get_or xs (length xs - 1 - j) x)
  frames_at [] n j i x l = absurd (omega (arith, l))
  frames_at (y ∷ ys) n j i x l = by (λ m. frames_at ys (pushed F (size_of y.tree.now) (row_of y.row.now) n) j i x m) (eq-or-lt_of_le (omega (arith, l)))
    where
      by : (j < length ys → pushed_all F ys (pushed F (size_of y.tree.now) (row_of y.row.now) n) (Bound j i) ≡ frame_worth i (get_or ys (length ys - 1 - j) x)) → (j ≡ length ys) ⊎ (j < length ys) → pushed_all F (y ∷ ys) n (Bound j i) ≡ frame_worth i (get_or (y ∷ ys) (length (y ∷ ys) - 1 - j) x)
      by deeper (inl e) =
          ap (λ m. pushed_all F (y ∷ ys) n (Bound m i)) e
          ∙ ap (λ m. pushed_all F ys (pushed F (size_of y.tree.now) (row_of y.row.now) n) (Bound m i)) {y = 0 + length ys} (omega arith)
          ∙ frames_past ys (pushed F (size_of y.tree.now) (row_of y.row.now) n) 0 i
          ∙ frame_is i y n
          ∙ ap (λ m. frame_worth i (get_or (y ∷ ys) m x)) {x = 0} (omega (arith, e))
      by deeper (inr m) = deeper m ∙ ap (λ k. frame_worth i (get_or (y ∷ ys) k x)) {x = suc (length ys - 1 - j)} (omega (arith, m))
