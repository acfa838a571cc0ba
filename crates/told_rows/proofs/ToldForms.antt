-- The shape of data of a sized type, form by form.
use Rattle.std.proofs.Common.{◌≡◌, ℕ, ◌+◌, ◌<◌, ◌≤◌, Bool, List, [], ◌∷◌, ◌++◌, map, length, get_or, drop, IfOk, refl, sym, ap, ◌∙◌}
use Rattle.std.specs.Borrow.{Bor}
use Rattle.fut_ast.specs.Sorts.{Text}
use Rattle.fut_blocks.specs.declared.row.Extent.{Extent as Held_extent}
use Rattle.fut_blocks.specs.declared.row.FieldShape.{FieldShape}
use Rattle.fut_blocks.specs.declared.row.RowShape.{RowShape}
use Rattle.fut_blocks.specs.declared.row.RowShape.TheVariants as row
use Rattle.fut_blocks.specs.Rows as blocks
use Rattle.fut_blocks.specs.Rows.{Row, Unknown_row, Array_row, Rows, no_row, row_and, rows, Named_rows, Extent, Nowhere, Exactly, extent_of, row_of, named_row_of}
use Rattle.fut_blocks.proofs.Layers.{row_of-Scalar, row_of-Tuple, row_of-Array, row_of-Record}
use Rattle.fut_scalar.specs.declared.scalar.ScalarType.{ScalarType}
use Rattle.fut_types.specs.declared.Head.{Head}
use Rattle.fut_types.specs.declared.Head.TheVariants as head
use Rattle.fut_types.specs.declared.Kind.{Kind}
use Rattle.sized_types.specs.Sizes.{Const, Name, Own, Unknown, Slot, Dim, At, Bound, Variable, Size, Hole, Open, Level, Built, Fun, Sizes, no_size, size_and}
use Rattle.size_arena.specs.declared.dims.Dim as dims
use Rattle.size_arena.specs.declared.dims.Variable as variables
use Rattle.size_arena.specs.declared.trees.SizeTree.{SizeTree}
use Rattle.size_arena.specs.declared.trees.SizeTree.TheVariants as form
use Rattle.size_arena.specs.declared.types.TypeTree.{TypeTree}
use Rattle.size_arena.specs.Trees.{dim_of, variable_of, size_of, sizes_of}
use Rattle.size_arena.proofs.Forms.{size_hole, size_open, size_level, size_built, size_fun}
use Rattle.size_arena.proofs.Parts.{parts_at, parts_end}
use Rattle.fut_meaning.specs.Found.{Sizing}
use Rattle.unfold.specs.declared.known.Entered.{Entered as Held_entered}
use Rattle.unfold.specs.Held.{entered_of}
use Rattle.unfold.specs.Knowns.{no_entry}
use Rattle.unfold.specs.Telling.{told_row, told_rows, headed, named_rows, chosen_none, chosen_row, found, number, nothing_found}
use Rattle.told_rows.proofs.RowLists.{before, one_more, put_row, rows_are}
use Rattle.told_rows.proofs.ShapeForms.{Row_made, Makes, makes_as, makes_shape}

module _ (F : ℕ → List Text) (number : Dim → Extent) (type : Variable → Row) (t : SizeTree) where
  pub hole_told : (v : variables.Variable) (o : Row_made) → t ≡ form.Hole v → Makes (type (variable_of v)) o → Makes (told_row F number type (size_of t)) o
  unfolding told_row
  hole_told v o is h = makes_as o (type (variable_of v)) (told_row F number type (size_of t)) h (sym (ap (told_row F number type) (ap size_of is ∙ size_hole v)))

  module _ (r : RowShape) (h : row_of r ≡ Unknown_row) where
    pub open_told : (n : ℕ) (v : variables.Variable) (u : Bor TypeTree) → t ≡ form.Open n v u → row_of r ≡ told_row F number type (size_of t)
    unfolding told_row
    open_told n v u is = h ∙ sym (ap (told_row F number type) (ap size_of is ∙ size_open n v u))

    pub fun_told : (height k : ℕ) (p q : Bor SizeTree) → t ≡ form.Fun height k p q → row_of r ≡ told_row F number type (size_of t)
    unfolding told_row
    fun_told height k p q is = h ∙ sym (ap (told_row F number type) (ap size_of is ∙ size_fun height k p q))

  pub level_told : (height : ℕ) (d : dims.Dim) (r : Bor SizeTree) (many : Held_extent) (under : Bor RowShape) (o : Row_made) → t ≡ form.Level height d r → extent_of many ≡ number (dim_of d) → row_of under.now ≡ told_row F number type (size_of r.now)
      → IfOk o (λ made. made.now ≡ row.Array many under) → Makes (told_row F number type (size_of t)) o
  unfolding told_row
  level_told height d r many under o is e u h =
      makes_shape o (row.Array many under) (told_row F number type (size_of t)) h
      (row_of-Array many under ∙ ap (λ z. Array_row z (row_of under.now)) e ∙ ap (Array_row (number (dim_of d))) u ∙ sym (ap (told_row F number type) (ap size_of is ∙ size_level height d r)))

  pub built_told : (height : ℕ) (h : Head) (ts : Bor (List SizeTree)) (xs : Bor (List RowShape)) (o : Row_made) → t ≡ form.Built height h ts → rows (map row_of xs.now) ≡ told_rows F number type (sizes_of ts.now)
      → Makes (headed h (rows (map row_of xs.now)) (λ n. named_rows (F n) (rows (map row_of xs.now)))) o → Makes (told_row F number type (size_of t)) o
  unfolding told_row told_rows
  built_told height h ts xs o is e m =
      makes_as o (headed h (rows (map row_of xs.now)) (λ n. named_rows (F n) (rows (map row_of xs.now)))) (told_row F number type (size_of t)) m
      (ap (λ z. headed h z (λ n. named_rows (F n) z)) e ∙ sym (ap (told_row F number type) (ap size_of is ∙ size_built height h ts)))

module _ (F : ℕ → List Text) (number : Dim → Extent) (type : Variable → Row) (ts : List SizeTree) (i : ℕ) (made : List RowShape) (h : told_rows F number type (sizes_of ts) ≡ before put_row made (told_rows F number type (sizes_of (drop i ts)))) where
  pub told_more : (t : SizeTree) (x : RowShape) (more : List RowShape) → i < length ts → t ≡ get_or ts i t → row_of x ≡ told_row F number type (size_of t) → more ≡ made ++ x ∷ []
      → told_rows F number type (sizes_of ts) ≡ before put_row more (told_rows F number type (sizes_of (drop (i + 1) ts)))
  unfolding told_row told_rows
  told_more t x more l is e m =
      one_more put_row (told_rows F number type (sizes_of ts)) (told_rows F number type (sizes_of (drop i ts))) (told_rows F number type (sizes_of (drop (i + 1) ts))) made more x h
      (ap (told_rows F number type) (parts_at ts i t l) ∙ ap (λ z. row_and z (told_rows F number type (sizes_of (drop (i + 1) ts)))) (sym (e ∙ ap (λ z. told_row F number type (size_of z)) is))) m

  pub told_end : length ts ≤ i → rows (map row_of made) ≡ told_rows F number type (sizes_of ts)
  unfolding told_rows
  told_end l = rows_are made ∙ sym (h ∙ ap (λ z. before put_row made z) (ap (told_rows F number type) (parts_end ts i l)))

-- ---- by what a type is made of

module _ (h : Head) (rs : Rows) (named : ℕ → Named_rows) where
  pub scalar_headed : (s : ScalarType) (o : Row_made) → h ≡ head.Scalar s → IfOk o (λ made. made.now ≡ row.Scalar s) → Makes (headed h rs named) o
  scalar_headed s o is m = makes_shape o (row.Scalar s) _ m (row_of-Scalar s ∙ sym (ap (λ z. headed z rs named) is))

  pub tuple_headed : (xs : Bor (List RowShape)) (o : Row_made) → h ≡ head.Tuple → rows (map row_of xs.now) ≡ rs → IfOk o (λ made. made.now ≡ row.Tuple xs) → Makes (headed h rs named) o
  tuple_headed xs o is e m = makes_shape o (row.Tuple xs) _ m (row_of-Tuple xs ∙ ap blocks.Tuple_row e ∙ sym (ap (λ z. headed z rs named) is))

  pub record_headed : (n : ℕ) (fs : Bor (List FieldShape)) (o : Row_made) → h ≡ head.Record n → blocks.named_rows (map named_row_of fs.now) ≡ named n → IfOk o (λ made. made.now ≡ row.Record fs) → Makes (headed h rs named) o
  record_headed n fs o is e m = makes_shape o (row.Record fs) _ m (row_of-Record fs ∙ ap blocks.Record_row e ∙ sym (ap (λ z. headed z rs named) is))

  module _ (r : Row) (u : r ≡ Unknown_row) where
    pub array_headed : h ≡ head.Array → r ≡ headed h rs named
    array_headed is = u ∙ sym (ap (λ z. headed z rs named) is)

    pub fun_headed : h ≡ head.Fun → r ≡ headed h rs named
    fun_headed is = u ∙ sym (ap (λ z. headed z rs named) is)

    pub rigid_headed : (b : ℕ) (k : Kind) → h ≡ head.Rigid b k → r ≡ headed h rs named
    rigid_headed b k is = u ∙ sym (ap (λ z. headed z rs named) is)

    pub abstract_headed : (b : ℕ) (k : Bool) → h ≡ head.Abstract b k → r ≡ headed h rs named
    abstract_headed b k is = u ∙ sym (ap (λ z. headed z rs named) is)

-- ---- shapes go by what sizes are worth

module _ (F : ℕ → List Text) (n m : Dim → Extent) (t u : Variable → Row) (a : (d : Dim) → n d ≡ m d) (b : (v : Variable) → t v ≡ u v) where
  mutual
    unfolding told_row told_rows

    pub rows_alike : (x : Size) → told_row F n t x ≡ told_row F m u x
    rows_alike (Hole v) = b v
    rows_alike (Open k v y) = refl
    rows_alike (Level d x) = ap (λ z. Array_row z (told_row F n t x)) (a d) ∙ ap (Array_row (m d)) (rows_alike x)
    rows_alike (Built h xs) = ap (λ z. headed h z (λ k. named_rows (F k) z)) (all_alike xs)
    rows_alike (Fun k p r) = refl

    pub all_alike : (xs : Sizes) → told_rows F n t xs ≡ told_rows F m u xs
    all_alike no_size = refl
    all_alike (size_and x xs) = ap (λ z. row_and z (told_rows F n t xs)) (rows_alike x) ∙ ap (row_and (told_row F m u x)) (all_alike xs)

-- where nothing is found, each size is 0
pub nothing_chosen : (d : Dim) → number nothing_found d ≡ chosen_none d
nothing_chosen (At (Const c)) = refl
nothing_chosen (At (Name b)) = refl
nothing_chosen (At (Own n i)) = refl
nothing_chosen (At (Unknown n i)) = refl
nothing_chosen (At (Slot i)) = refl
nothing_chosen (Bound j i) = refl

-- where nothing was entered
pub nothing_told : (Z : Sizing) (e : Bor Held_entered) (t : SizeTree) (o : Row_made) → entered_of e.now ≡ no_entry → Makes (told_row Z.fields (number (found Z (entered_of e.now))) (found Z (entered_of e.now)).type (size_of t)) o → Makes (chosen_row Z.fields (size_of t)) o
unfolding found
nothing_told Z e t o is m =
    makes_as o _ _ m
    (ap (λ z. told_row Z.fields (number (found Z z)) (found Z z).type (size_of t)) is ∙ rows_alike Z.fields (number nothing_found) chosen_none (λ v. Unknown_row) (λ v. Unknown_row) nothing_chosen (λ v. refl) (size_of t))
