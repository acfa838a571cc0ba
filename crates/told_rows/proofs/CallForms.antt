-- What code that unfolds asks, where there may be a sizing.
use Rattle.std.proofs.Common.{◌≡◌, ℕ, ◌+◌, ◌<◌, ◌≤◌, ◌++◌, true, false, cond, get_or, List, [], ◌∷◌, map, length, drop, Option, Some, None, Result, Ok, Err, IfOk, refl, sym, ap, subst, ◌∙◌, append-nil}
use Rattle.std.specs.Borrow.{Bor}
use Rattle.fut_blocks.specs.declared.block.Atom.{Atom}
use Rattle.fut_blocks.specs.declared.row.Extent.{Extent as Held_extent}
use Rattle.fut_blocks.specs.declared.row.RowShape.{RowShape}
use Rattle.fut_blocks.specs.declared.row.RowShape.TheVariants as row
use Rattle.fut_blocks.specs.declared.row.SizeTest.{SizeTest}
use Rattle.fut_blocks.specs.Rows.{Row, Unknown_row, Shape_of, Extent, row_of, extent_of, test_of}
use Rattle.fut_blocks.proofs.Layers.{row_of-Rows, row_of-Data, row_of-Scalar}
use Rattle.fut_flat.specs.declared.prim.Primitive.{Primitive}
use Rattle.fut_flat.specs.declared.prim.Primitive.TheVariants as prim
use Rattle.fut_scalar.specs.declared.scalar.IntType.TheVariants.{I64}
use Rattle.fut_scalar.specs.declared.scalar.ScalarType.TheVariants as sort
use Rattle.fut_meaning.specs.Found.{Sizing}
use Rattle.fut_scalar.specs.declared.memory.NoMemory.{NoMemory}
use Rattle.sized_types.specs.Sizes.{At, Name, Size}
use Rattle.size_arena.proofs.Parts.{drop_past}
use Rattle.unfold.proofs.Mirror.{entered_first}
use Rattle.unfold.specs.declared.known.Entered.TheVariants as held
use Rattle.unfold.specs.declared.known.Known.{Known as Held_known}
use Rattle.unfold.specs.declared.known.Names.{Names as Held_names}
use Rattle.unfold.specs.declared.known.Scope.{Scope as Held_scope}
use Rattle.unfold.specs.Held.{known_of, entered_of, scope_of}
use Rattle.unfold.specs.Knowns.{seeing, entry}
use Rattle.unfold.specs.Telling.{enter, expression, found, literal_row, number, results_row, rows_in, size_used, size_test, tells, test_at, told_row, rows_for}
use Rattle.told_rows.specs.declared.tables.Sizes as tables
use Rattle.told_rows.specs.Arguments.{rows_of}
use Rattle.told_rows.specs.Calls.{maybe_extent, maybe_test}
use Rattle.told_rows.specs.Tables.{Tells, Told_by, node_at}
use Rattle.told_rows.proofs.ArgumentForms.{grown}
use Rattle.told_rows.proofs.RowLists.{part_at}
use Rattle.told_rows.proofs.ShapeForms.{Row_made, Makes, makes_as}

-- there is a sizing where there are tables, and none where there are none
pub told_some : (P : Option Sizing → Type 0) (o : Option (Bor tables.Sizes)) (s : Bor tables.Sizes) (Z : Option Sizing) → o ≡ Some s → Told_by o Z → ((Y : Sizing) → Tells s.now Y → P (Some Y)) → P Z
told_some P o s Z is w go = by Z (subst (λ z. Told_by z Z) is w)
  where
    by : (Y : Option Sizing) → Told_by (Some s) Y → P Y
    by None w = absurd w
    by (Some Y) w = go Y w

pub told_none : (P : Option Sizing → Type 0) (o : Option (Bor tables.Sizes)) (Z : Option Sizing) → o ≡ None → Told_by o Z → P None → P Z
told_none P o Z is w p = by Z (subst (λ z. Told_by z Z) is w)
  where
    by : (Y : Option Sizing) → Told_by None Y → P Y
    by None w = p
    by (Some Y) w = absurd w

module _ (s : tables.Sizes) (Z : Sizing) (w : Tells s Z) where
  -- a pattern is entered
  pub entered_as : (q : ℕ) (k : Held_known) (t : Size) (told : Bor RowShape) (before after : Held_scope) → t ≡ node_at s.nodes.now q → row_of told.now ≡ results_row Z.fields t (tells Z (known_of k)) → after.names ≡ before.names → after.entered.now ≡ held.First q k told before.entered → scope_of after ≡ enter (Some Z) q (known_of k) (scope_of before)
  entered_as q k t told before after node h n e =
      ap (λ (z : Bor Held_names). seeing (Rattle.unfold.specs.Held.names_of z.now) (entered_of after.entered.now)) n
      ∙ ap (seeing (Rattle.unfold.specs.Held.names_of before.names.now))
      (ap entered_of e ∙ entered_first q k told before.entered ∙ ap (λ z. entry q (known_of k) z (entered_of before.entered.now)) (h ∙ ap (λ z. results_row Z.fields z (tells Z (known_of k))) (node ∙ sym (w.nodes q))))

  pub literal_as : (sc : Held_scope) (q : ℕ) (t : Size) (whole : Row) (o : Row_made) → t ≡ node_at s.nodes.now q → whole ≡ told_row Z.fields (number (found Z (entered_of sc.entered.now))) (found Z (entered_of sc.entered.now)).type t → Makes (rows_in whole) o → Makes (literal_row (Some Z) (scope_of sc) q) o
  literal_as sc q t whole o node h m = makes_as o _ _ m (ap rows_in (h ∙ ap (told_row Z.fields (number (found Z (entered_of sc.entered.now))) (found Z (entered_of sc.entered.now)).type) (node ∙ sym (w.nodes q))))

  pub test_as : (sc : Held_scope) (q : ℕ) (t : Size) (made : Bor SizeTest) → t ≡ node_at s.nodes.now q → test_of made.now ≡ size_test Z.fields (found Z (entered_of sc.entered.now)) t → maybe_test (Some made) ≡ test_at (Some Z) (scope_of sc) q
  test_as sc q t made node h = ap Some (h ∙ ap (size_test Z.fields (found Z (entered_of sc.entered.now))) (node ∙ sym (w.nodes q)))

  pub used_as : (sc : Held_scope) (k : ℕ) (many : Held_extent) → true ≡ get_or s.are_sizes.now k false → extent_of many ≡ expression Z (entered_of sc.entered.now) (At (Name k)) → maybe_extent (Some many) ≡ size_used (Some Z) (scope_of sc) k
  used_as sc k many i h = ap Some h ∙ sym (ap (λ z. cond z (Some (expression Z (entered_of sc.entered.now) (At (Name k)))) None) (w.sizes k ∙ sym i))

  pub unused_as : (sc : Held_scope) (k : ℕ) → false ≡ get_or s.are_sizes.now k false → maybe_extent None ≡ size_used (Some Z) (scope_of sc) k
  unused_as sc k i = sym (ap (λ z. cond z (Some (expression Z (entered_of sc.entered.now) (At (Name k)))) None) (w.sizes k ∙ sym i))

-- ---- the rows of data

module _ (us : List Atom) (i : ℕ) (made : List RowShape) (e : map (λ u. rows_in (Shape_of u)) us ≡ rows_of made ++ map (λ u. rows_in (Shape_of u)) (drop i us)) where
  pub atoms_more : (u : Atom) (data_row : Bor RowShape) (more : List RowShape) → i < length us → data_row.now ≡ row.Data (get_or us i u) → more ≡ made ++ row.Rows data_row ∷ [] → map (λ u. rows_in (Shape_of u)) us ≡ rows_of more ++ map (λ u. rows_in (Shape_of u)) (drop (i + 1) us)
  atoms_more u data_row more l h m =
      e
      ∙ ap (λ z. rows_of made ++ map (λ u. rows_in (Shape_of u)) z) (part_at us i u l)
      ∙ ap (λ z. rows_of made ++ z ∷ map (λ u. rows_in (Shape_of u)) (drop (i + 1) us)) (sym (row_of-Rows data_row ∙ ap Rattle.fut_blocks.specs.Rows.Rows_of (ap row_of h ∙ row_of-Data (get_or us i u))))
      ∙ sym (grown row_of made more (row.Rows data_row) (map (λ u. rows_in (Shape_of u)) (drop (i + 1) us)) m)

  pub atoms_over : length us ≤ i → rows_of made ≡ map (λ u. rows_in (Shape_of u)) us
  atoms_over l = sym (e ∙ ap (λ z. rows_of made ++ map (λ u. rows_in (Shape_of u)) z) (drop_past us i l) ∙ append-nil (rows_of made))

-- ---- the arguments of a primitive's function

pub list_as : (o : Result (Bor (List RowShape)) NoMemory) (p q : List Row) → IfOk o (λ made. rows_of made.now ≡ p) → p ≡ q → IfOk o (λ made. rows_of made.now ≡ q)
list_as (Ok made) p q h e = h ∙ e
list_as (Err x) p q h e = tt

pub tabulated_rows : (p : Primitive) (us : List Atom) (r : Bor RowShape) (rs : List RowShape) → p ≡ prim.Tabulate → r.now ≡ row.Scalar (sort.Int I64) → rs ≡ r.now ∷ [] → rows_of rs ≡ rows_for p us
tabulated_rows p us r rs is h e = ap rows_of e ∙ ap (λ z. row_of z ∷ []) h ∙ ap (λ z. z ∷ []) (row_of-Scalar (sort.Int I64)) ∙ sym (ap (λ z. rows_for z us) is)

pub other_rows : (p : Primitive) (us : List Atom) → (p ≡ prim.Tabulate → ⊥) → map (λ u. rows_in (Shape_of u)) us ≡ rows_for p us
other_rows prim.Map us n = refl
other_rows prim.Map2 us n = refl
other_rows prim.Map3 us n = refl
other_rows prim.Map4 us n = refl
other_rows prim.Map5 us n = refl
other_rows prim.Reduce us n = refl
other_rows prim.ReduceComm us n = refl
other_rows prim.Scan us n = refl
other_rows prim.Filter us n = refl
other_rows prim.Partition us n = refl
other_rows prim.Scatter us n = refl
other_rows prim.ReduceByIndex us n = refl
other_rows prim.Zip us n = refl
other_rows prim.Zip3 us n = refl
other_rows prim.Unzip us n = refl
other_rows prim.Unzip3 us n = refl
other_rows prim.Iota us n = refl
other_rows prim.Replicate us n = refl
other_rows prim.Tabulate us n = absurd (n refl)
other_rows prim.Indices us n = refl
other_rows prim.Length us n = refl
other_rows prim.Null us n = refl
other_rows prim.Head us n = refl
other_rows prim.Last us n = refl
other_rows prim.Init us n = refl
other_rows prim.Tail us n = refl
other_rows prim.Take us n = refl
other_rows prim.Drop us n = refl
other_rows prim.Reverse us n = refl
other_rows prim.Rotate us n = refl
other_rows prim.Concat us n = refl
other_rows prim.Flatten us n = refl
other_rows prim.Unflatten us n = refl
other_rows prim.Transpose us n = refl
other_rows prim.Copy us n = refl
other_rows (prim.Convert t u) us n = refl
other_rows (prim.Min t) us n = refl
other_rows (prim.Max t) us n = refl
other_rows (prim.Abs t) us n = refl
other_rows (prim.Popc t) us n = refl
other_rows (prim.Lowest t) us n = refl
other_rows (prim.Highest t) us n = refl
other_rows (prim.NumBits t) us n = refl
other_rows (prim.Fold k t) us n = refl
