-- Shapes that are made, and parts of shapes.
use Rattle.std.proofs.Common.{◌≡◌, ℕ, zero, suc, ◌+◌, ◌<◌, ◌≤◌, true, false, cond, List, [], ◌∷◌, map, length, get_or, drop, Result, Ok, Err, IfOk, refl, sym, ap, ◌∙◌, arith}
use Rattle.std.specs.Borrow.{Bor}
use Rattle.std.specs.Str.{bytes_eq}
use Rattle.fut_ast.specs.Sorts.{Text}
use Rattle.fut_blocks.specs.declared.row.FieldShape.{FieldShape}
use Rattle.fut_blocks.specs.declared.row.RowShape.{RowShape}
use Rattle.fut_blocks.specs.Rows.{Row, Unknown_row, Named_rows, rows, named_rows, row_of, named_row_of}
use Rattle.fut_blocks.proofs.Layers.{named_row_of-parts}
use Rattle.fut_scalar.specs.declared.memory.NoMemory.{NoMemory}
use Rattle.size_arena.proofs.Parts.{drop_past}
use Rattle.unfold.specs.Telling.{part_at, field_at}
use Rattle.told_rows.proofs.RowLists.{part_at as item_at}

abbrev pub Row_made : Type 0
Row_made = Result (Bor RowShape) NoMemory

abbrev pub Makes : Row → Row_made → Type 0
Makes r o = IfOk o (λ made. row_of made.now ≡ r)

pub makes_as : (o : Row_made) (r s : Row) → Makes r o → r ≡ s → Makes s o
makes_as (Ok made) r s h e = h ∙ e
makes_as (Err x) r s h e = tt

-- a shape that stands in the arena
pub makes_shape : (o : Row_made) (x : RowShape) (r : Row) → IfOk o (λ made. made.now ≡ x) → row_of x ≡ r → Makes r o
makes_shape (Ok made) x r h e = ap row_of h ∙ e
makes_shape (Err z) x r h e = tt

-- ---- parts

pub part_there : (xs : List RowShape) (k : ℕ) (x : RowShape) → k < length xs → row_of (get_or xs k x) ≡ part_at k (rows (map row_of xs))
part_there [] k x l = absurd (omega (arith, l))
part_there (y ∷ ys) zero x l = refl
part_there (y ∷ ys) (suc k) x l = part_there ys k x (omega (arith, l))

pub part_nowhere : (xs : List RowShape) (k : ℕ) → length xs ≤ k → Unknown_row ≡ part_at k (rows (map row_of xs))
part_nowhere [] k l = refl
part_nowhere (y ∷ ys) zero l = absurd (omega (arith, l))
part_nowhere (y ∷ ys) (suc k) l = part_nowhere ys k (omega (arith, l))

-- ---- fields

-- the fields from one on
abbrev pub fields_from : List FieldShape → ℕ → Named_rows
fields_from fs j = named_rows (map named_row_of (drop j fs))

module _ (name : Text) (fs : List FieldShape) (i : ℕ) where
  module _ (f : FieldShape) (l : i < length fs) (e : field_at name (fields_from fs 0) ≡ field_at name (fields_from fs i)) where
    field_step : field_at name (fields_from fs 0) ≡ cond (bytes_eq (get_or fs i f).name.now name) (row_of (get_or fs i f).row) (field_at name (fields_from fs (i + 1)))
    field_step = e ∙ ap (λ z. field_at name (named_rows (map named_row_of z))) (item_at fs i f l) ∙ ap (λ z. cond (bytes_eq z.0 name) z.1 (field_at name (fields_from fs (i + 1)))) (named_row_of-parts (get_or fs i f))

    pub field_here : bytes_eq (get_or fs i f).name.now name ≡ true → row_of (get_or fs i f).row ≡ field_at name (fields_from fs 0)
    field_here h = sym (field_step ∙ ap (λ z. cond z (row_of (get_or fs i f).row) (field_at name (fields_from fs (i + 1)))) h)

    pub field_on : bytes_eq (get_or fs i f).name.now name ≡ false → field_at name (fields_from fs 0) ≡ field_at name (fields_from fs (i + 1))
    field_on h = field_step ∙ ap (λ z. cond z (row_of (get_or fs i f).row) (field_at name (fields_from fs (i + 1)))) h

  pub field_end : length fs ≤ i → field_at name (fields_from fs 0) ≡ field_at name (fields_from fs i) → Unknown_row ≡ field_at name (fields_from fs 0)
  field_end l e = sym (e ∙ ap (λ z. field_at name (named_rows (map named_row_of z))) (drop_past fs i l))

pub ruleset parts = (part_there, part_nowhere)
