-- The shapes of known values, form by form.
use Rattle.std.proofs.Common.{◌≡◌, ℕ, ◌+◌, ◌<◌, ◌≤◌, List, [], ◌∷◌, ◌++◌, map, length, get_or, drop, IfOk, sym, ap, ◌∙◌}
use Rattle.std.specs.Borrow.{Bor}
use Rattle.fut_blocks.specs.declared.block.Atom.{Atom}
use Rattle.fut_blocks.specs.declared.row.FieldShape.{FieldShape}
use Rattle.fut_blocks.specs.declared.row.RowShape.{RowShape}
use Rattle.fut_blocks.specs.declared.row.RowShape.TheVariants as row
use Rattle.fut_blocks.specs.Rows as blocks
use Rattle.fut_blocks.specs.Rows.{Row, Unknown_row, Tuple_row, Record_row, row_and, named_row_and, rows, row_of, named_row_of}
use Rattle.fut_blocks.proofs.Layers.{row_of-Tuple, row_of-Record, row_of-Data, named_row_of-parts}
use Rattle.fut_flat.specs.declared.prim.Primitive.{Primitive}
use Rattle.fut_scalar.specs.declared.place.Place.{Place}
use Rattle.size_arena.proofs.Parts.{drop_past}
use Rattle.unfold.proofs.Mirror.{known_scalar, known_tuple, known_record, known_function, known_primitive, field_is}
use Rattle.unfold.specs.Held.{known_of, field_of, fields_known}
use Rattle.unfold.specs.Knowns.{knowns}
use Rattle.unfold.specs.Telling.{known_row, known_rows, field_rows}
use Rattle.unfold.specs.declared.known.Field.{Field}
use Rattle.unfold.specs.declared.known.Function.{Function}
use Rattle.unfold.specs.declared.known.Known.{Known}
use Rattle.unfold.specs.declared.known.KnownForm.TheVariants as form
use Rattle.told_rows.proofs.RowLists.{before, one_more, put_row, put_field, rows_are, fields_are, part_at}
use Rattle.told_rows.proofs.ShapeForms.{Row_made, Makes, makes_shape}

module _ (s : Known) (o : Row_made) where
  pub scalar_shape : (u : Atom) → s.form ≡ form.Scalar u → IfOk o (λ made. made.now ≡ row.Data u) → Makes (known_row (known_of s)) o
  unfolding known_row
  scalar_shape u is h = makes_shape o (row.Data u) _ h (row_of-Data u ∙ sym (ap known_row (known_scalar s u is)))

  pub tuple_shape : (ss : Bor (List Known)) (xs : Bor (List RowShape)) → s.form ≡ form.Tuple ss → rows (map row_of xs.now) ≡ known_rows (knowns (map known_of ss.now)) → IfOk o (λ made. made.now ≡ row.Tuple xs) → Makes (known_row (known_of s)) o
  unfolding known_row known_rows
  tuple_shape ss xs is e h = makes_shape o (row.Tuple xs) _ h (row_of-Tuple xs ∙ ap Tuple_row e ∙ sym (ap known_row (known_tuple s ss is)))

  pub record_shape : (fs : Bor (List Field)) (xs : Bor (List FieldShape)) → s.form ≡ form.Record fs → blocks.named_rows (map named_row_of xs.now) ≡ field_rows (fields_known (map field_of fs.now)) → IfOk o (λ made. made.now ≡ row.Record xs) → Makes (known_row (known_of s)) o
  unfolding known_row field_rows
  record_shape fs xs is e h = makes_shape o (row.Record xs) _ h (row_of-Record xs ∙ ap Record_row e ∙ sym (ap known_row (known_record s fs is)))

module _ (s : Known) (r : RowShape) (h : row_of r ≡ Unknown_row) where
  pub function_shape : (f : Bor Function) → s.form ≡ form.Function f → row_of r ≡ known_row (known_of s)
  unfolding known_row
  function_shape f is = h ∙ sym (ap known_row (known_function s f is))

  pub primitive_shape : (p : Primitive) (at : Place) (ss : Bor (List Known)) → s.form ≡ form.Primitive p at ss → row_of r ≡ known_row (known_of s)
  unfolding known_row
  primitive_shape p at ss is = h ∙ sym (ap known_row (known_primitive s p at ss is))

module _ (ss : List Known) (i : ℕ) (made : List RowShape) where
  abbrev all_from : ℕ → blocks.Rows
  all_from j = known_rows (knowns (map known_of (drop j ss)))

  module _ (h : known_rows (knowns (map known_of ss)) ≡ before put_row made (all_from i)) where
    pub rows_more : (s : Known) (x : RowShape) (more : List RowShape) → i < length ss → row_of x ≡ known_row (known_of (get_or ss i s)) → more ≡ made ++ x ∷ [] → known_rows (knowns (map known_of ss)) ≡ before put_row more (known_rows (knowns (map known_of (drop (i + 1) ss))))
    unfolding known_row known_rows
    rows_more s x more l e m =
        one_more put_row (known_rows (knowns (map known_of ss))) (all_from i) (all_from (i + 1)) made more x h (ap (λ z. known_rows (knowns (map known_of z))) (part_at ss i s l) ∙ ap (λ z. row_and z (all_from (i + 1))) (sym e)) m

    pub rows_end : length ss ≤ i → rows (map row_of made) ≡ known_rows (knowns (map known_of ss))
    unfolding known_rows
    rows_end l = rows_are made ∙ sym (h ∙ ap (λ z. before put_row made z) (ap (λ z. known_rows (knowns (map known_of z))) (drop_past ss i l)))

module _ (fs : List Field) (i : ℕ) (made : List FieldShape) where
  abbrev each_from : ℕ → blocks.Named_rows
  each_from j = field_rows (fields_known (map field_of (drop j fs)))

  module _ (h : field_rows (fields_known (map field_of fs)) ≡ before put_field made (each_from i)) where
    pub fields_more : (f : Field) (x : RowShape) (more : List FieldShape) → i < length fs → row_of x ≡ known_row (known_of (get_or fs i f).known) → more ≡ made ++ record { name = (get_or fs i f).name; row = x } ∷ []
        → field_rows (fields_known (map field_of fs)) ≡ before put_field more (field_rows (fields_known (map field_of (drop (i + 1) fs))))
    unfolding known_row field_rows fields_known
    fields_more f x more l e m =
        one_more put_field (field_rows (fields_known (map field_of fs))) (each_from i) (each_from (i + 1)) made more (record { name = (get_or fs i f).name; row = x }) h
        (ap (λ z. field_rows (fields_known (map field_of z))) (part_at fs i f l) ∙ ap (λ z. named_row_and z.0 (known_row z.1) (each_from (i + 1))) (field_is (get_or fs i f))
        ∙ ap (λ z. named_row_and (get_or fs i f).name.now z (each_from (i + 1))) (sym e) ∙ sym (ap (λ z. named_row_and z.0 z.1 (each_from (i + 1))) (named_row_of-parts (record { name = (get_or fs i f).name; row = x })))) m

    pub fields_end : length fs ≤ i → blocks.named_rows (map named_row_of made) ≡ field_rows (fields_known (map field_of fs))
    unfolding field_rows fields_known
    fields_end l = fields_are made ∙ sym (h ∙ ap (λ z. before put_field made z) (ap (λ z. field_rows (fields_known (map field_of z))) (drop_past fs i l)))
