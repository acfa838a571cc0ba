-- What is asked of entries, of data and of frames, where tables tell a sizing.
use Rattle.std.proofs.Common.{◌≡◌, ℕ, ◌-◌, ◌<◌, ◌≤◌, Bool, true, false, cond, length, get_or, Option, Some, None, Result, Ok, Err, IfOk, refl, sym, ap, ◌∙◌}
use Rattle.std.specs.Borrow.{Bor}
use Rattle.fut_blocks.specs.declared.row.Extent.{Extent as Held_extent}
use Rattle.fut_blocks.specs.declared.row.RowShape.{RowShape}
use Rattle.fut_blocks.specs.Rows.{Row, Unknown_row, Extent, Nowhere, Exactly, row_of, extent_of}
use Rattle.fut_meaning.specs.Found.{Sizing}
use Rattle.fut_scalar.specs.declared.memory.NoMemory.{NoMemory}
use Rattle.sized_types.specs.Sizes.{Free, Const, At, Bound, Variable, Size}
use Rattle.size_arena.specs.declared.dims.Dim as dims
use Rattle.size_arena.specs.declared.dims.Dim.TheVariants as dim
use Rattle.size_arena.specs.declared.dims.Free as frees
use Rattle.size_arena.specs.declared.dims.Free.TheVariants as free
use Rattle.size_arena.specs.declared.dims.Variable as variables
use Rattle.size_arena.specs.Trees.{size_of, dim_of, free_of, variable_of}
use Rattle.unfold.proofs.Mirror.{entered_nothing, entered_first}
use Rattle.unfold.specs.declared.known.Entered.{Entered as Held_entered}
use Rattle.unfold.specs.declared.known.Entered.TheVariants as held
use Rattle.unfold.specs.declared.known.Known.{Known as Held_known}
use Rattle.unfold.specs.Held.{known_of, entered_of}
use Rattle.unfold.specs.Telling.{found, number, length_of, named_worth, known_worth}
use Rattle.told_rows.specs.declared.findings.Findings.{Findings}
use Rattle.told_rows.specs.declared.findings.Shaped.{Shaped}
use Rattle.told_rows.specs.declared.places.Sought.TheVariants as sought
use Rattle.told_rows.specs.declared.tables.Sizes as tables
use Rattle.told_rows.specs.Findings.{found_in, number_in, type_in, last_there}
use Rattle.told_rows.specs.Places.{maybe_row, entry_there, or_row, or_length, there}
use Rattle.told_rows.specs.Tables.{Tells, node_at}
use Rattle.told_rows.proofs.SearchForms.{type_step, found_by, all_types, all_sizes}
use Rattle.told_rows.proofs.FindingForms.{frames_free, frames_type, frames_at, frames_outside}
use Rattle.told_rows.proofs.ShapeForms.{Row_made, Makes, makes_as}

abbrev pub Many_made : Type 0
Many_made = Result Held_extent NoMemory

pub many_as : (o : Many_made) (d e : Extent) → IfOk o (λ many. extent_of many ≡ d) → d ≡ e → IfOk o (λ many. extent_of many ≡ e)
many_as (Ok many) d e h i = h ∙ i
many_as (Err x) d e h i = tt

-- nothing was entered
module _ (Z : Sizing) (c : Held_entered) (is : c ≡ held.Nothing) where
  pub size_nowhere : (d : Free) → (found Z (entered_of c)).size d ≡ Nowhere
  unfolding found
  size_nowhere d = ap (λ z. (found Z z).size d) (ap entered_of is ∙ entered_nothing)

  pub type_nowhere : (v : Variable) → (found Z (entered_of c)).type v ≡ Unknown_row
  unfolding found
  type_nowhere v = ap (λ z. (found Z z).type v) (ap entered_of is ∙ entered_nothing)

module _ (Z : Sizing) (s : tables.Sizes) (w : Tells s Z) where
  module _ (c : Held_entered) (q : ℕ) (k : Held_known) (r : Bor RowShape) (es : Bor Held_entered) (is : c ≡ held.First q k r es) (t : Size) (node : t ≡ node_at s.nodes.now q) where
    here : t ≡ Z.size_at q
    here = node ∙ sym (w.nodes q)

    step_type : (v : variables.Variable) (o : Option Row) → o ≡ entry_there Z.fields (sought.Type v) t (known_of k) (row_of r.now) → (found Z (entered_of c)).type (variable_of v) ≡ or_row o ((found Z (entered_of es.now)).type (variable_of v))
    step_type v o h =
        ap (λ z. (found Z z).type (variable_of v)) (ap entered_of is ∙ entered_first q k r es)
        ∙ type_step Z q (known_of k) (row_of r.now) (entered_of es.now) v
        ∙ sym (ap (λ z. or_row z ((found Z (entered_of es.now)).type (variable_of v))) (h ∙ ap (λ z. entry_there Z.fields (sought.Type v) z (known_of k) (row_of r.now)) here))

    module _ (v : variables.Variable) (o : Option (Bor RowShape)) (h : maybe_row o ≡ entry_there Z.fields (sought.Type v) t (known_of k) (row_of r.now)) where
      pub type_here : (p : Bor RowShape) → o ≡ Some p → row_of p.now ≡ (found Z (entered_of c)).type (variable_of v)
      type_here p j = sym (step_type v (maybe_row o) h ∙ ap (λ z. or_row (maybe_row z) ((found Z (entered_of es.now)).type (variable_of v))) j)

      pub type_on : o ≡ None → (found Z (entered_of c)).type (variable_of v) ≡ (found Z (entered_of es.now)).type (variable_of v)
      type_on j = step_type v (maybe_row o) h ∙ ap (λ z. or_row (maybe_row z) ((found Z (entered_of es.now)).type (variable_of v))) j

    module _ (d : frees.Free) where
      step_size : (o : Option Row) → o ≡ entry_there Z.fields (sought.Size (dim.At d)) t (known_of k) (row_of r.now) → (found Z (entered_of c)).size (free_of d) ≡ named_worth Z.home q t (known_worth (known_of k)) (free_of d) (or_length o ((found Z (entered_of es.now)).size (free_of d)))
      step_size o h =
          ap (λ z. (found Z z).size (free_of d)) (ap entered_of is ∙ entered_first q k r es)
          ∙ found_by Z q (known_of k) (row_of r.now) (entered_of es.now) d
          ∙ ap (λ z. named_worth Z.home q (Z.size_at q) (known_worth (known_of k)) (free_of d) (or_length z ((found Z (entered_of es.now)).size (free_of d)))) (sym (h ∙ ap (λ z. entry_there Z.fields (sought.Size (dim.At d)) z (known_of k) (row_of r.now)) here))
          ∙ ap (λ z. named_worth Z.home q z (known_worth (known_of k)) (free_of d) (or_length o ((found Z (entered_of es.now)).size (free_of d)))) (sym here)

      module _ (b : Bool) (n : (e f : Extent) → named_worth Z.home q t e (free_of d) f ≡ cond b e f) where
        pub size_named : (e : Extent) → b ≡ true → e ≡ known_worth (known_of k) → e ≡ (found Z (entered_of c)).size (free_of d)
        size_named e j h = h ∙ sym (step_size _ refl ∙ n (known_worth (known_of k)) (or_length (entry_there Z.fields (sought.Size (dim.At d)) t (known_of k) (row_of r.now)) ((found Z (entered_of es.now)).size (free_of d))) ∙ ap (λ z. cond z (known_worth (known_of k)) (or_length (entry_there Z.fields (sought.Size (dim.At d)) t (known_of k) (row_of r.now)) ((found Z (entered_of es.now)).size (free_of d)))) j)

        module _ (e : b ≡ false) (o : Option (Bor RowShape)) (h : maybe_row o ≡ entry_there Z.fields (sought.Size (dim.At d)) t (known_of k) (row_of r.now)) where
          size_other : (found Z (entered_of c)).size (free_of d) ≡ or_length (maybe_row o) ((found Z (entered_of es.now)).size (free_of d))
          size_other = step_size (maybe_row o) h ∙ n (known_worth (known_of k)) (or_length (maybe_row o) ((found Z (entered_of es.now)).size (free_of d))) ∙ ap (λ z. cond z (known_worth (known_of k)) (or_length (maybe_row o) ((found Z (entered_of es.now)).size (free_of d)))) e

          pub size_here : (p : Bor RowShape) (made : Many_made) → o ≡ Some p → IfOk made (λ many. extent_of many ≡ length_of (row_of p.now)) → IfOk made (λ many. extent_of many ≡ (found Z (entered_of c)).size (free_of d))
          size_here p made j m = many_as made _ _ m (sym (size_other ∙ ap (λ z. or_length (maybe_row z) ((found Z (entered_of es.now)).size (free_of d))) j))

          pub size_on : o ≡ None → (found Z (entered_of c)).size (free_of d) ≡ (found Z (entered_of es.now)).size (free_of d)
          size_on j = size_other ∙ ap (λ z. or_length (maybe_row z) ((found Z (entered_of es.now)).size (free_of d))) j

  -- ---- data, and frames

  module _ (f : Findings) where
    module _ (d : frees.Free) (o : Option (Bor RowShape)) (h : maybe_row o ≡ last_there Z.fields (sought.Size (dim.At d)) f.given.now) where
      free_step : (found_in Z f).size (free_of d) ≡ or_length (maybe_row o) ((found Z (entered_of f.entered.now)).size (free_of d))
      free_step = all_sizes Z.fields f.given.now (found Z (entered_of f.entered.now)) d ∙ ap (λ z. or_length z ((found Z (entered_of f.entered.now)).size (free_of d))) (sym h)

      pub free_given : (p : Bor RowShape) (made : Many_made) → o ≡ Some p → IfOk made (λ many. extent_of many ≡ length_of (row_of p.now)) → IfOk made (λ many. extent_of many ≡ (found_in Z f).size (free_of d))
      free_given p made j m = many_as made _ _ m (sym (free_step ∙ ap (λ z. or_length (maybe_row z) ((found Z (entered_of f.entered.now)).size (free_of d))) j))

      pub free_entered : (made : Many_made) → o ≡ None → IfOk made (λ many. extent_of many ≡ (found Z (entered_of f.entered.now)).size (free_of d)) → IfOk made (λ many. extent_of many ≡ (found_in Z f).size (free_of d))
      free_entered made j m = many_as made _ _ m (sym (free_step ∙ ap (λ z. or_length (maybe_row z) ((found Z (entered_of f.entered.now)).size (free_of d))) j))

    module _ (j i : ℕ) where
      pub bound_outside : length f.frames.now ≤ j → Nowhere ≡ number_in Z f (Bound j i)
      bound_outside l = frames_outside Z.fields f.frames.now _ j i (λ k. refl) l

      module _ (x : Shaped) (l : j < length f.frames.now) (o : Option (Bor RowShape)) (h : maybe_row o ≡ there Z.fields (sought.Size (dim.Bound 0 i)) (size_of (get_or f.frames.now (length f.frames.now - 1 - j) x).tree.now) (row_of (get_or f.frames.now (length f.frames.now - 1 - j) x).row.now) None) where
        frame_step : number_in Z f (Bound j i) ≡ or_length (maybe_row o) Nowhere
        frame_step = frames_at Z.fields f.frames.now _ j i x l ∙ ap (λ z. or_length z Nowhere) (sym h)

        pub bound_there : (p : Bor RowShape) (made : Many_made) → o ≡ Some p → IfOk made (λ many. extent_of many ≡ length_of (row_of p.now)) → IfOk made (λ many. extent_of many ≡ number_in Z f (Bound j i))
        bound_there p made e m = many_as made _ _ m (sym (frame_step ∙ ap (λ z. or_length (maybe_row z) Nowhere) e))

        pub bound_nowhere : o ≡ None → Nowhere ≡ number_in Z f (Bound j i)
        bound_nowhere e = sym (frame_step ∙ ap (λ z. or_length (maybe_row z) Nowhere) e)

    -- a constant is worth itself
    pub number_const : (x : dims.Dim) (d : frees.Free) (c : ℕ) → x ≡ dim.At d → d ≡ free.Const c → Exactly c ≡ number_in Z f (dim_of x)
    number_const x d c is e = sym (ap (λ z. number_in Z f (dim_of z)) (is ∙ ap dim.At e) ∙ frames_free Z.fields f.frames.now (number (found_in Z f)) (Const c))

    others : (d : frees.Free) → ((c : ℕ) → d ≡ free.Const c → ⊥) → (found_in Z f).size (free_of d) ≡ number (found_in Z f) (At (free_of d))
    others (free.Const c) n = absurd (n c refl)
    others (free.Name b) n = refl
    others (free.Own m k) n = refl
    others (free.Unknown m k) n = refl
    others (free.Slot k) n = refl

    pub number_free : (x : dims.Dim) (d : frees.Free) (made : Many_made) → x ≡ dim.At d → ((c : ℕ) → d ≡ free.Const c → ⊥) → IfOk made (λ many. extent_of many ≡ (found_in Z f).size (free_of d)) → IfOk made (λ many. extent_of many ≡ number_in Z f (dim_of x))
    number_free x d made is n m = many_as made _ _ m (others d n ∙ sym (ap (λ z. number_in Z f (dim_of z)) is ∙ frames_free Z.fields f.frames.now (number (found_in Z f)) (free_of d)))

    pub number_bound : (x : dims.Dim) (j i : ℕ) (made : Many_made) → x ≡ dim.Bound j i → IfOk made (λ many. extent_of many ≡ number_in Z f (Bound j i)) → IfOk made (λ many. extent_of many ≡ number_in Z f (dim_of x))
    number_bound x j i made is m = many_as made _ _ m (sym (ap (λ z. number_in Z f (dim_of z)) is))

    module _ (v : variables.Variable) (o : Option (Bor RowShape)) (h : maybe_row o ≡ last_there Z.fields (sought.Type v) f.frames.now) where
      framed : type_in Z f (variable_of v) ≡ or_row (maybe_row o) ((found_in Z f).type (variable_of v))
      framed = frames_type Z.fields f.frames.now (found_in Z f).type v ∙ ap (λ z. or_row z ((found_in Z f).type (variable_of v))) (sym h)

      pub var_frame : (p : Bor RowShape) → o ≡ Some p → row_of p.now ≡ type_in Z f (variable_of v)
      var_frame p j = sym (framed ∙ ap (λ z. or_row (maybe_row z) ((found_in Z f).type (variable_of v))) j)

      module _ (j : o ≡ None) (u : Option (Bor RowShape)) (i : maybe_row u ≡ last_there Z.fields (sought.Type v) f.given.now) where
        given_step : type_in Z f (variable_of v) ≡ or_row (maybe_row u) ((found Z (entered_of f.entered.now)).type (variable_of v))
        given_step = framed ∙ ap (λ z. or_row (maybe_row z) ((found_in Z f).type (variable_of v))) j ∙ all_types Z.fields f.given.now (found Z (entered_of f.entered.now)) v ∙ ap (λ z. or_row z ((found Z (entered_of f.entered.now)).type (variable_of v))) (sym i)

        pub var_given : (p : Bor RowShape) → u ≡ Some p → row_of p.now ≡ type_in Z f (variable_of v)
        var_given p k = sym (given_step ∙ ap (λ z. or_row (maybe_row z) ((found Z (entered_of f.entered.now)).type (variable_of v))) k)

        pub var_entered : (made : Row_made) → u ≡ None → Makes ((found Z (entered_of f.entered.now)).type (variable_of v)) made → Makes (type_in Z f (variable_of v)) made
        var_entered made k m = makes_as made _ _ m (sym (given_step ∙ ap (λ z. or_row (maybe_row z) ((found Z (entered_of f.entered.now)).type (variable_of v))) k))
