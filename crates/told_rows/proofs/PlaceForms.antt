-- Where what is sought stands in a sized type, form by form.
use Rattle.std.proofs.Common.{◌≡◌, ℕ, suc, ◌+◌, ◌<◌, ◌≤◌, Bool, true, false, cond, List, [], ◌∷◌, length, get_or, drop, Option, Some, None, Result, Ok, Err, IfOk, refl, sym, ap, ◌∙◌, arith, add-one}
use Rattle.std.specs.Borrow.{Bor}
use Rattle.fut_ast.specs.Sorts.{Text}
use Rattle.fut_blocks.specs.Rows.{Row}
use Rattle.fut_flat.specs.Erased.{texts}
use Rattle.fut_meaning.specs.Places as places
use Rattle.fut_meaning.specs.Places.{Whole, In_rows, In_part, In_field, or_else, below, place, part_place, field_place}
use Rattle.fut_scalar.specs.declared.memory.NoMemory.{NoMemory}
use Rattle.fut_types.specs.declared.Head.{Head}
use Rattle.fut_types.specs.declared.Head.TheVariants as head
use Rattle.fut_types.specs.Types.{Ty}
use Rattle.sized_types.specs.Sizes.{Dim, Variable, Size, Hole, Open, Level, Built, Fun, Sizes, no_size}
use Rattle.size_arena.specs.declared.trees.SizeTree.{SizeTree}
use Rattle.size_arena.specs.Trees.{dim_of, variable_of, type_of, size_of, sizes_of}
use Rattle.size_arena.specs.declared.dims.Dim as dims
use Rattle.size_arena.specs.declared.dims.Variable as variables
use Rattle.size_arena.specs.declared.trees.SizeTree.TheVariants as form
use Rattle.size_arena.specs.declared.types.TypeTree.{TypeTree}
use Rattle.size_arena.proofs.Forms.{forms, size_hole, size_open, size_level, size_built, size_fun}
use Rattle.size_arena.proofs.Parts.{parts_at, parts_end}
use Rattle.unfold.specs.Telling.{at_row, rows_in, part_in, field_in}
use Rattle.told_rows.specs.declared.places.Path.{Path, fold-roll-Path}
use Rattle.told_rows.specs.declared.places.Path.TheOpen as layer
use Rattle.told_rows.specs.declared.places.Path.TheVariants as path
use Rattle.told_rows.specs.Places.{path_form, path_of, maybe_path}
use Rattle.told_rows.proofs.RowLists.{part_at, item_of}
use Rattle.told_rows.proofs.ShapeForms.{Row_made, Makes, makes_as}

-- ---- paths

pub path_whole : path_of path.Whole ≡ Whole
unfolding path_of path_form
path_whole = ap path_of (sym path.rolls-Whole) ∙ fold-roll-Path _ path_form layer.Whole

pub path_rows : (p : Bor Path) → path_of (path.Rows p) ≡ In_rows (path_of p.now)
unfolding path_of path_form
path_rows p = ap path_of (sym (path.rolls-Rows p)) ∙ fold-roll-Path _ path_form (layer.Rows p)

pub path_part : (k : ℕ) (p : Bor Path) → path_of (path.Part k p) ≡ In_part k (path_of p.now)
unfolding path_of path_form
path_part k p = ap path_of (sym (path.rolls-Part k p)) ∙ fold-roll-Path _ path_form (layer.Part k p)

pub path_field : (f : Bor Text) (p : Bor Path) → path_of (path.Field f p) ≡ In_field f.now (path_of p.now)
unfolding path_of path_form
path_field f p = ap path_of (sym (path.rolls-Field f p)) ∙ fold-roll-Path _ path_form (layer.Field f p)

pub ruleset paths = (path_whole, path_rows, path_part, path_field)

-- a path that was made
abbrev pub Path_made : Type 0
Path_made = Result (Option (Bor Path)) NoMemory

pub path_as : (o : Path_made) (p q : Option places.Path) → IfOk o (λ made. maybe_path made ≡ p) → p ≡ q → IfOk o (λ made. maybe_path made ≡ q)
path_as (Ok made) p q h e = h ∙ e
path_as (Err x) p q h e = tt

-- ---- sized types

field_none : (F : ℕ → List Text) (s : Dim → Bool) (y : Variable → Bool) (gs : List Text) → field_place F s y gs no_size ≡ None
unfolding field_place
field_none F s y [] = refl
field_none F s y (g ∷ gs) = refl

module _ (F : ℕ → List Text) (s : Dim → Bool) (y : Variable → Bool) where
  pub place_hole : (v : Variable) → place F s y (Hole v) ≡ cond (y v) (Some Whole) None
  unfolding place
  place_hole v = refl

  pub place_open : (n : ℕ) (v : Variable) (u : Ty) → place F s y (Open n v u) ≡ None
  unfolding place
  place_open n v u = refl

  pub place_level : (d : Dim) (t : Size) → place F s y (Level d t) ≡ cond (s d) (Some Whole) (below In_rows (place F s y t))
  unfolding place
  place_level d t = refl

  pub place_built : (h : Head) (ts : Sizes) → place F s y (Built h ts) ≡ places.in_head h (part_place F s y 0 ts) (λ n. field_place F s y (F n) ts)
  unfolding place part_place field_place
  place_built h ts = refl

  pub place_fun : (k : ℕ) (p r : Size) → place F s y (Fun k p r) ≡ None
  unfolding place
  place_fun k p r = refl

  -- what a tree is, and what was found in its parts
  module _ (tree : SizeTree) where
    hole_is : (v : variables.Variable) → tree ≡ form.Hole v → place F s y (size_of tree) ≡ cond (y (variable_of v)) (Some Whole) None
    hole_is v is = ap (λ z. place F s y z) (ap size_of is ∙ size_hole v) ∙ place_hole (variable_of v)

    pub hole_placed : (v : variables.Variable) (b : Bool) (o : Option places.Path) → tree ≡ form.Hole v → b ≡ y (variable_of v) → o ≡ cond b (Some Whole) None → o ≡ place F s y (size_of tree)
    hole_placed v b o is e h = h ∙ ap (λ z. cond z (Some Whole) None) e ∙ sym (hole_is v is)

    pub open_placed : (n : ℕ) (v : variables.Variable) (u : Bor TypeTree) → tree ≡ form.Open n v u → None ≡ place F s y (size_of tree)
    open_placed n v u is = sym (ap (λ z. place F s y z) (ap size_of is ∙ size_open n v u) ∙ place_open n (variable_of v) (type_of u.now))

    pub fun_placed : (height k : ℕ) (p r : Bor SizeTree) → tree ≡ form.Fun height k p r → None ≡ place F s y (size_of tree)
    fun_placed height k p r is = sym (ap (λ z. place F s y z) (ap size_of is ∙ size_fun height k p r) ∙ place_fun k (size_of p.now) (size_of r.now))

    module _ (height : ℕ) (d : dims.Dim) (u : Bor SizeTree) (b : Bool) (is : tree ≡ form.Level height d u) (q : b ≡ s (dim_of d)) where
      level_is : place F s y (size_of tree) ≡ cond b (Some Whole) (below In_rows (place F s y (size_of u.now)))
      level_is = ap (λ z. place F s y z) (ap size_of is ∙ size_level height d u) ∙ place_level (dim_of d) (size_of u.now) ∙ ap (λ z. cond z (Some Whole) (below In_rows (place F s y (size_of u.now)))) (sym q)

      pub level_here : (o : places.Path) → b ≡ true → o ≡ Whole → Some o ≡ place F s y (size_of tree)
      level_here o e h = ap Some h ∙ sym (level_is ∙ ap (λ z. cond z (Some Whole) (below In_rows (place F s y (size_of u.now)))) e)

      module _ (o : Option (Bor Path)) (e : b ≡ false) (h : maybe_path o ≡ place F s y (size_of u.now)) where
        level_under : place F s y (size_of tree) ≡ below In_rows (maybe_path o)
        level_under = level_is ∙ ap (λ z. cond z (Some Whole) (below In_rows (place F s y (size_of u.now)))) e ∙ ap (below In_rows) (sym h)

        pub level_in : (p : Bor Path) (made : Path_made) → o ≡ Some p → IfOk made (λ found. maybe_path found ≡ Some (path_of (path.Rows p))) → IfOk made (λ found. maybe_path found ≡ place F s y (size_of tree))
        level_in p made j m = path_as made _ _ m (ap Some (path_rows p) ∙ sym (level_under ∙ ap (λ z. below In_rows (maybe_path z)) j))

        pub level_none : o ≡ None → None ≡ place F s y (size_of tree)
        level_none j = sym (level_under ∙ ap (λ z. below In_rows (maybe_path z)) j)

    module _ (height : ℕ) (h : Head) (ts : Bor (List SizeTree)) (is : tree ≡ form.Built height h ts) where
      built_is : place F s y (size_of tree) ≡ places.in_head h (part_place F s y 0 (sizes_of ts.now)) (λ n. field_place F s y (F n) (sizes_of ts.now))
      built_is = ap (λ z. place F s y z) (ap size_of is ∙ size_built height h ts) ∙ place_built h (sizes_of ts.now)

      abbrev by_head : Head → Option places.Path
      by_head x = places.in_head x (part_place F s y 0 (sizes_of ts.now)) (λ n. field_place F s y (F n) (sizes_of ts.now))

      pub tuple_placed : (made : Path_made) → h ≡ head.Tuple → IfOk made (λ found. maybe_path found ≡ part_place F s y 0 (sizes_of ts.now)) → IfOk made (λ found. maybe_path found ≡ place F s y (size_of tree))
      tuple_placed made e m = path_as made _ _ m (sym (built_is ∙ ap by_head e))

      pub record_placed : (n : ℕ) (fs : List Text) (made : Path_made) → h ≡ head.Record n → fs ≡ F n → IfOk made (λ found. maybe_path found ≡ field_place F s y fs (sizes_of ts.now)) → IfOk made (λ found. maybe_path found ≡ place F s y (size_of tree))
      record_placed n fs made e f m = path_as made _ _ m (ap (λ z. field_place F s y z (sizes_of ts.now)) f ∙ sym (built_is ∙ ap by_head e))

      pub other_placed : places.in_head h (part_place F s y 0 (sizes_of ts.now)) (λ n. field_place F s y (F n) (sizes_of ts.now)) ≡ None → None ≡ place F s y (size_of tree)
      other_placed e = sym (built_is ∙ e)

  module _ (ts : List SizeTree) (i : ℕ) where
    -- in the parts of a tuple from one on
    module _ (k : ℕ) (t : SizeTree) (l : i < length ts) (is : t ≡ get_or ts i t) (e : part_place F s y 0 (sizes_of ts) ≡ part_place F s y k (sizes_of (drop i ts))) (o : Option (Bor Path)) (h : maybe_path o ≡ place F s y (size_of t)) where
      parts_step : part_place F s y 0 (sizes_of ts) ≡ or_else (below (In_part k) (maybe_path o)) (part_place F s y (suc k) (sizes_of (drop (i + 1) ts)))
      unfolding place part_place
      parts_step = e ∙ ap (part_place F s y k) (parts_at ts i t l) ∙ ap (λ z. or_else (below (In_part k) z) (part_place F s y (suc k) (sizes_of (drop (i + 1) ts)))) (sym (h ∙ ap (λ z. place F s y (size_of z)) is))

      pub part_found : (p : Bor Path) (made : Path_made) → o ≡ Some p → IfOk made (λ found. maybe_path found ≡ Some (path_of (path.Part k p))) → IfOk made (λ found. maybe_path found ≡ part_place F s y 0 (sizes_of ts))
      part_found p made j m = path_as made _ _ m (ap Some (path_part k p) ∙ sym (parts_step ∙ ap (λ z. or_else (below (In_part k) (maybe_path z)) (part_place F s y (suc k) (sizes_of (drop (i + 1) ts)))) j))

      pub part_on : (m : ℕ) → m ≡ k + 1 → o ≡ None → part_place F s y 0 (sizes_of ts) ≡ part_place F s y m (sizes_of (drop (i + 1) ts))
      part_on m n j = parts_step ∙ ap (λ z. or_else (below (In_part k) (maybe_path z)) (part_place F s y (suc k) (sizes_of (drop (i + 1) ts)))) j ∙ ap (λ z. part_place F s y z (sizes_of (drop (i + 1) ts))) (sym (n ∙ add-one k))

    pub parts_over : (k : ℕ) → length ts ≤ i → part_place F s y 0 (sizes_of ts) ≡ part_place F s y k (sizes_of (drop i ts)) → None ≡ part_place F s y 0 (sizes_of ts)
    unfolding part_place
    parts_over k l e = sym (e ∙ ap (part_place F s y k) (parts_end ts i l))

    -- in the fields of a record from one on
    module _ (fs : List (Bor Text)) where
      module _ (t : SizeTree) (l : i < length ts) (many : length fs ≡ length ts) (is : t ≡ get_or ts i t) (e : field_place F s y (texts fs) (sizes_of ts) ≡ field_place F s y (texts (drop i fs)) (sizes_of (drop i ts))) (o : Option (Bor Path)) (h : maybe_path o ≡ place F s y (size_of t)) where
        fields_step : (f : Bor Text) → field_place F s y (texts fs) (sizes_of ts) ≡ or_else (below (In_field (get_or fs i f).now) (maybe_path o)) (field_place F s y (texts (drop (i + 1) fs)) (sizes_of (drop (i + 1) ts)))
        unfolding place field_place
        fields_step f =
            e
            ∙ ap (λ z. field_place F s y (texts z) (sizes_of (drop i ts))) (part_at fs i f (omega (arith, l, many)))
            ∙ ap (field_place F s y ((get_or fs i f).now ∷ texts (drop (i + 1) fs))) (parts_at ts i t l)
            ∙ ap (λ z. or_else (below (In_field (get_or fs i f).now) z) (field_place F s y (texts (drop (i + 1) fs)) (sizes_of (drop (i + 1) ts)))) (sym (h ∙ ap (λ z. place F s y (size_of z)) is))

        pub field_found : (f : Bor Text) (p : Bor Path) (made : Path_made) → o ≡ Some p → IfOk made (λ found. maybe_path found ≡ Some (path_of (path.Field (get_or fs i f) p))) → IfOk made (λ found. maybe_path found ≡ field_place F s y (texts fs) (sizes_of ts))
        field_found f p made j m = path_as made _ _ m (ap Some (path_field (get_or fs i f) p) ∙ sym (fields_step f ∙ ap (λ z. or_else (below (In_field (get_or fs i f).now) (maybe_path z)) (field_place F s y (texts (drop (i + 1) fs)) (sizes_of (drop (i + 1) ts)))) j))

        pub field_on : o ≡ None → field_place F s y (texts fs) (sizes_of ts) ≡ field_place F s y (texts (drop (i + 1) fs)) (sizes_of (drop (i + 1) ts))
        field_on j = by (item_of fs i (omega (arith, l, many)))
          where
            by : Bor Text → field_place F s y (texts fs) (sizes_of ts) ≡ field_place F s y (texts (drop (i + 1) fs)) (sizes_of (drop (i + 1) ts))
            by f = fields_step f ∙ ap (λ z. or_else (below (In_field (get_or fs i f).now) (maybe_path z)) (field_place F s y (texts (drop (i + 1) fs)) (sizes_of (drop (i + 1) ts)))) j

      pub fields_over : length ts ≤ i → field_place F s y (texts fs) (sizes_of ts) ≡ field_place F s y (texts (drop i fs)) (sizes_of (drop i ts)) → None ≡ field_place F s y (texts fs) (sizes_of ts)
      fields_over l e = sym (e ∙ ap (field_place F s y (texts (drop i fs))) (parts_end ts i l) ∙ field_none F s y (texts (drop i fs)))

pub ruleset place_forms = (forms, path_whole, place_hole, place_open, place_level, place_built, place_fun)

-- ---- a path goes down

abbrev pub path_size : places.Path → ℕ
path_size Whole = 0
path_size (In_rows p) = suc (path_size p)
path_size (In_part k p) = suc (path_size p)
path_size (In_field f p) = suc (path_size p)

module _ (p : Path) (q : Bor Path) where
  smaller : (r : places.Path) → path_of p ≡ r → path_size r ≡ suc (path_size (path_of q.now)) → path_size (path_of q.now) < path_size (path_of p)
  smaller r e h = omega (arith, ap path_size e, h)

  pub rows_smaller : p ≡ path.Rows q → path_size (path_of q.now) < path_size (path_of p)
  rows_smaller is = smaller _ (ap path_of is ∙ path_rows q) refl

  pub part_smaller : (k : ℕ) → p ≡ path.Part k q → path_size (path_of q.now) < path_size (path_of p)
  part_smaller k is = smaller _ (ap path_of is ∙ path_part k q) refl

  pub field_smaller : (f : Bor Text) → p ≡ path.Field f q → path_size (path_of q.now) < path_size (path_of p)
  field_smaller f is = smaller _ (ap path_of is ∙ path_field f q) refl

-- ---- what stands at a place

module _ (p : Path) (r : Row) where
  pub row_whole : p ≡ path.Whole → r ≡ at_row (path_of p) r
  row_whole is = sym (ap (λ z. at_row (path_of z) r) is ∙ ap (λ z. at_row z r) path_whole)

  module _ (o : Row_made) (q : Bor Path) (s : Row) where
    pub row_rows : p ≡ path.Rows q → s ≡ rows_in r → Makes (at_row (path_of q.now) s) o → Makes (at_row (path_of p) r) o
    row_rows is e m = makes_as o _ _ m (ap (at_row (path_of q.now)) e ∙ sym (ap (λ z. at_row (path_of z) r) is ∙ ap (λ z. at_row z r) (path_rows q)))

    pub row_part : (k : ℕ) → p ≡ path.Part k q → s ≡ part_in k r → Makes (at_row (path_of q.now) s) o → Makes (at_row (path_of p) r) o
    row_part k is e m = makes_as o _ _ m (ap (at_row (path_of q.now)) e ∙ sym (ap (λ z. at_row (path_of z) r) is ∙ ap (λ z. at_row z r) (path_part k q)))

    pub row_field : (f : Bor Text) → p ≡ path.Field f q → s ≡ field_in f.now r → Makes (at_row (path_of q.now) s) o → Makes (at_row (path_of p) r) o
    row_field f is e m = makes_as o _ _ m (ap (at_row (path_of q.now)) e ∙ sym (ap (λ z. at_row (path_of z) r) is ∙ ap (λ z. at_row z r) (path_field f q)))
