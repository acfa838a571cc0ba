-- What functions tell of their results, argument by argument.
use Rattle.std.proofs.Common.{◌≡◌, ℕ, suc, ◌+◌, ◌-◌, ◌<◌, ◌≤◌, ◌++◌, List, [], ◌∷◌, map, length, get_or, drop, Bool, true, false, ◌&&◌, cond, IfOk, refl, sym, ap, ◌∙◌, arith}
use Rattle.std.specs.Borrow.{Bor}
use Rattle.fut_ast.specs.Sorts.{Text}
use Rattle.fut_blocks.specs.declared.row.Extent.{Extent as Held_extent}
use Rattle.fut_blocks.specs.declared.row.RowShape.{RowShape}
use Rattle.fut_blocks.specs.declared.row.RowShape.TheVariants as row
use Rattle.fut_blocks.specs.Rows.{Row, Unknown_row, Array_row, Extent, extent_of, row_of}
use Rattle.fut_blocks.proofs.Layers.{row_of-Array}
use Rattle.fut_flat.specs.declared.pat.Pat.{Pat}
use Rattle.fut_flat.specs.declared.prim.Primitive.{Primitive}
use Rattle.fut_flat.specs.Erased.{pattern_of, patterns}
use Rattle.fut_flat.specs.Numbers.{pattern_numbers, all_pattern_numbers}
use Rattle.fut_meaning.specs.Found.{Sizing}
use Rattle.fut_meaning.specs.Telling.{nodes_from}
use Rattle.fut_scalar.specs.declared.place.Place.{Place}
use Rattle.fut_types.specs.declared.Head.{Head}
use Rattle.sized_types.specs.Sizes.{Dim, Variable, Size, Fun}
use Rattle.sized_types.specs.Standing.{is_known, gives_chosen}
use Rattle.size_arena.proofs.Parts.{drop_past}
use Rattle.size_arena.proofs.Forms.{size_hole, size_open, size_level, size_built, size_fun}
use Rattle.size_arena.specs.declared.dims.Dim as dims
use Rattle.size_arena.specs.declared.dims.Variable as variables
use Rattle.size_arena.specs.declared.trees.SizeTree.{SizeTree}
use Rattle.size_arena.specs.declared.trees.SizeTree.TheVariants as trees
use Rattle.size_arena.specs.declared.types.TypeTree.{TypeTree}
use Rattle.size_arena.specs.Trees.{size_of}
use Rattle.unfold.proofs.Mirror.{known_scalar, known_tuple, known_record, known_function, known_primitive, function_is}
use Rattle.unfold.specs.declared.known.Function.{Function}
use Rattle.unfold.specs.declared.known.Known.{Known as Held_known}
use Rattle.unfold.specs.declared.known.KnownForm.TheVariants as form
use Rattle.unfold.specs.Held.{entered_of, function_of, known_of}
use Rattle.unfold.specs.Knowns.{knowns}
use Rattle.unfold.specs.Telling as telling
use Rattle.unfold.specs.Telling.{Found, chosen_row, closure_tells, data_told, found, function_tells, is_function, number, primitive_tells, pushed, result_row, results_row, tells, to_come, told_row, typed_by, with_data}
use Rattle.told_rows.specs.declared.findings.Shaped.{Shaped}
use Rattle.told_rows.specs.declared.arguments.Told.{Told}
use Rattle.told_rows.specs.declared.arguments.Told.TheVariants as told
use Rattle.told_rows.specs.Arguments.{rows_of, told_of}
use Rattle.told_rows.specs.Findings.{with_all, pushed_all, typed_all}
use Rattle.told_rows.proofs.RowLists.{part_at}
use Rattle.told_rows.proofs.ShapeForms.{Row_made, Makes, makes_as, makes_shape}

module _ (F : ℕ → List Text) where
  pub pushed_more : (xs : List Shaped) (x : Shaped) (n : Dim → Extent) → pushed_all F (xs ++ x ∷ []) n ≡ pushed F (size_of x.tree.now) (row_of x.row.now) (pushed_all F xs n)
  pushed_more [] x n = refl
  pushed_more (y ∷ ys) x n = pushed_more ys x (pushed F (size_of y.tree.now) (row_of y.row.now) n)

  pub typed_more : (xs : List Shaped) (x : Shaped) (u : Variable → Row) → typed_all F (xs ++ x ∷ []) u ≡ typed_by F (size_of x.tree.now) (row_of x.row.now) (typed_all F xs u)
  typed_more [] x u = refl
  typed_more (y ∷ ys) x u = typed_more ys x (typed_by F (size_of y.tree.now) (row_of y.row.now) u)

  pub given_more : (xs : List Shaped) (x : Shaped) (W : Found) → with_all F (xs ++ x ∷ []) W ≡ with_data F (size_of x.tree.now) (row_of x.row.now) (with_all F xs W)
  given_more [] x W = refl
  given_more (y ∷ ys) x W = given_more ys x (with_data F (size_of y.tree.now) (row_of y.row.now) W)

  -- ---- arguments along the arrows of a function type

  module _ (rs : List RowShape) (i : ℕ) where
    abbrev pub result_from : List Shaped → (Dim → Extent) → (Variable → Row) → Size → ℕ → Row
    result_from xs n u t j = result_row F (pushed_all F xs n) (typed_all F xs u) t (rows_of (drop j rs))

    pub arrow_start : (xs : List Shaped) (n : Dim → Extent) (u : Variable → Row) (t : Size) → xs ≡ [] → result_row F n u t (rows_of rs) ≡ result_from xs n u t 0
    arrow_start xs n u t e = sym (ap (λ z. result_from z n u t 0) e)

    pub arrow_on : (xs more : List Shaped) (n : Dim → Extent) (u : Variable → Row) (cur : SizeTree) (height k : ℕ) (p t : Bor SizeTree) (q : Bor RowShape) (r : RowShape) → i < length rs → cur ≡ trees.Fun height k p t → r ≡ get_or rs i r → q.now ≡ r → more ≡ xs ++ record { tree = p; row = q } ∷ []
        → result_from xs n u (size_of cur) i ≡ result_from more n u (size_of t.now) (i + 1)
    unfolding result_row
    arrow_on xs more n u cur height k p t q r l is g h m =
        ap (λ z. result_from xs n u z i) (ap size_of is ∙ size_fun height k p t)
        ∙ ap (λ z. result_row F (pushed_all F xs n) (typed_all F xs u) (Fun k (size_of p.now) (size_of t.now)) (rows_of z)) (part_at rs i r l)
        ∙ ap (λ z. result_row F (pushed F (size_of p.now) (row_of z) (pushed_all F xs n)) (typed_by F (size_of p.now) (row_of z) (typed_all F xs u)) (size_of t.now) (rows_of (drop (i + 1) rs))) (sym (h ∙ g))
        ∙ ap (λ z. result_row F z (typed_by F (size_of p.now) (row_of q.now) (typed_all F xs u)) (size_of t.now) (rows_of (drop (i + 1) rs))) (sym (pushed_more xs (record { tree = p; row = q }) n))
        ∙ ap (λ z. result_row F (pushed_all F (xs ++ record { tree = p; row = q } ∷ []) n) z (size_of t.now) (rows_of (drop (i + 1) rs))) (sym (typed_more xs (record { tree = p; row = q }) u))
        ∙ ap (λ z. result_row F (pushed_all F z n) (typed_all F z u) (size_of t.now) (rows_of (drop (i + 1) rs))) (sym m)

    pub arrow_made : (xs frames : List Shaped) (n : Dim → Extent) (u : Variable → Row) (t : Size) (o : Row_made) (whole : Row) → frames ≡ xs → length rs ≤ i → whole ≡ result_from xs n u t i → Makes (told_row F (pushed_all F frames n) (typed_all F frames u) t) o → Makes whole o
    unfolding result_row
    arrow_made xs frames n u t o whole e l h m =
        makes_as o _ _ m
        (ap (λ z. told_row F (pushed_all F z n) (typed_all F z u) t) e ∙ sym (h ∙ ap (λ z. result_row F (pushed_all F xs n) (typed_all F xs u) t (rows_of z)) (drop_past rs i l)))

    -- what is no function takes no argument
    module _ (xs : List Shaped) (n : Dim → Extent) (u : Variable → Row) (cur : SizeTree) (r : RowShape) (l : i < length rs) where
      arguments_are : (x : Size) → size_of cur ≡ x → result_from xs n u (size_of cur) i ≡ result_row F (pushed_all F xs n) (typed_all F xs u) x (row_of (get_or rs i r) ∷ rows_of (drop (i + 1) rs))
      arguments_are x e = ap (λ z. result_from xs n u z i) e ∙ ap (λ z. result_row F (pushed_all F xs n) (typed_all F xs u) x (rows_of z)) (part_at rs i r l)

      pub hole_takes : (v : variables.Variable) → cur ≡ trees.Hole v → result_from xs n u (size_of cur) i ≡ Unknown_row
      unfolding result_row
      hole_takes v is = arguments_are _ (ap size_of is ∙ size_hole v)

      pub open_takes : (k : ℕ) (v : variables.Variable) (y : Bor TypeTree) → cur ≡ trees.Open k v y → result_from xs n u (size_of cur) i ≡ Unknown_row
      unfolding result_row
      open_takes k v y is = arguments_are _ (ap size_of is ∙ size_open k v y)

      pub level_takes : (height : ℕ) (d : dims.Dim) (y : Bor SizeTree) → cur ≡ trees.Level height d y → result_from xs n u (size_of cur) i ≡ Unknown_row
      unfolding result_row
      level_takes height d y is = arguments_are _ (ap size_of is ∙ size_level height d y)

      pub built_takes : (height : ℕ) (b : Head) (ts : Bor (List SizeTree)) → cur ≡ trees.Built height b ts → result_from xs n u (size_of cur) i ≡ Unknown_row
      unfolding result_row
      built_takes height b ts is = arguments_are _ (ap size_of is ∙ size_built height b ts)

-- ---- the parameters of a closure

module _ (Z : Sizing) where
  -- there are fewer arguments than parameters
  short : (qs : List ℕ) (lo : ℕ) (rs : List Row) (W : Found) → length rs < length qs → closure_tells Z qs lo rs W ≡ Unknown_row
  unfolding closure_tells
  short [] lo rs W l = absurd (omega (arith, l))
  short (q ∷ qs) lo [] W l = refl
  short (q ∷ qs) lo (r ∷ rs) W l = short qs lo rs (with_data Z.fields (Z.size_at q) r W) (omega (arith, l))

  nodes_many : (ps : List Pat) (q : ℕ) → length (nodes_from (patterns (map pattern_of ps)) q) ≡ length ps
  unfolding patterns
  nodes_many [] q = refl
  nodes_many (p ∷ ps) q = ap suc (nodes_many ps (q + pattern_numbers (pattern_of p)))

  rows_many : (rs : List RowShape) → length (rows_of rs) ≡ length rs
  rows_many [] = refl
  rows_many (r ∷ rs) = ap suc (rows_many rs)

  module _ (ps : List Pat) (rs : List RowShape) (i : ℕ) where
    abbrev pub closure_from : ℕ → ℕ → ℕ → Found → Row
    closure_from j node lo W = closure_tells Z (nodes_from (patterns (map pattern_of (drop j ps))) node) lo (rows_of (drop j rs)) W

    pub parameter_start : (xs : List Shaped) (node lo : ℕ) (W : Found) → xs ≡ [] → closure_from 0 node lo W ≡ closure_from 0 node lo (with_all Z.fields xs W)
    parameter_start xs node lo W e = sym (ap (λ z. closure_from 0 node lo (with_all Z.fields z W)) e)

    pub parameter_on : (xs more : List Shaped) (t : Bor SizeTree) (q : Bor RowShape) (p : Pat) (r : RowShape) (node next lo : ℕ) (W : Found) → i < length ps → length ps ≤ length rs → size_of t.now ≡ Z.size_at node → r ≡ get_or rs i r → q.now ≡ r → more ≡ xs ++ record { tree = t; row = q } ∷ [] → next ≡ node + pattern_numbers (pattern_of (get_or ps i p))
        → closure_from i node lo (with_all Z.fields xs W) ≡ closure_from (i + 1) next lo (with_all Z.fields more W)
    unfolding closure_tells patterns
    parameter_on xs more t q p r node next lo W l k e g h m n =
        ap (λ z. closure_tells Z (nodes_from (patterns (map pattern_of z)) node) lo (rows_of (drop i rs)) (with_all Z.fields xs W)) (part_at ps i p l)
        ∙ ap (λ z. closure_tells Z (node ∷ nodes_from (patterns (map pattern_of (drop (i + 1) ps))) (node + pattern_numbers (pattern_of (get_or ps i p)))) lo (rows_of z) (with_all Z.fields xs W)) (part_at rs i r (omega (arith, l, k)))
        ∙ ap (λ z. closure_tells Z (nodes_from (patterns (map pattern_of (drop (i + 1) ps))) z) lo (rows_of (drop (i + 1) rs)) (with_data Z.fields (Z.size_at node) (row_of (get_or rs i r)) (with_all Z.fields xs W))) (sym n)
        ∙ ap (λ z. closure_tells Z (nodes_from (patterns (map pattern_of (drop (i + 1) ps))) next) lo (rows_of (drop (i + 1) rs)) (with_data Z.fields z (row_of (get_or rs i r)) (with_all Z.fields xs W))) (sym e)
        ∙ ap (λ z. closure_tells Z (nodes_from (patterns (map pattern_of (drop (i + 1) ps))) next) lo (rows_of (drop (i + 1) rs)) (with_data Z.fields (size_of t.now) (row_of z) (with_all Z.fields xs W))) (sym (h ∙ g))
        ∙ ap (λ z. closure_tells Z (nodes_from (patterns (map pattern_of (drop (i + 1) ps))) next) lo (rows_of (drop (i + 1) rs)) z) (sym (given_more Z.fields xs (record { tree = t; row = q }) W) ∙ ap (λ z. with_all Z.fields z W) (sym m))

    pub parameter_end : (xs taken : List Shaped) (first node lo : ℕ) (W : Found) → taken ≡ xs → length ps ≤ i → i ≤ length ps → closure_from 0 first lo W ≡ closure_from i node lo (with_all Z.fields xs W) → closure_tells Z (nodes_from (patterns (map pattern_of ps)) first) lo (rows_of rs) W ≡ closure_tells Z [] lo (rows_of (drop (length ps) rs)) (with_all Z.fields taken W)
    unfolding patterns
    parameter_end xs taken first node lo W e l g h =
        h
        ∙ ap (λ z. closure_tells Z (nodes_from (patterns (map pattern_of z)) node) lo (rows_of (drop i rs)) (with_all Z.fields xs W)) (drop_past ps i l)
        ∙ ap (λ z. closure_tells Z [] lo (rows_of (drop z rs)) (with_all Z.fields xs W)) {y = length ps} (omega (arith, l, g))
        ∙ ap (λ z. closure_tells Z [] lo (rows_of (drop (length ps) rs)) (with_all Z.fields z W)) (sym e)

  module _ (f : Function) (rs : List RowShape) where
    closure_is : tells Z (function_of f) (rows_of rs) ≡ closure_tells Z (nodes_from (patterns (map pattern_of f.parameters.now)) (f.first - all_pattern_numbers (patterns (map pattern_of f.parameters.now)))) f.first (rows_of rs) (found Z (entered_of f.entered.now))
    unfolding tells
    closure_is = ap (λ z. tells Z z (rows_of rs)) (function_is f)

    pub closure_short : length rs < length f.parameters.now → tells Z (function_of f) (rows_of rs) ≡ Unknown_row
    closure_short l = closure_is ∙ short _ f.first (rows_of rs) (found Z (entered_of f.entered.now)) (omega (arith, l, nodes_many f.parameters.now (f.first - all_pattern_numbers (patterns (map pattern_of f.parameters.now))), rows_many rs))

    module _ (xs : List Shaped) (t : Size) (node : ℕ) (rest : List RowShape) where
      abbrev taken : Found
      taken = with_all Z.fields xs (found Z (entered_of f.entered.now))

      pub closure_whole : (o : Row_made) → node ≡ f.first - all_pattern_numbers (patterns (map pattern_of f.parameters.now))
          → ((lo : ℕ) (W : Found) → closure_tells Z (nodes_from (patterns (map pattern_of f.parameters.now)) node) lo (rows_of rs) W ≡ closure_tells Z [] lo (rows_of (drop (length f.parameters.now) rs)) (with_all Z.fields xs W))
          → t ≡ Z.size_at f.first → rest ≡ drop (length f.parameters.now) rs → Makes (result_row Z.fields (number taken) taken.type t (rows_of rest)) o → Makes (tells Z (function_of f) (rows_of rs)) o
      unfolding closure_tells
      closure_whole o n h e r m =
          makes_as o _ _ m
          (ap (λ z. result_row Z.fields (number taken) taken.type z (rows_of rest)) e
          ∙ ap (λ z. result_row Z.fields (number taken) taken.type (Z.size_at f.first) (rows_of z)) r
          ∙ sym (h f.first (found Z (entered_of f.entered.now)))
          ∙ ap (λ z. closure_tells Z (nodes_from (patterns (map pattern_of f.parameters.now)) z) f.first (rows_of rs) (found Z (entered_of f.entered.now))) n
          ∙ sym closure_is)

  -- ---- values

  module _ (s : Held_known) (rs : List RowShape) where
    module _ (r : RowShape) (h : row_of r ≡ Unknown_row) where
      pub scalar_tells : (u : Rattle.fut_blocks.specs.declared.block.Atom.Atom) → s.form ≡ form.Scalar u → row_of r ≡ tells Z (known_of s) (rows_of rs)
      unfolding tells
      scalar_tells u is = h ∙ sym (ap (λ z. tells Z z (rows_of rs)) (known_scalar s u is))

      pub tuple_tells : (ss : Bor (List Held_known)) → s.form ≡ form.Tuple ss → row_of r ≡ tells Z (known_of s) (rows_of rs)
      unfolding tells
      tuple_tells ss is = h ∙ sym (ap (λ z. tells Z z (rows_of rs)) (known_tuple s ss is))

      pub record_tells : (fs : Bor (List Rattle.unfold.specs.declared.known.Field.Field)) → s.form ≡ form.Record fs → row_of r ≡ tells Z (known_of s) (rows_of rs)
      unfolding tells
      record_tells fs is = h ∙ sym (ap (λ z. tells Z z (rows_of rs)) (known_record s fs is))

    pub function_tells_as : (f : Bor Function) (o : Row_made) → s.form ≡ form.Function f → Makes (tells Z (function_of f.now) (rows_of rs)) o → Makes (tells Z (known_of s) (rows_of rs)) o
    function_tells_as f o is h = makes_as o _ _ h (ap (λ z. tells Z z (rows_of rs)) (function_is f.now ∙ sym (known_function s f is)))

    module _ (p : Primitive) (at : Place) (ss : Bor (List Held_known)) (is : s.form ≡ form.Primitive p at ss) where
      primitive_is : tells Z (known_of s) (rows_of rs) ≡ telling.by_function (function_tells Z (knowns (map known_of ss.now))) (primitive_tells p (data_told (knowns (map known_of ss.now)) (to_come (rows_of rs))))
      unfolding tells function_tells
      primitive_is = ap (λ z. tells Z z (rows_of rs)) (known_primitive s p at ss is)

      module _ (u : Told) (h : told_of u ≡ primitive_tells p (data_told (knowns (map known_of ss.now)) (to_come (rows_of rs)))) where
        by_told : tells Z (known_of s) (rows_of rs) ≡ telling.by_function (function_tells Z (knowns (map known_of ss.now))) (told_of u)
        by_told = primitive_is ∙ ap (telling.by_function (function_tells Z (knowns (map known_of ss.now)))) (sym h)

        pub row_tells : (r : Bor RowShape) → u ≡ told.Row r → row_of r.now ≡ tells Z (known_of s) (rows_of rs)
        row_tells r j = sym (by_told ∙ ap (λ z. telling.by_function (function_tells Z (knowns (map known_of ss.now))) (told_of z)) j)

        pub rows_tell : (e : Held_extent) (qs : Bor (List RowShape)) (under : Bor RowShape) (o : Row_made) → u ≡ told.Rows e qs → row_of under.now ≡ function_tells Z (knowns (map known_of ss.now)) (rows_of qs.now) → IfOk o (λ made. made.now ≡ row.Array e under) → Makes (tells Z (known_of s) (rows_of rs)) o
        rows_tell e qs under o j v m =
            makes_shape o (row.Array e under) _ m
            (row_of-Array e under ∙ ap (Array_row (extent_of e)) v ∙ sym (by_told ∙ ap (λ z. telling.by_function (function_tells Z (knowns (map known_of ss.now))) (told_of z)) j))

  module _ (ss : List Held_known) (rs : List RowShape) (i : ℕ) where
    abbrev pub tells_from : ℕ → Row
    tells_from j = function_tells Z (knowns (map known_of (drop j ss))) (rows_of rs)

    module _ (s : Held_known) (l : i < length ss) (e : tells_from 0 ≡ tells_from i) where
      next_tells : (b : Bool) → b ≡ is_function (known_of (get_or ss i s)) → tells_from 0 ≡ cond b (tells Z (known_of (get_or ss i s)) (rows_of rs)) (tells_from (i + 1))
      unfolding function_tells tells
      next_tells b h = e ∙ ap (λ z. function_tells Z (knowns (map known_of z)) (rows_of rs)) (part_at ss i s l) ∙ ap (λ z. cond z (tells Z (known_of (get_or ss i s)) (rows_of rs)) (tells_from (i + 1))) (sym h)

      pub tells_here : (o : Row_made) → true ≡ is_function (known_of (get_or ss i s)) → Makes (tells Z (known_of (get_or ss i s)) (rows_of rs)) o → Makes (tells_from 0) o
      tells_here o h m = makes_as o _ _ m (sym (next_tells true h))

      pub tells_on : false ≡ is_function (known_of (get_or ss i s)) → tells_from 0 ≡ tells_from (i + 1)
      tells_on h = next_tells false h

    pub tells_over : length ss ≤ i → tells_from 0 ≡ tells_from i → Unknown_row ≡ tells_from 0
    unfolding function_tells
    tells_over l e = sym (e ∙ ap (λ z. function_tells Z (knowns (map known_of z)) (rows_of rs)) (drop_past ss i l))

-- ---- what a function of a sized type tells of its results

module _ (F : ℕ → List Text) (tell : List Row → Row) (t : SizeTree) where
  module _ (r : RowShape) (u : row_of r ≡ Unknown_row) where
    pub hole_results : (v : variables.Variable) → t ≡ trees.Hole v → row_of r ≡ results_row F (size_of t) tell
    hole_results v is = u ∙ sym (ap (λ z. results_row F z tell) (ap size_of is ∙ size_hole v))

    pub open_results : (n : ℕ) (v : variables.Variable) (y : Bor TypeTree) → t ≡ trees.Open n v y → row_of r ≡ results_row F (size_of t) tell
    open_results n v y is = u ∙ sym (ap (λ z. results_row F z tell) (ap size_of is ∙ size_open n v y))

    pub level_results : (height : ℕ) (d : dims.Dim) (y : Bor SizeTree) → t ≡ trees.Level height d y → row_of r ≡ results_row F (size_of t) tell
    level_results height d y is = u ∙ sym (ap (λ z. results_row F z tell) (ap size_of is ∙ size_level height d y))

    pub built_results : (height : ℕ) (h : Head) (ts : Bor (List SizeTree)) → t ≡ trees.Built height h ts → row_of r ≡ results_row F (size_of t) tell
    built_results height h ts is = u ∙ sym (ap (λ z. results_row F z tell) (ap size_of is ∙ size_built height h ts))

  module _ (height k : ℕ) (p q : Bor SizeTree) (is : t ≡ trees.Fun height k p q) where
    results_as : results_row F (size_of t) tell ≡ cond (is_known (size_of p.now) && gives_chosen k (size_of q.now)) (tell (chosen_row F (size_of p.now) ∷ [])) Unknown_row
    results_as = ap (λ z. results_row F z tell) (ap size_of is ∙ size_fun height k p q)

    pub unknown_results : (r : RowShape) → row_of r ≡ Unknown_row → false ≡ is_known (size_of p.now) → row_of r ≡ results_row F (size_of t) tell
    unknown_results r u e = u ∙ sym (results_as ∙ ap (λ z. cond (z && gives_chosen k (size_of q.now)) (tell (chosen_row F (size_of p.now) ∷ [])) Unknown_row) (sym e))

    module _ (e : true ≡ is_known (size_of p.now)) where
      by_result : (b : Bool) → b ≡ gives_chosen k (size_of q.now) → results_row F (size_of t) tell ≡ cond b (tell (chosen_row F (size_of p.now) ∷ [])) Unknown_row
      by_result b h = results_as ∙ ap (λ z. cond (z && gives_chosen k (size_of q.now)) (tell (chosen_row F (size_of p.now) ∷ [])) Unknown_row) (sym e) ∙ ap (λ z. cond z (tell (chosen_row F (size_of p.now) ∷ [])) Unknown_row) (sym h)

      pub untold_results : (r : RowShape) → row_of r ≡ Unknown_row → false ≡ gives_chosen k (size_of q.now) → row_of r ≡ results_row F (size_of t) tell
      untold_results r u h = u ∙ sym (by_result false h)

      pub told_results : (taken : Bor RowShape) (rs : List RowShape) (o : Row_made) → true ≡ gives_chosen k (size_of q.now) → row_of taken.now ≡ chosen_row F (size_of p.now) → rs ≡ taken.now ∷ [] → Makes (tell (rows_of rs)) o → Makes (results_row F (size_of t) tell) o
      told_results given rs o h i e m = makes_as o _ _ m (ap (λ z. tell (rows_of z)) e ∙ ap (λ z. tell (z ∷ [])) i ∙ sym (by_result true h))
