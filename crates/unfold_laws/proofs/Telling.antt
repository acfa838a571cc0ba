-- Where all atoms of what was entered under names have a property, so have those of the rows, extents and tests that are found there.
use Rattle.std.proofs.Common.{Bool, true, false, cond, ℕ, zero, suc, ◌-◌, List, [], ◌∷◌, map, Option, Some, None, nat_eq, ◌&&◌}
use Rattle.std.specs.Str.{bytes_eq}
use Rattle.fut_ast.specs.Sorts.{Text}
use Rattle.fut_flat.specs.declared.prim.Primitive.{Primitive}
use Rattle.fut_flat.specs.declared.prim.Primitive.TheVariants as prim
use Rattle.fut_flat.specs.Numbers.{all_pattern_numbers}
use Rattle.fut_types.specs.declared.Head.{Head}
use Rattle.fut_types.specs.declared.Head.TheVariants as head
use Rattle.sized_types.specs.Sizes.{Free, Const, Name, Own, Unknown, Slot, Dim, At, Bound, Variable, Size, Hole, Open, Level, Built, Fun, Sizes, no_size, size_and}
use Rattle.sized_types.specs.Standing.{is_known, gives_chosen}
use Rattle.fut_meaning.specs.Found.{Sizing, is_number}
use Rattle.fut_meaning.specs.Places.{Path, Whole, In_rows, In_part, In_field, size_place, type_place, on_place}
use Rattle.fut_meaning.specs.Taken.{is_outer, on_size, outer_size, own_size}
use Rattle.fut_meaning.specs.Telling.{nodes_from}
use Rattle.fut_meaning.specs.Values.{is_before}
use Rattle.fut_meaning.proofs.Safe.{Every}
use Rattle.fut_blocks.specs.declared.block.Atom.{Atom}
use Rattle.fut_blocks.specs.Rows.{Row, Unknown_row, Tuple_row, Record_row, Array_row, Shape_of, Size_tests, Named_tests, Rows, no_row, row_and, Named_rows, no_named_row, named_row_and, Extent, Nowhere, Exactly, Worth_of, Length_of, rows}
use Rattle.fut_types.specs.Types.{Tys, none, more}
use Rattle.unfold.specs.Knowns.{Known, Scalar_known, Tuple_known, Record_known, Function_known, Primitive_known, Knowns, no_known, known_and, Known_fields, no_known_field, known_field_and, Scope, seeing, entered_in, Entered, no_entry, entry}
use Rattle.unfold.specs.Telling.{expression, passed, says, taken, told, part_at, part_in, field_at, field_in, at_row, as_many, length_of, with_named, named_rows, headed, told_row, told_rows, pushed, typed_by, result_row, Found, nothing_found, number, with_data, chosen_none, chosen_row, if_told, results_row, with_results, named_worth, with_worth, Argument, Telling, Of_row, Of_rows, by_function, rows_in, argument_row, same_row, mapped_rows, first_row, last_row, element_row, zipped_row, unzipped_row, replicated, counted, tabulated, indices_row, unflattened, transposed, primitive_tells, known_worth, known_row, known_rows, field_rows, is_function, data_told, to_come, closure_tells, found, tells, function_tells, rows_for, head_test, size_test, size_tests, named_tests, literal_row, function_row, test_at, size_used, enter}
use Rattle.unfold_laws.specs.Entered.{All_in_known, All_in_knowns, All_in_known_fields, All_entered, All_entries}
use Rattle.unfold_laws.proofs.Entered.{entries_in}
use Rattle.unfold_laws.specs.Typed.{Types, Are, Stands}
use Rattle.unfold_laws.specs.Standing.{All_in_row, All_in_rows, All_in_fields, All_in_extent, All_in_test, All_in_tests, All_in_field_tests}

-- of what there may be
abbrev pub On_some : {A : Type 0} → (A → Type 0) → Option A → Type 0
On_some Q None = Unit {0}
On_some Q (Some a) = Q a

all_if : {A : Type 0} (Q : A → Type 0) (b : Bool) (x y : A) → Q x → Q y → Q (cond b x y)
all_if Q true x y h k = h
all_if Q false x y h k = k

-- at a place where there is one, and else what there is
placed_all : {A : Type 0} (Q : A → Type 0) (o : Option Path) {there : Path → A} {a : A} → ((p : Path) → Q (there p)) → Q a → Q (on_place o there a)
placed_all Q (Some p) h k = h p
placed_all Q None h k = k

module _ (P : Atom → Type 0) where
  abbrev Row_all : Row → Type 0
  Row_all r = All_in_row P r

  abbrev Extent_all : Extent → Type 0
  Extent_all e = All_in_extent P e

  rows_all : (rs : List Row) → Every Row_all rs → All_in_rows P (rows rs)
  rows_all [] h = tt
  rows_all (r ∷ rs) h = (h.0, rows_all rs h.1)

  -- ---- what stands at a place
  rows_in_all : (r : Row) → Row_all r → Row_all (rows_in r)
  rows_in_all (Array_row e r) h = h.1
  rows_in_all r h = h

  part_at_all : (k : ℕ) (rs : Rows) → All_in_rows P rs → Row_all (part_at k rs)
  part_at_all k no_row h = tt
  part_at_all zero (row_and r rs) h = h.0
  part_at_all (suc k) (row_and r rs) h = part_at_all k rs h.1

  part_in_all : (k : ℕ) (r : Row) → Row_all r → Row_all (part_in k r)
  part_in_all k (Tuple_row rs) h = part_at_all k rs h
  part_in_all k r h = h

  field_at_all : (f : Text) (fs : Named_rows) → All_in_fields P fs → Row_all (field_at f fs)
  field_at_all f no_named_row h = tt
  field_at_all f (named_row_and g r fs) h = all_if Row_all (bytes_eq g f) r (field_at f fs) h.0 (field_at_all f fs h.1)

  field_in_all : (f : Text) (r : Row) → Row_all r → Row_all (field_in f r)
  field_in_all f (Record_row fs) h = field_at_all f fs h
  field_in_all f r h = h

  at_row_all : (p : Path) (r : Row) → Row_all r → Row_all (at_row p r)
  at_row_all Whole r h = h
  at_row_all (In_rows p) r h = at_row_all p (rows_in r) (rows_in_all r h)
  at_row_all (In_part k p) r h = at_row_all p (part_in k r) (part_in_all k r h)
  at_row_all (In_field f p) r h = at_row_all p (field_in f r) (field_in_all f r h)

  as_many_all : (e : Extent) → Extent_all e → Extent_all (as_many e)
  as_many_all Nowhere h = tt
  as_many_all (Exactly n) h = tt
  as_many_all (Worth_of u) h = (h, tt)
  as_many_all (Length_of r) h = h

  length_all : (r : Row) → Row_all r → Extent_all (length_of r)
  length_all (Array_row e r) h = as_many_all e h.0
  length_all r h = h

  module _ (fields : ℕ → List Text) where
    -- ---- rows of sized types
    with_named_all : (f : Text) (r : Row) (fs : Named_rows) → Row_all r → All_in_fields P fs → All_in_fields P (with_named f r fs)
    with_named_all f r no_named_row h k = (h, tt)
    with_named_all f r (named_row_and g q fs) h k = all_if (All_in_fields P) (is_before f g) (named_row_and f r (named_row_and g q fs)) (named_row_and g q (with_named f r fs)) (h, k) (k.0, with_named_all f r fs h k.1)

    named_rows_all : (fs : List Text) (rs : Rows) → All_in_rows P rs → All_in_fields P (named_rows fs rs)
    named_rows_all [] rs h = tt
    named_rows_all (f ∷ fs) no_row h = tt
    named_rows_all (f ∷ fs) (row_and r rs) h = with_named_all f r (named_rows fs rs) h.0 (named_rows_all fs rs h.1)

    headed_all : (k : Head) (rs : Rows) (named : ℕ → Named_rows) → All_in_rows P rs → ((n : ℕ) → All_in_fields P (named n)) → Row_all (headed k rs named)
    headed_all (head.Scalar s) rs named h n = tt
    headed_all head.Tuple rs named h n = h
    headed_all (head.Record m) rs named h n = n m
    headed_all k rs named h n = tt

    module _ (of_dims : Dim → Extent) (type : Variable → Row) (dims : (d : Dim) → All_in_extent P (of_dims d)) (types : (v : Variable) → Row_all (type v)) where
      mutual
        unfolding told_row told_rows

        told_all : (t : Size) → Row_all (told_row fields of_dims type t)
        told_all (Hole v) = types v
        told_all (Open n v u) = tt
        told_all (Level d t) = (dims d, told_all t)
        told_all (Built k ts) = headed_all k (told_rows fields of_dims type ts) _ (all_told ts) (λ n. named_rows_all (fields n) (told_rows fields of_dims type ts) (all_told ts))
        told_all (Fun k p r) = tt

        all_told : (ts : Sizes) → All_in_rows P (told_rows fields of_dims type ts)
        all_told no_size = tt
        all_told (size_and t ts) = (told_all t, all_told ts)

    pushed_all : (p : Size) (r : Row) (of_dims : Dim → Extent) → Row_all r → ((d : Dim) → All_in_extent P (of_dims d)) → (d : Dim) → All_in_extent P (pushed fields p r of_dims d)
    pushed_all p r of_dims h n (At d) = n (At d)
    pushed_all p r of_dims h n (Bound zero i) = placed_all Extent_all (size_place fields (Bound 0 i) p) {there = λ q. length_of (at_row q r)} {a = Nowhere} (λ q. length_all (at_row q r) (at_row_all q r h)) tt
    pushed_all p r of_dims h n (Bound (suc j) i) = n (Bound j i)

    typed_by_all : (p : Size) (r : Row) (type : Variable → Row) → Row_all r → ((v : Variable) → Row_all (type v)) → (v : Variable) → Row_all (typed_by fields p r type v)
    typed_by_all p r type h n v = placed_all Row_all (type_place fields v p) {there = λ q. at_row q r} {a = type v} (λ q. at_row_all q r h) (n v)

    result_all : (t : Size) (rs : List Row) (of_dims : Dim → Extent) (type : Variable → Row) → ((d : Dim) → All_in_extent P (of_dims d)) → ((v : Variable) → Row_all (type v)) → Every Row_all rs → Row_all (result_row fields of_dims type t rs)
    unfolding result_row
    result_all (Hole v) [] of_dims type d n h = told_all of_dims type d n (Hole v)
    result_all (Open k v u) [] of_dims type d n h = told_all of_dims type d n (Open k v u)
    result_all (Level x t) [] of_dims type d n h = told_all of_dims type d n (Level x t)
    result_all (Built k ts) [] of_dims type d n h = told_all of_dims type d n (Built k ts)
    result_all (Fun k p t) [] of_dims type d n h = told_all of_dims type d n (Fun k p t)
    result_all (Fun k p t) (r ∷ rs) of_dims type d n h = result_all t rs (pushed fields p r of_dims) (typed_by fields p r type) (pushed_all p r of_dims h.0 d) (typed_by_all p r type h.0 n) h.1
    result_all (Hole v) (r ∷ rs) of_dims type d n h = tt
    result_all (Open k v u) (r ∷ rs) of_dims type d n h = tt
    result_all (Level x t) (r ∷ rs) of_dims type d n h = tt
    result_all (Built k ts) (r ∷ rs) of_dims type d n h = tt

  -- ---- what is found
  record Found_all (W : Found) : Type 0 where
    sizes : (d : Free) → Extent_all (W.size d)
    types : (v : Variable) → Row_all (W.type v)

  nothing_all : Found_all nothing_found
  nothing_all = record { sizes = λ d. tt; types = λ v. tt }

  number_all : (W : Found) → Found_all W → (d : Dim) → Extent_all (number W d)
  number_all W f (At (Const c)) = tt
  number_all W f (At d) = f.sizes d
  number_all W f (Bound j i) = tt

  module _ (fields : ℕ → List Text) where
    with_data_all : (t : Size) (r : Row) (W : Found) → Row_all r → Found_all W → Found_all (with_data fields t r W)
    with_data_all t r W h f = record {
      sizes = λ d. placed_all Extent_all (size_place fields (At d) t) {there = λ p. length_of (at_row p r)} {a = W.size d} (λ p. length_all (at_row p r) (at_row_all p r h)) (f.sizes d);
      types = λ v. placed_all Row_all (type_place fields v t) {there = λ p. at_row p r} {a = W.type v} (λ p. at_row_all p r h) (f.types v);
    }

    none_all : (d : Dim) → All_in_extent P (chosen_none d)
    none_all (At (Const c)) = tt
    none_all d = tt

    chosen_all : (p : Size) → Row_all (chosen_row fields p)
    chosen_all p = told_all fields chosen_none (λ v. Unknown_row) none_all (λ v. tt) p

    results_row_all : (t : Size) (tell : List Row → Row) → ((rs : List Row) → Every Row_all rs → Row_all (tell rs)) → Row_all (results_row fields t tell)
    results_row_all (Fun k p r) tell told = all_if Row_all (is_known p && gives_chosen k r) (tell (chosen_row fields p ∷ [])) Unknown_row (told (chosen_row fields p ∷ []) (chosen_all p, tt)) tt
    results_row_all (Hole v) tell told = tt
    results_row_all (Open n v u) tell told = tt
    results_row_all (Level d t) tell told = tt
    results_row_all (Built k ts) tell told = tt

    results_all : (t : Size) (r : Row) (W : Found) → Row_all r → Found_all W → Found_all (with_results fields t r W)
    results_all (Fun k p q) r W h f = if_told_all (is_known p && gives_chosen k q) (with_data fields q r W) W (with_data_all q r W h f) f
      where
        if_told_all : (b : Bool) (V W : Found) → Found_all V → Found_all W → Found_all (if_told b V W)
        if_told_all true V W f g = f
        if_told_all false V W f g = g
    results_all (Hole v) r W h f = f
    results_all (Open n v u) r W h f = f
    results_all (Level d t) r W h f = f
    results_all (Built k ts) r W h f = f

  named_worth_all : (home : ℕ → ℕ) (q : ℕ) (t : Size) (e : Extent) → Extent_all e → (d : Free) (o : Extent) → Extent_all o → Extent_all (named_worth home q t e d o)
  named_worth_all home q t e h (Name b) o k = all_if Extent_all (nat_eq (home b) q && is_number t) e o h k
  named_worth_all home q t e h d o k = k

  with_worth_all : (home : ℕ → ℕ) (q : ℕ) (t : Size) (e : Extent) (W : Found) → Extent_all e → Found_all W → Found_all (with_worth home q t e W)
  with_worth_all home q t e W h f = record { sizes = λ d. named_worth_all home q t e h d (W.size d) (f.sizes d); types = f.types }

  -- ---- primitives
  abbrev Argument_all : Argument → Type 0
  Argument_all a = Row_all a.0 × Extent_all a.1

  abbrev Telling_all : Telling → Type 0
  Telling_all (Of_row r) = Row_all r
  Telling_all (Of_rows e rs) = Extent_all e × Every Row_all rs

  by_function_all : (f : List Row → Row) (t : Telling) → ((rs : List Row) → Every Row_all rs → Row_all (f rs)) → Telling_all t → Row_all (by_function f t)
  by_function_all f (Of_row r) told h = h
  by_function_all f (Of_rows e rs) told h = (h.0, told rs h.1)

  arguments_all : (bs : List Argument) → Every Argument_all bs → Every Row_all (map argument_row bs)
  arguments_all [] h = tt
  arguments_all (a ∷ bs) h = (rows_in_all a.0 h.0.0, arguments_all bs h.1)

  last_all : (bs : List Argument) → Every Argument_all bs → Telling_all (last_row bs)
  last_all [] h = tt
  last_all (a ∷ []) h = h.0.0
  last_all (a ∷ b ∷ bs) h = last_all (b ∷ bs) h.1

  same_all : (bs : List Argument) → Every Argument_all bs → Telling_all (same_row bs)
  same_all [] h = tt
  same_all (a ∷ []) h = h.0.0
  same_all (a ∷ b ∷ bs) h = tt

  first_all : (bs : List Argument) → Every Argument_all bs → Telling_all (first_row bs)
  first_all [] h = tt
  first_all (a ∷ bs) h = h.0.0

  mapped_all : (bs : List Argument) → Every Argument_all bs → Telling_all (mapped_rows bs)
  mapped_all [] h = tt
  mapped_all (a ∷ bs) h = (length_all a.0 h.0.0, arguments_all (a ∷ bs) h)

  element_all : (bs : List Argument) → Every Argument_all bs → Telling_all (element_row bs)
  element_all [] h = tt
  element_all (a ∷ []) h = rows_in_all a.0 h.0.0
  element_all (a ∷ b ∷ bs) h = tt

  zipped_all : (bs : List Argument) → Every Argument_all bs → Telling_all (zipped_row bs)
  zipped_all [] h = tt
  zipped_all (a ∷ bs) h = (length_all a.0 h.0.0, rows_all (map argument_row (a ∷ bs)) (arguments_all (a ∷ bs) h))

  unzipped_all : (bs : List Argument) → Every Argument_all bs → Telling_all (unzipped_row bs)
  unzipped_all [] h = tt
  unzipped_all (a ∷ []) h = (length_all a.0 h.0.0, rows_in_all a.0 h.0.0)
  unzipped_all (a ∷ b ∷ bs) h = tt

  replicated_all : (bs : List Argument) → Every Argument_all bs → Telling_all (replicated bs)
  replicated_all [] h = tt
  replicated_all (n ∷ []) h = tt
  replicated_all (n ∷ a ∷ []) h = (h.0.1, h.1.0.0)
  replicated_all (n ∷ a ∷ b ∷ bs) h = tt

  counted_all : (bs : List Argument) → Every Argument_all bs → Telling_all (counted bs)
  counted_all [] h = tt
  counted_all (n ∷ []) h = (h.0.1, tt)
  counted_all (n ∷ b ∷ bs) h = tt

  tabulated_all : (bs : List Argument) → Every Argument_all bs → Telling_all (tabulated bs)
  tabulated_all [] h = tt
  tabulated_all (n ∷ []) h = (h.0.1, (tt, tt))
  tabulated_all (n ∷ b ∷ bs) h = tt

  indices_all : (bs : List Argument) → Every Argument_all bs → Telling_all (indices_row bs)
  indices_all [] h = tt
  indices_all (a ∷ []) h = (length_all a.0 h.0.0, tt)
  indices_all (a ∷ b ∷ bs) h = tt

  unflattened_all : (bs : List Argument) → Every Argument_all bs → Telling_all (unflattened bs)
  unflattened_all [] h = tt
  unflattened_all (n ∷ []) h = tt
  unflattened_all (n ∷ m ∷ []) h = tt
  unflattened_all (n ∷ m ∷ a ∷ []) h = (h.0.1, (h.1.0.1, rows_in_all a.0 h.1.1.0.0))
  unflattened_all (n ∷ m ∷ a ∷ b ∷ bs) h = tt

  transposed_all : (bs : List Argument) → Every Argument_all bs → Telling_all (transposed bs)
  transposed_all [] h = tt
  transposed_all (a ∷ []) h = (length_all (rows_in a.0) (rows_in_all a.0 h.0.0), (length_all a.0 h.0.0, rows_in_all (rows_in a.0) (rows_in_all a.0 h.0.0)))
  transposed_all (a ∷ b ∷ bs) h = tt

  primitive_all : (p : Primitive) (bs : List Argument) → Every Argument_all bs → Telling_all (primitive_tells p bs)
  unfolding primitive_tells
  primitive_all prim.Map bs h = mapped_all bs h
  primitive_all prim.Map2 bs h = mapped_all bs h
  primitive_all prim.Map3 bs h = mapped_all bs h
  primitive_all prim.Map4 bs h = mapped_all bs h
  primitive_all prim.Map5 bs h = mapped_all bs h
  primitive_all prim.Reduce bs h = first_all bs h
  primitive_all prim.ReduceComm bs h = first_all bs h
  primitive_all prim.Scan bs h = last_all bs h
  primitive_all prim.Scatter bs h = first_all bs h
  primitive_all prim.ReduceByIndex bs h = first_all bs h
  primitive_all prim.Zip bs h = zipped_all bs h
  primitive_all prim.Zip3 bs h = zipped_all bs h
  primitive_all prim.Unzip bs h = unzipped_all bs h
  primitive_all prim.Unzip3 bs h = unzipped_all bs h
  primitive_all prim.Iota bs h = counted_all bs h
  primitive_all prim.Replicate bs h = replicated_all bs h
  primitive_all prim.Tabulate bs h = tabulated_all bs h
  primitive_all prim.Indices bs h = indices_all bs h
  primitive_all prim.Head bs h = element_all bs h
  primitive_all prim.Last bs h = element_all bs h
  primitive_all prim.Reverse bs h = same_all bs h
  primitive_all prim.Rotate bs h = last_all bs h
  primitive_all prim.Unflatten bs h = unflattened_all bs h
  primitive_all prim.Transpose bs h = transposed_all bs h
  primitive_all prim.Copy bs h = same_all bs h
  primitive_all p bs h = tt

  -- ---- what is known of values
  worth_known : (s : Known) → All_in_known P s → Extent_all (known_worth s)
  worth_known (Scalar_known u) h = h
  worth_known (Tuple_known ss) h = tt
  worth_known (Record_known fs) h = tt
  worth_known (Function_known ps e lo sc) h = tt
  worth_known (Primitive_known p at ss) h = tt

  mutual
    unfolding known_row known_rows field_rows

    pub row_known : (s : Known) → All_in_known P s → Row_all (known_row s)
    row_known (Scalar_known u) h = h
    row_known (Tuple_known ss) h = rows_known ss h
    row_known (Record_known fs) h = fields_known fs h
    row_known (Function_known ps e lo sc) h = tt
    row_known (Primitive_known p at ss) h = tt

    rows_known : (ss : Knowns) → All_in_knowns P ss → All_in_rows P (known_rows ss)
    rows_known no_known h = tt
    rows_known (known_and s ss) h = (row_known s h.0, rows_known ss h.1)

    fields_known : (fs : Known_fields) → All_in_known_fields P fs → All_in_fields P (field_rows fs)
    fields_known no_known_field h = tt
    fields_known (known_field_and f s fs) h = (row_known s h.0, fields_known fs h.1)

  data_all : (ss : Knowns) (bs : List Argument) → All_in_knowns P ss → Every Argument_all bs → Every Argument_all (data_told ss bs)
  unfolding data_told
  data_all no_known bs h k = k
  data_all (known_and s ss) bs h k = all_if (Every Argument_all) (is_function s) (data_told ss bs) ((known_row s, known_worth s) ∷ data_told ss bs) (data_all ss bs h.1 k) ((row_known s h.0, worth_known s h.0), data_all ss bs h.1 k)

  to_come_all : (rs : List Row) → Every Row_all rs → Every Argument_all (to_come rs)
  to_come_all [] h = tt
  to_come_all (r ∷ rs) h = ((h.0, tt), to_come_all rs h.1)

  module _ (Z : Sizing) where
    closure_all : (qs : List ℕ) (lo : ℕ) (rs : List Row) (W : Found) → Found_all W → Every Row_all rs → Row_all (closure_tells Z qs lo rs W)
    unfolding closure_tells
    closure_all [] lo rs W f h = result_all Z.fields (Z.size_at lo) rs (number W) W.type (number_all W f) f.types h
    closure_all (q ∷ qs) lo [] W f h = tt
    closure_all (q ∷ qs) lo (r ∷ rs) W f h = closure_all qs lo rs (with_data Z.fields (Z.size_at q) r W) (with_data_all Z.fields (Z.size_at q) r W h.0 f) h.1

    found_all : (es : Entered) → All_entries P es → Found_all (found Z es)
    unfolding found
    found_all no_entry h = nothing_all
    found_all (entry q s r es) h =
        let W : Found = with_results Z.fields (Z.size_at q) r (found Z es) in
        with_worth_all Z.home q (Z.size_at q) (known_worth s) (with_data Z.fields (Z.size_at q) (known_row s) W) (worth_known s h.0)
        (with_data_all Z.fields (Z.size_at q) (known_row s) W (row_known s h.0) (results_all Z.fields (Z.size_at q) r (found Z es) h.1 (found_all es h.2)))

    mutual
      unfolding tells function_tells

      tells_all : (s : Known) (rs : List Row) → All_in_known P s → Every Row_all rs → Row_all (tells Z s rs)
      tells_all (Scalar_known u) rs h k = tt
      tells_all (Tuple_known ss) rs h k = tt
      tells_all (Record_known fs) rs h k = tt
      tells_all (Function_known ps e lo sc) rs h k = closure_all (nodes_from ps (lo - all_pattern_numbers ps)) lo rs (found Z (entered_in sc)) (found_all (entered_in sc) (entries_in P sc h)) k
      tells_all (Primitive_known p at ss) rs h k = by_function_all (function_tells Z ss) (primitive_tells p (data_told ss (to_come rs))) (λ qs l. function_all ss qs h l) (primitive_all p (data_told ss (to_come rs)) (data_all ss (to_come rs) h (to_come_all rs k)))

      function_all : (ss : Knowns) (rs : List Row) → All_in_knowns P ss → Every Row_all rs → Row_all (function_tells Z ss rs)
      function_all no_known rs h k = tt
      function_all (known_and s ss) rs h k = all_if Row_all (is_function s) (tells Z s rs) (function_tells Z ss rs) (tells_all s rs h.0 k) (function_all ss rs h.1 k)

    -- ---- sizes as expressions
    cond_all : (b : Bool) (e f : Extent) → Extent_all e → Extent_all f → Extent_all (cond b e f)
    cond_all b e f h k = all_if Extent_all b e f h k

    expression_by : (es : Entered) → Found_all (found Z es) → ((d : Free) → Extent_all (passed Z es d)) → (x : Dim) → Extent_all (expression Z es x)
    expression_by es f h (At (Const c)) = tt
    expression_by es f h (At (Name b)) = cond_all (told Z es (Name b)) ((found Z es).size (Name b)) (passed Z es (Name b)) (f.sizes (Name b)) (h (Name b))
    expression_by es f h (At (Own n i)) = cond_all (told Z es (Own n i)) ((found Z es).size (Own n i)) (passed Z es (Own n i)) (f.sizes (Own n i)) (h (Own n i))
    expression_by es f h (At (Unknown n i)) = cond_all (told Z es (Unknown n i)) ((found Z es).size (Unknown n i)) (passed Z es (Unknown n i)) (f.sizes (Unknown n i)) (h (Unknown n i))
    expression_by es f h (At (Slot i)) = cond_all (told Z es (Slot i)) ((found Z es).size (Slot i)) (passed Z es (Slot i)) (f.sizes (Slot i)) (h (Slot i))
    expression_by es f h (Bound j i) = tt

    said_all : (outer : Dim → Bool) (there : Dim → Extent) (e : Extent) → ((x : Dim) → Extent_all (there x)) → Extent_all e → (o : Option Dim) → Extent_all (on_size (outer_size outer o) there e)
    said_all outer there e h k None = k
    said_all outer there e h k (Some x) = by (outer x)
      where
        by : (b : Bool) → Extent_all (on_size (cond b (Some x) None) there e)
        by true = h x
        by false = k

    mutual
      unfolding passed says

      passed_all : (es : Entered) (d : Free) → All_entries P es → Extent_all (passed Z es d)
      passed_all no_entry d h = tt
      passed_all (entry q s r es) d h = says_all s (Z.size_at q) (At d) (passed Z es d) h.0 (passed_all es d h.2)

      says_all : (s : Known) (t : Size) (x : Dim) (e : Extent) → All_in_known P s → Extent_all e → Extent_all (says Z s t x e)
      says_all (Scalar_known u) t x e h k = k
      says_all (Tuple_known ss) t x e h k = k
      says_all (Record_known fs) t x e h k = k
      says_all (Function_known ps b lo (seeing names es)) t x e h k =
          said_all (is_outer (told Z es) (taken Z es)) (expression Z es) e (expression_by es (found_all es h) (λ d. passed_all es d h)) k (own_size Z t (nodes_from ps (lo - all_pattern_numbers ps)) x)
      says_all (Primitive_known p at ss) t x e h k = k

    expression_all : (es : Entered) (x : Dim) → All_entries P es → Extent_all (expression Z es x)
    expression_all es x h = expression_by es (found_all es h) (λ d. passed_all es d h) x

  atoms_rows : (us : List Atom) → Every P us → Every Row_all (map (λ u. rows_in (Shape_of u)) us)
  atoms_rows [] h = tt
  atoms_rows (u ∷ us) h = (rows_in_all (Shape_of u) h.0, atoms_rows us h.1)

  rows_for_all : (p : Primitive) (us : List Atom) → Every P us → Every Row_all (rows_for p us)
  rows_for_all prim.Tabulate us h = (tt, tt)
  rows_for_all p us h = atoms_rows us h

  -- ---- tests
  head_test_all : (k : Head) (parts : Size_tests) (named : ℕ → Named_tests) → All_in_tests P parts → ((n : ℕ) → All_in_field_tests P (named n)) → All_in_test P (head_test k parts named)
  head_test_all head.Tuple parts named h n = h
  head_test_all (head.Record m) parts named h n = n m
  head_test_all k parts named h n = tt

  module _ (fields : ℕ → List Text) (W : Found) (f : Found_all W) where
    mutual
      unfolding size_test size_tests named_tests

      test_all : (t : Size) → All_in_test P (size_test fields W t)
      test_all (Hole v) = tt
      test_all (Open n v u) = tt
      test_all (Level d t) = (number_all W f d, test_all t)
      test_all (Built k ts) = head_test_all k (size_tests fields W ts) _ (tests_all ts) (λ n. field_tests_all (fields n) ts)
      test_all (Fun k p r) = tt

      tests_all : (ts : Sizes) → All_in_tests P (size_tests fields W ts)
      tests_all no_size = tt
      tests_all (size_and t ts) = (test_all t, tests_all ts)

      field_tests_all : (fs : List Text) (ts : Sizes) → All_in_field_tests P (named_tests fields W fs ts)
      field_tests_all fs no_size = tt
      field_tests_all [] (size_and t ts) = tt
      field_tests_all (g ∷ fs) (size_and t ts) = (test_all t, field_tests_all fs ts)

  -- ---- where there is a sizing
  pub literal_row_all : (z : Option Sizing) (sc : Scope) (lo : ℕ) → All_entered P sc → Row_all (literal_row z sc lo)
  literal_row_all None sc lo h = tt
  literal_row_all (Some Z) sc lo h =
      let W : Found = found Z (entered_in sc) in
      let f : Found_all W = found_all Z (entered_in sc) (entries_in P sc h) in
      rows_in_all (told_row Z.fields (number W) W.type (Z.size_at lo)) (told_all Z.fields (number W) W.type (number_all W f) f.types (Z.size_at lo))

  pub function_row_all : (z : Option Sizing) (p : Primitive) (s : Known) (us : List Atom) → All_in_known P s → Every P us → Row_all (function_row z p s us)
  function_row_all None p s us h k = tt
  function_row_all (Some Z) p s us h k = tells_all Z s (rows_for p us) h (rows_for_all p us k)

  pub test_at_all : (z : Option Sizing) (sc : Scope) (lo : ℕ) → All_entered P sc → On_some (All_in_test P) (test_at z sc lo)
  test_at_all None sc lo h = tt
  test_at_all (Some Z) sc lo h = test_all Z.fields (found Z (entered_in sc)) (found_all Z (entered_in sc) (entries_in P sc h)) (Z.size_at lo)

  pub size_used_all : (z : Option Sizing) (sc : Scope) (k : ℕ) → All_entered P sc → On_some (All_in_extent P) (size_used z sc k)
  size_used_all None sc k h = tt
  size_used_all (Some Z) sc k h = all_if (On_some (All_in_extent P)) (Z.is_size k) (Some (expression Z (entered_in sc) (At (Name k)))) None (expression_all Z (entered_in sc) (At (Name k)) (entries_in P sc h)) tt

  pub enter_all : (z : Option Sizing) (q : ℕ) (s : Known) (sc : Scope) → All_in_known P s → All_entered P sc → All_entered P (enter z q s sc)
  enter_all None q s sc h k = k
  enter_all (Some Z) q s sc h k = (h, results_row_all Z.fields (Z.size_at q) (tells Z s) (λ rs l. tells_all Z s rs h l), entries_in P sc k)

-- atoms of types stand for data
pub are_stand : (G : Types) (us : List Atom) (ts : Tys) → Are G us ts → Every (Stands G) us
are_stand G [] none h = tt
are_stand G [] (more t ts) h = absurd h
are_stand G (u ∷ us) none h = absurd h
are_stand G (u ∷ us) (more t ts) h = ((t, h.0), are_stand G us ts h.1)
