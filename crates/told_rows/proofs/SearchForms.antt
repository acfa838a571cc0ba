-- What stands where something is first, in what was entered and in data.
use Rattle.std.proofs.Common.{◌≡◌, ℕ, zero, suc, ◌<◌, Bool, true, false, ◌&&◌, cond, List, [], ◌∷◌, ◌++◌, length, get_or, take, Option, Some, None, Result, Ok, Err, IfOk, refl, sym, ap, ◌∙◌, arith, slice_get, eq-eqb}
use Rattle.std.proofs.lemmas.Bool.{ne_eqb}
use Rattle.std.specs.Borrow.{Bor}
use Rattle.fut_ast.specs.Sorts.{Text}
use Rattle.fut_blocks.specs.declared.row.RowShape.{RowShape}
use Rattle.fut_blocks.specs.Rows.{Row, Extent, row_of}
use Rattle.fut_meaning.specs.Found.{Sizing, is_number}
use Rattle.fut_meaning.specs.Places as places
use Rattle.fut_meaning.specs.Places.{or_else, on_place}
use Rattle.fut_scalar.specs.declared.memory.NoMemory.{NoMemory}
use Rattle.sized_types.specs.Sizes.{At, Size, Hole, Open, Level, Built, Fun}
use Rattle.sized_types.specs.Standing.{is_known, gives_chosen}
use Rattle.fut_types.specs.declared.Head.{Head}
use Rattle.size_arena.specs.declared.dims.Dim as dims
use Rattle.size_arena.specs.declared.dims.Dim.TheVariants as dim
use Rattle.size_arena.specs.declared.dims.Free as frees
use Rattle.size_arena.specs.declared.dims.Free.TheVariants as free
use Rattle.size_arena.specs.declared.dims.Variable as variables
use Rattle.size_arena.specs.declared.trees.SizeTree.{SizeTree}
use Rattle.size_arena.specs.declared.trees.SizeTree.TheVariants as form
use Rattle.size_arena.specs.declared.types.TypeTree.{TypeTree}
use Rattle.size_arena.specs.Trees.{size_of, free_of, variable_of}
use Rattle.size_arena.proofs.Forms.{size_hole, size_open, size_level, size_built, size_fun}
use Rattle.unfold.specs.Knowns.{Known, Entered, entry}
use Rattle.unfold.specs.Telling as telling
use Rattle.unfold.specs.Telling.{at_row, length_of, found, with_data, with_results, with_worth, named_worth, known_row, known_worth, nothing_found}
use Rattle.told_rows.specs.declared.findings.Shaped.{Shaped}
use Rattle.told_rows.specs.declared.places.Sought.{Sought}
use Rattle.told_rows.specs.declared.places.Sought.TheVariants as sought
use Rattle.told_rows.specs.declared.tables.Sizes as tables
use Rattle.told_rows.specs.Findings.{with_all, last_there}
use Rattle.told_rows.specs.declared.places.Path.{Path}
use Rattle.told_rows.specs.Places.{maybe_path, path_of, maybe_row, place_of, there, results_there, entry_there, or_row, or_length}
use Rattle.told_rows.specs.Tables.{Tells, is_bound}

abbrev pub Found_made : Type 0
Found_made = Result (Option (Bor RowShape)) NoMemory

pub row_as : (o : Found_made) (p q : Option Row) → IfOk o (λ made. maybe_row made ≡ p) → p ≡ q → IfOk o (λ made. maybe_row made ≡ q)
row_as (Ok made) p q h e = h ∙ e
row_as (Err x) p q h e = tt

-- ---- data of a sized type that has a shape

module _ (F : ℕ → List Text) (x : Sought) (t : Size) (r : Row) (otherwise : Option Row) (o : Option (Bor Path)) (h : maybe_path o ≡ place_of F x t) where
  there_is : there F x t r otherwise ≡ on_place (maybe_path o) (λ p. Some (at_row p r)) otherwise
  there_is = ap (λ z. on_place z (λ p. Some (at_row p r)) otherwise) (sym h)

  pub place_found : (p : Bor Path) (q : Row) → o ≡ Some p → q ≡ at_row (path_of p.now) r → Some q ≡ there F x t r otherwise
  place_found p q j e = ap Some e ∙ sym (there_is ∙ ap (λ z. on_place (maybe_path z) (λ p. Some (at_row p r)) otherwise) j)

  pub place_none : o ≡ None → otherwise ≡ there F x t r otherwise
  place_none j = sym (there_is ∙ ap (λ z. on_place (maybe_path z) (λ p. Some (at_row p r)) otherwise) j)

-- what a function tells of its results
module _ (F : ℕ → List Text) (x : Sought) (r : Row) (t : SizeTree) where
  pub hole_there : (v : variables.Variable) → t ≡ form.Hole v → None ≡ results_there F x (size_of t) r
  hole_there v is = sym (ap (λ z. results_there F x z r) (ap size_of is ∙ size_hole v))

  pub open_there : (n : ℕ) (v : variables.Variable) (u : Bor TypeTree) → t ≡ form.Open n v u → None ≡ results_there F x (size_of t) r
  open_there n v u is = sym (ap (λ z. results_there F x z r) (ap size_of is ∙ size_open n v u))

  pub level_there : (height : ℕ) (d : dims.Dim) (u : Bor SizeTree) → t ≡ form.Level height d u → None ≡ results_there F x (size_of t) r
  level_there height d u is = sym (ap (λ z. results_there F x z r) (ap size_of is ∙ size_level height d u))

  pub built_there : (height : ℕ) (h : Head) (ts : Bor (List SizeTree)) → t ≡ form.Built height h ts → None ≡ results_there F x (size_of t) r
  built_there height h ts is = sym (ap (λ z. results_there F x z r) (ap size_of is ∙ size_built height h ts))

  module _ (height k : ℕ) (p q : Bor SizeTree) (is : t ≡ form.Fun height k p q) where
    results_as : results_there F x (size_of t) r ≡ cond (is_known (size_of p.now) && gives_chosen k (size_of q.now)) (there F x (size_of q.now) r None) None
    results_as = ap (λ z. results_there F x z r) (ap size_of is ∙ size_fun height k p q)

    pub not_known : false ≡ is_known (size_of p.now) → None ≡ results_there F x (size_of t) r
    not_known e = sym (results_as ∙ ap (λ z. cond (z && gives_chosen k (size_of q.now)) (there F x (size_of q.now) r None) None) (sym e))

    module _ (e : true ≡ is_known (size_of p.now)) where
      by_result : (b : Bool) → b ≡ gives_chosen k (size_of q.now) → results_there F x (size_of t) r ≡ cond b (there F x (size_of q.now) r None) None
      by_result b h = results_as ∙ ap (λ z. cond (z && gives_chosen k (size_of q.now)) (there F x (size_of q.now) r None) None) (sym e) ∙ ap (λ z. cond z (there F x (size_of q.now) r None) None) (sym h)

      pub not_given : false ≡ gives_chosen k (size_of q.now) → None ≡ results_there F x (size_of t) r
      not_given h = sym (by_result false h)

      pub given_there : (o : Found_made) → true ≡ gives_chosen k (size_of q.now) → IfOk o (λ made. maybe_row made ≡ there F x (size_of q.now) r None) → IfOk o (λ made. maybe_row made ≡ results_there F x (size_of t) r)
      given_there o h m = row_as o _ _ m (sym (by_result true h))

-- ---- the last data that has it

module _ (F : ℕ → List Text) (x : Sought) where
  abbrev at_one : Shaped → Option Row
  at_one d = there F x (size_of d.tree.now) (row_of d.row.now) None

  or_else_more : (a b c : Option Row) → or_else (or_else a b) c ≡ or_else a (or_else b c)
  or_else_more (Some a) b c = refl
  or_else_more None b c = refl

  or_else_none : (a : Option Row) → or_else a None ≡ a
  or_else_none (Some a) = refl
  or_else_none None = refl

  last_behind : (ds : List Shaped) (d : Shaped) → last_there F x (ds ++ d ∷ []) ≡ or_else (at_one d) (last_there F x ds)
  last_behind [] d = sym (or_else_none (at_one d))
  last_behind (e ∷ ds) d = ap (λ z. or_else z (at_one e)) (last_behind ds d) ∙ or_else_more (at_one d) (last_there F x ds) (at_one e)

  take_behind : (ds : List Shaped) (i : ℕ) (d : Shaped) → i < length ds → take (suc i) ds ≡ take i ds ++ get_or ds i d ∷ []
  take_behind [] i d l = absurd (omega (arith, l))
  take_behind (e ∷ ds) zero d l = refl
  take_behind (e ∷ ds) (suc i) d l = ap (◌∷◌ e) (take_behind ds i d (omega (arith, l)))

  take_all : (ds : List Shaped) → take (length ds) ds ≡ ds
  take_all [] = refl
  take_all (d ∷ ds) = ap (◌∷◌ d) (take_all ds)

  pub last_start : (ds : List Shaped) → last_there F x ds ≡ last_there F x (take (length ds) ds)
  last_start ds = ap (last_there F x) (sym (take_all ds))

  module _ (ds : List Shaped) (n i : ℕ) (d : Shaped) (l : i < length ds) (s : n ≡ suc i) (e : last_there F x ds ≡ last_there F x (take n ds)) (o : Option (Bor RowShape)) (h : maybe_row o ≡ at_one (get_or ds i d)) where
    last_step : last_there F x ds ≡ or_else (maybe_row o) (last_there F x (take i ds))
    last_step = e ∙ ap (λ z. last_there F x (take z ds)) s ∙ ap (last_there F x) (take_behind ds i d l) ∙ last_behind (take i ds) (get_or ds i d) ∙ ap (λ z. or_else z (last_there F x (take i ds))) (sym h)

    pub last_found : (p : Bor RowShape) → o ≡ Some p → maybe_row o ≡ last_there F x ds
    last_found p j = ap maybe_row j ∙ sym (last_step ∙ ap (λ z. or_else (maybe_row z) (last_there F x (take i ds))) j)

    pub last_on : o ≡ None → last_there F x ds ≡ last_there F x (take i ds)
    last_on j = last_step ∙ ap (λ z. or_else (maybe_row z) (last_there F x (take i ds))) j

  pub last_over : (ds : List Shaped) (n : ℕ) → n ≡ 0 → last_there F x ds ≡ last_there F x (take n ds) → None ≡ last_there F x ds
  last_over ds n z e = sym (e ∙ ap (λ z. last_there F x (take z ds)) z)

-- ---- what was entered

row_placed : (o : Option places.Path) (r y : Row) → on_place o (λ p. at_row p r) y ≡ or_row (on_place o (λ p. Some (at_row p r)) None) y
row_placed (Some p) r y = refl
row_placed None r y = refl

length_placed : (o : Option places.Path) (r : Row) (y : Extent) → on_place o (λ p. length_of (at_row p r)) y ≡ or_length (on_place o (λ p. Some (at_row p r)) None) y
length_placed (Some p) r y = refl
length_placed None r y = refl

row_before : (o : Option places.Path) (r : Row) (w : Option Row) (y : Row) → on_place o (λ p. at_row p r) (or_row w y) ≡ or_row (on_place o (λ p. Some (at_row p r)) w) y
row_before (Some p) r w y = refl
row_before None r w y = refl

length_before : (o : Option places.Path) (r : Row) (w : Option Row) (y : Extent) → on_place o (λ p. length_of (at_row p r)) (or_length w y) ≡ or_length (on_place o (λ p. Some (at_row p r)) w) y
length_before (Some p) r w y = refl
length_before None r w y = refl

module _ (F : ℕ → List Text) (r : Row) (W : telling.Found) where
  results_type : (t : Size) (v : variables.Variable) → (with_results F t r W).type (variable_of v) ≡ or_row (results_there F (sought.Type v) t r) (W.type (variable_of v))
  results_type (Hole w) v = refl
  results_type (Open n w u) v = refl
  results_type (Level d t) v = refl
  results_type (Built h ts) v = refl
  results_type (Fun k p t) v = by (is_known p && gives_chosen k t)
    where
      by : (b : Bool) → (telling.if_told b (with_data F t r W) W).type (variable_of v) ≡ or_row (cond b (there F (sought.Type v) t r None) None) (W.type (variable_of v))
      by true = row_placed (place_of F (sought.Type v) t) r (W.type (variable_of v))
      by false = refl

  results_size : (t : Size) (d : frees.Free) → (with_results F t r W).size (free_of d) ≡ or_length (results_there F (sought.Size (dim.At d)) t r) (W.size (free_of d))
  results_size (Hole w) d = refl
  results_size (Open n w u) d = refl
  results_size (Level e t) d = refl
  results_size (Built h ts) d = refl
  results_size (Fun k p t) d = by (is_known p && gives_chosen k t)
    where
      by : (b : Bool) → (telling.if_told b (with_data F t r W) W).size (free_of d) ≡ or_length (cond b (there F (sought.Size (dim.At d)) t r None) None) (W.size (free_of d))
      by true = length_placed (place_of F (sought.Size (dim.At d)) t) r (W.size (free_of d))
      by false = refl

module _ (Z : Sizing) (q : ℕ) (s : Known) (r : Row) (es : Entered) where
  abbrev pub at_entry : Sought → Option Row
  at_entry x = entry_there Z.fields x (Z.size_at q) s r

  pub type_step : (v : variables.Variable) → (found Z (entry q s r es)).type (variable_of v) ≡ or_row (at_entry (sought.Type v)) ((found Z es).type (variable_of v))
  unfolding found
  type_step v =
      ap (on_place (place_of Z.fields (sought.Type v) (Z.size_at q)) (λ p. at_row p (known_row s))) (results_type Z.fields r (found Z es) (Z.size_at q) v)
      ∙ row_before (place_of Z.fields (sought.Type v) (Z.size_at q)) (known_row s) (results_there Z.fields (sought.Type v) (Z.size_at q) r) ((found Z es).type (variable_of v))

  -- a size by an entry: the name's worth, or what stands where it is first, or what is found of it further on
  pub found_by : (d : frees.Free) → (found Z (entry q s r es)).size (free_of d) ≡ named_worth Z.home q (Z.size_at q) (known_worth s) (free_of d) (or_length (at_entry (sought.Size (dim.At d))) ((found Z es).size (free_of d)))
  unfolding found
  found_by d =
      ap (named_worth Z.home q (Z.size_at q) (known_worth s) (free_of d))
      (ap (on_place (place_of Z.fields (sought.Size (dim.At d)) (Z.size_at q)) (λ p. length_of (at_row p (known_row s)))) (results_size Z.fields r (found Z es) (Z.size_at q) d)
      ∙ length_before (place_of Z.fields (sought.Size (dim.At d)) (Z.size_at q)) (known_row s) (results_there Z.fields (sought.Size (dim.At d)) (Z.size_at q) r) ((found Z es).size (free_of d)))

-- whether it is the name's worth
module _ (s : tables.Sizes) (Z : Sizing) (w : Tells s Z) (q : ℕ) (t : Size) (size : frees.Free) where
  pub const_unnamed : (c : ℕ) → size ≡ free.Const c → (e f : Extent) → named_worth Z.home q t e (free_of size) f ≡ f
  const_unnamed c is e f = ap (λ z. named_worth Z.home q t e (free_of z) f) is

  pub own_unnamed : (n i : ℕ) → size ≡ free.Own n i → (e f : Extent) → named_worth Z.home q t e (free_of size) f ≡ f
  own_unnamed n i is e f = ap (λ z. named_worth Z.home q t e (free_of z) f) is

  pub unknown_unnamed : (n i : ℕ) → size ≡ free.Unknown n i → (e f : Extent) → named_worth Z.home q t e (free_of size) f ≡ f
  unknown_unnamed n i is e f = ap (λ z. named_worth Z.home q t e (free_of z) f) is

  pub slot_unnamed : (i : ℕ) → size ≡ free.Slot i → (e f : Extent) → named_worth Z.home q t e (free_of size) f ≡ f
  slot_unnamed i is e f = ap (λ z. named_worth Z.home q t e (free_of z) f) is

  module _ (b : ℕ) (is : size ≡ free.Name b) (o : Option ℕ) (h : slice_get s.names.now q ≡ Some o) where
    name_is : (e f : Extent) → named_worth Z.home q t e (free_of size) f ≡ cond (is_bound o b && is_number t) e f
    name_is e f = ap (λ z. named_worth Z.home q t e (free_of z) f) is ∙ ap (λ z. cond (z && is_number t) e f) (w.names q o h b)

    pub no_name : o ≡ None → (e f : Extent) → named_worth Z.home q t e (free_of size) f ≡ f
    no_name j e f = name_is e f ∙ ap (λ z. cond (is_bound z b && is_number t) e f) j

    module _ (c : ℕ) (j : o ≡ Some c) where
      pub other_name : (c ≡ b → ⊥) → (e f : Extent) → named_worth Z.home q t e (free_of size) f ≡ f
      other_name n e f = name_is e f ∙ ap (λ z. cond (is_bound z b && is_number t) e f) j ∙ ap (λ z. cond (z && is_number t) e f) (ne_eqb c b n)

      pub own_name : (x : Bool) → c ≡ b → x ≡ is_number t → (e f : Extent) → named_worth Z.home q t e (free_of size) f ≡ cond x e f
      own_name x i k e f = name_is e f ∙ ap (λ z. cond (is_bound z b && is_number t) e f) j ∙ ap (λ z. cond (z && is_number t) e f) (eq-eqb c b i) ∙ ap (λ z. cond z e f) (sym k)

-- ---- data of parameters

module _ (F : ℕ → List Text) where
  pub all_types : (ds : List Shaped) (W : telling.Found) (v : variables.Variable) → (with_all F ds W).type (variable_of v) ≡ or_row (last_there F (sought.Type v) ds) (W.type (variable_of v))
  all_types [] W v = refl
  all_types (d ∷ ds) W v = all_types ds (with_data F (size_of d.tree.now) (row_of d.row.now) W) v ∙ by (last_there F (sought.Type v) ds) (place_of F (sought.Type v) (size_of d.tree.now))
    where
      by : (a : Option Row) (o : Option places.Path) → or_row a (on_place o (λ p. at_row p (row_of d.row.now)) (W.type (variable_of v))) ≡ or_row (or_else a (on_place o (λ p. Some (at_row p (row_of d.row.now))) None)) (W.type (variable_of v))
      by (Some r) o = refl
      by None (Some p) = refl
      by None None = refl

  pub all_sizes : (ds : List Shaped) (W : telling.Found) (d : frees.Free) → (with_all F ds W).size (free_of d) ≡ or_length (last_there F (sought.Size (dim.At d)) ds) (W.size (free_of d))
  all_sizes [] W d = refl
  all_sizes (x ∷ xs) W d = all_sizes xs (with_data F (size_of x.tree.now) (row_of x.row.now) W) d ∙ by (last_there F (sought.Size (dim.At d)) xs) (places.size_place F (At (free_of d)) (size_of x.tree.now))
    where
      by : (a : Option Row) (o : Option places.Path) → or_length a (on_place o (λ p. length_of (at_row p (row_of x.row.now))) (W.size (free_of d))) ≡ or_length (or_else a (on_place o (λ p. Some (at_row p (row_of x.row.now))) None)) (W.size (free_of d))
      by (Some r) o = refl
      by None (Some p) = refl
      by None None = refl
