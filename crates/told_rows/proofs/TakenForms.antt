-- Sizes as expressions, read off what functions take.
use Rattle.std.proofs.Common.{◌≡◌, ℕ, suc, ◌+◌, ◌-◌, ◌<◌, ◌≤◌, ◌&&◌, ◌||◌, List, [], ◌∷◌, map, length, get_or, drop, Bool, true, false, cond, nat_eq, Option, Some, None, Result, Ok, Err, IfOk, refl, sym, ap, subst, ◌∙◌, arith}
use Rattle.std.specs.Borrow.{Bor}
use Rattle.fut_ast.specs.Sorts.{Text}
use Rattle.fut_blocks.specs.declared.block.Atom.{Atom}
use Rattle.fut_blocks.specs.declared.row.RowShape.{RowShape}
use Rattle.fut_blocks.specs.Rows.{Row, Extent, Nowhere, Exactly, row_of, extent_of}
use Rattle.fut_flat.specs.declared.pat.Pat.{Pat}
use Rattle.fut_flat.specs.Erased.{pattern_of, patterns, term_of}
use Rattle.fut_flat.specs.Numbers.{all_pattern_numbers}
use Rattle.fut_meaning.specs.Found.{Sizing, is_number, named_worth}
use Rattle.fut_meaning.specs.Places as places
use Rattle.fut_meaning.specs.Places.{on_place, or_else}
use Rattle.fut_meaning.specs.Taken.{all_beside, beside, is_outer, on_size, outer_size, own_size, result_place, taken_place}
use Rattle.fut_meaning.specs.Telling.{nodes_from}
use Rattle.fut_flat.specs.declared.prim.Primitive.{Primitive}
use Rattle.fut_scalar.specs.declared.memory.NoMemory.{NoMemory}
use Rattle.fut_scalar.specs.declared.place.Place.{Place}
use Rattle.fut_types.specs.declared.Head.{Head}
use Rattle.fut_types.specs.Types.{Ty}
use Rattle.sized_types.specs.Sizes.{Free, Const, Name, Own, Unknown, Slot, Dim, At, Bound, Variable, Size, Hole, Open, Level, Built, Fun, Sizes, no_size, size_and, is_dim}
use Rattle.sized_types.specs.Standing.{is_known, gives_chosen}
use Rattle.size_arena.proofs.Parts.{parts_at, parts_end}
use Rattle.size_arena.proofs.Forms.{forms, size_hole, size_open, size_level, size_built, size_fun}
use Rattle.size_arena.specs.declared.dims.Dim as dims
use Rattle.size_arena.specs.declared.dims.Dim.TheVariants as dim
use Rattle.size_arena.specs.declared.dims.Free as frees
use Rattle.size_arena.specs.declared.dims.Free.TheVariants as free
use Rattle.size_arena.specs.declared.dims.Variable as variables
use Rattle.size_arena.specs.declared.trees.SizeTree.{SizeTree}
use Rattle.size_arena.specs.declared.trees.SizeTree.TheVariants as form
use Rattle.size_arena.specs.declared.types.TypeTree.{TypeTree}
use Rattle.size_arena.specs.Trees.{dim_of, free_of, size_of, sizes_of}
use Rattle.unfold.proofs.Mirror.{entered_nothing, entered_first, known_scalar, known_tuple, known_record, known_function, known_primitive}
use Rattle.unfold.specs.declared.known.Entered.{Entered as Held_entered}
use Rattle.unfold.specs.declared.known.Entered.TheVariants as held
use Rattle.unfold.specs.declared.known.Field.{Field}
use Rattle.unfold.specs.declared.known.Function.{Function}
use Rattle.unfold.specs.declared.known.Known.{Known as Held_known}
use Rattle.unfold.specs.declared.known.KnownForm.TheVariants as known_form
use Rattle.unfold.specs.Held.{entered_of, known_of}
use Rattle.unfold.specs.Knowns.{entry}
use Rattle.unfold.specs.Telling as telling
use Rattle.unfold.specs.Telling.{expression, found, passed, says, taken, told}
use Rattle.told_rows.specs.declared.places.Path.{Path}
use Rattle.told_rows.specs.declared.places.Sought.TheVariants as sought
use Rattle.told_rows.specs.declared.tables.Sizes as tables
use Rattle.told_rows.specs.declared.taken.Step.{Step}
use Rattle.told_rows.specs.Places.{entry_there, maybe_path, maybe_row, place_of, results_there, there}
use Rattle.told_rows.specs.Tables.{Tells, node_at}
use Rattle.told_rows.specs.Taken.{Lighter, Says, Steps, entered_weight, is_taken_there, known_weight, maybe_dim}
use Rattle.told_rows.proofs.AskForms.{Many_made, many_as}

-- ---- whether what was entered tells a size

-- whether a size is a name that is bound there, by what the name is worth
named_same : (b c : Bool) → ((e f : Extent) → cond b e f ≡ cond c e f) → b ≡ c
named_same true true h = refl
named_same false false h = refl
named_same true false h = absurd (let z : Nowhere ≡ Exactly 0 = h Nowhere (Exactly 0) in cc)
named_same false true h = absurd (let z : Exactly 0 ≡ Nowhere = h Nowhere (Exactly 0) in cc)

named_by : (home : ℕ → ℕ) (q : ℕ) (t : Size) (d : Free) (b : Bool) → ((e f : Extent) → telling.named_worth home q t e d f ≡ cond b e f) → (e f : Bool) → named_worth home q t e d f ≡ cond b e f
named_by home q t (Const c) b h e f = ap (λ z. cond z e f) (named_same false b h)
named_by home q t (Name n) b h e f = ap (λ z. cond z e f) (named_same (nat_eq (home n) q && is_number t) b h)
named_by home q t (Own n i) b h e f = ap (λ z. cond z e f) (named_same false b h)
named_by home q t (Unknown n i) b h e f = ap (λ z. cond z e f) (named_same false b h)
named_by home q t (Slot i) b h e f = ap (λ z. cond z e f) (named_same false b h)

abbrev is_some : {A : Type 0} → Option A → Bool
is_some (Some r) = true
is_some None = false

placed_some : (o : Option places.Path) (f : places.Path → Row) (p : Option Row) (b : Bool) → is_some p ≡ b → is_some (on_place o (λ q. Some (f q)) p) ≡ on_place o (λ q. true) b
placed_some (Some q) f p b e = refl
placed_some None f p b e = e

or_placed : (o p : Option places.Path) (b : Bool) → on_place o (λ q. true) (on_place p (λ q. true) b) ≡ cond (on_place o (λ q. true) (on_place p (λ q. true) false)) true b
or_placed (Some q) p b = refl
or_placed None (Some q) b = refl
or_placed None None b = refl

one_placed : (o : Option places.Path) (b : Bool) → on_place o (λ q. true) b ≡ cond (on_place o (λ q. true) false) true b
one_placed (Some q) b = refl
one_placed None b = refl

module _ (Z : Sizing) where
  results_some : (d : frees.Free) (t : Size) (r : Row) → is_some (results_there Z.fields (sought.Size (dim.At d)) t r) ≡ on_place (result_place Z.fields (At (free_of d)) t) (λ p. true) false
  results_some d (Hole v) r = refl
  results_some d (Open n v u) r = refl
  results_some d (Level x t) r = refl
  results_some d (Built h ts) r = refl
  results_some d (Fun k p q) r = by (is_known p && gives_chosen k q)
    where
      by : (b : Bool) → is_some (cond b (there Z.fields (sought.Size (dim.At d)) q r None) None) ≡ on_place (cond b (places.size_place Z.fields (At (free_of d)) q) None) (λ p. true) false
      by true = placed_some (places.size_place Z.fields (At (free_of d)) q) _ None false refl
      by false = refl

  pub told_nothing : (c : Held_entered) (d : Free) → c ≡ held.Nothing → false ≡ told Z (entered_of c) d
  unfolding told
  told_nothing c d is = sym (ap (λ z. told Z z d) (ap entered_of is ∙ entered_nothing))

  pub taken_nothing : (c : Held_entered) (d : Free) → c ≡ held.Nothing → false ≡ taken Z (entered_of c) d
  unfolding taken
  taken_nothing c d is = sym (ap (λ z. taken Z z d) (ap entered_of is ∙ entered_nothing))

  module _ (s : tables.Sizes) (w : Tells s Z) (c : Held_entered) (q : ℕ) (k : Held_known) (r : Bor RowShape) (es : Bor Held_entered) (is : c ≡ held.First q k r es) (t : Size) (node : t ≡ node_at s.nodes.now q) where
    here : t ≡ Z.size_at q
    here = node ∙ sym (w.nodes q)

    module _ (d : frees.Free) where
      told_step : (o : Option Row) → o ≡ entry_there Z.fields (sought.Size (dim.At d)) t (known_of k) (row_of r.now) → told Z (entered_of c) (free_of d) ≡ named_worth Z.home q t true (free_of d) (cond (is_some o) true (told Z (entered_of es.now) (free_of d)))
      unfolding told
      told_step o h =
          ap (λ z. told Z z (free_of d)) (ap entered_of is ∙ entered_first q k r es)
          ∙ ap (λ z. named_worth Z.home q z true (free_of d) (on_place (places.size_place Z.fields (At (free_of d)) z) (λ p. true) (on_place (result_place Z.fields (At (free_of d)) z) (λ p. true) (told Z (entered_of es.now) (free_of d))))) (sym here)
          ∙ ap (named_worth Z.home q t true (free_of d)) (or_placed (places.size_place Z.fields (At (free_of d)) t) (result_place Z.fields (At (free_of d)) t) (told Z (entered_of es.now) (free_of d))
          ∙ ap (λ z. cond z true (told Z (entered_of es.now) (free_of d))) (sym (ap is_some h ∙ placed_some (places.size_place Z.fields (At (free_of d)) t) _ (results_there Z.fields (sought.Size (dim.At d)) t (row_of r.now)) _ (results_some d t (row_of r.now)))))

      module _ (b : Bool) (given : (e f : Extent) → telling.named_worth Z.home q t e (free_of d) f ≡ cond b e f) where
        by_bool : (e f : Bool) → named_worth Z.home q t e (free_of d) f ≡ cond b e f
        by_bool = named_by Z.home q t (free_of d) b given

        pub told_named : b ≡ true → true ≡ told Z (entered_of c) (free_of d)
        told_named j =
            let o = entry_there Z.fields (sought.Size (dim.At d)) t (known_of k) (row_of r.now) in
            let rest = cond (is_some o) true (told Z (entered_of es.now) (free_of d)) in
            sym (told_step o refl ∙ by_bool true rest ∙ ap (λ z. cond z true rest) j)

        module _ (e : b ≡ false) (o : Option (Bor RowShape)) (h : maybe_row o ≡ entry_there Z.fields (sought.Size (dim.At d)) t (known_of k) (row_of r.now)) where
          told_other : told Z (entered_of c) (free_of d) ≡ cond (is_some (maybe_row o)) true (told Z (entered_of es.now) (free_of d))
          told_other = told_step (maybe_row o) h ∙ by_bool true (cond (is_some (maybe_row o)) true (told Z (entered_of es.now) (free_of d))) ∙ ap (λ z. cond z true (cond (is_some (maybe_row o)) true (told Z (entered_of es.now) (free_of d)))) e

          pub told_here : (p : Bor RowShape) → o ≡ Some p → true ≡ told Z (entered_of c) (free_of d)
          told_here p j = sym (told_other ∙ ap (λ z. cond (is_some (maybe_row z)) true (told Z (entered_of es.now) (free_of d))) j)

          pub told_on : o ≡ None → told Z (entered_of c) (free_of d) ≡ told Z (entered_of es.now) (free_of d)
          told_on j = told_other ∙ ap (λ z. cond (is_some (maybe_row z)) true (told Z (entered_of es.now) (free_of d))) j

      -- whether a function takes it
      module _ (b : Bool) (h : b ≡ is_taken_there Z.fields (free_of d) t) where
        taken_step : taken Z (entered_of c) (free_of d) ≡ cond b true (taken Z (entered_of es.now) (free_of d))
        unfolding taken
        taken_step =
            ap (λ z. taken Z z (free_of d)) (ap entered_of is ∙ entered_first q k r es)
            ∙ one_placed (taken_place Z.fields (At (free_of d)) (Z.size_at q)) (taken Z (entered_of es.now) (free_of d))
            ∙ ap (λ z. cond (is_taken_there Z.fields (free_of d) z) true (taken Z (entered_of es.now) (free_of d))) (sym here)
            ∙ ap (λ z. cond z true (taken Z (entered_of es.now) (free_of d))) (sym h)

        pub taken_here : b ≡ true → true ≡ taken Z (entered_of c) (free_of d)
        taken_here j = sym (taken_step ∙ ap (λ z. cond z true (taken Z (entered_of es.now) (free_of d))) j)

        pub taken_on : b ≡ false → taken Z (entered_of c) (free_of d) ≡ taken Z (entered_of es.now) (free_of d)
        taken_on j = taken_step ∙ ap (λ z. cond z true (taken Z (entered_of es.now) (free_of d))) j

module _ (F : ℕ → List Text) (d : Free) (t : SizeTree) where
  pub hole_takes : (v : variables.Variable) → t ≡ form.Hole v → false ≡ is_taken_there F d (size_of t)
  hole_takes v is = sym (ap (is_taken_there F d) (ap size_of is ∙ size_hole v))

  pub open_takes : (n : ℕ) (v : variables.Variable) (u : Bor TypeTree) → t ≡ form.Open n v u → false ≡ is_taken_there F d (size_of t)
  open_takes n v u is = sym (ap (is_taken_there F d) (ap size_of is ∙ size_open n v u))

  pub level_takes : (height : ℕ) (x : dims.Dim) (u : Bor SizeTree) → t ≡ form.Level height x u → false ≡ is_taken_there F d (size_of t)
  level_takes height x u is = sym (ap (is_taken_there F d) (ap size_of is ∙ size_level height x u))

  pub built_takes : (height : ℕ) (h : Head) (ts : Bor (List SizeTree)) → t ≡ form.Built height h ts → false ≡ is_taken_there F d (size_of t)
  built_takes height h ts is = sym (ap (is_taken_there F d) (ap size_of is ∙ size_built height h ts))

  module _ (height k : ℕ) (p q : Bor SizeTree) (is : t ≡ form.Fun height k p q) (o : Option (Bor Path)) (h : maybe_path o ≡ places.size_place F (At d) (size_of p.now)) where
    fun_takes : is_taken_there F d (size_of t) ≡ on_place (maybe_path o) (λ p. true) false
    fun_takes = ap (is_taken_there F d) (ap size_of is ∙ size_fun height k p q) ∙ ap (λ z. on_place z (λ p. true) false) (sym h)

    pub fun_takes_it : (x : Bor Path) → o ≡ Some x → true ≡ is_taken_there F d (size_of t)
    fun_takes_it x j = sym (fun_takes ∙ ap (λ z. on_place (maybe_path z) (λ p. true) false) j)

    pub fun_takes_none : o ≡ None → false ≡ is_taken_there F d (size_of t)
    fun_takes_none j = sym (fun_takes ∙ ap (λ z. on_place (maybe_path z) (λ p. true) false) j)

-- ---- a constant, or a size that names tell or take

module _ (t u : Free → Bool) (x : dims.Dim) where
  pub const_outer : (d : frees.Free) (n : ℕ) → x ≡ dim.At d → d ≡ free.Const n → true ≡ is_outer t u (dim_of x)
  const_outer d n is e = sym (ap (λ z. is_outer t u (dim_of z)) (is ∙ ap dim.At e))

  free_outer : (d : frees.Free) → x ≡ dim.At d → ((n : ℕ) → d ≡ free.Const n → ⊥) → is_outer t u (dim_of x) ≡ t (free_of d) || u (free_of d)
  free_outer d is n = ap (λ z. is_outer t u (dim_of z)) is ∙ by d n
    where
      by : (d : frees.Free) → ((n : ℕ) → d ≡ free.Const n → ⊥) → is_outer t u (At (free_of d)) ≡ t (free_of d) || u (free_of d)
      by (free.Const c) n = absurd (n c refl)
      by (free.Name b) n = refl
      by (free.Own m i) n = refl
      by (free.Unknown m i) n = refl
      by (free.Slot i) n = refl

  pub told_outer : (d : frees.Free) (b : Bool) → x ≡ dim.At d → ((n : ℕ) → d ≡ free.Const n → ⊥) → b ≡ t (free_of d) → b ≡ true → true ≡ is_outer t u (dim_of x)
  told_outer d b is n h j = sym (free_outer d is n ∙ ap (λ z. z || u (free_of d)) (sym h ∙ j))

  pub taken_outer : (d : frees.Free) (b : Bool) (o : Result Bool NoMemory) → x ≡ dim.At d → ((n : ℕ) → d ≡ free.Const n → ⊥) → b ≡ t (free_of d) → b ≡ false → IfOk o (λ is. is ≡ u (free_of d)) → IfOk o (λ is. is ≡ is_outer t u (dim_of x))
  taken_outer d b (Ok c) is n h j k = k ∙ sym (free_outer d is n ∙ ap (λ z. z || u (free_of d)) (sym h ∙ j))
  taken_outer d b (Err e) is n h j k = tt

  pub bound_outer : (j i : ℕ) → x ≡ dim.Bound j i → false ≡ is_outer t u (dim_of x)
  bound_outer j i is = sym (ap (λ z. is_outer t u (dim_of z)) is)

-- ---- two sized types side by side

module _ (x : Dim) where
  pub beside_hole : (v : Variable) (u : Size) → beside (Hole v) u x ≡ None
  unfolding beside
  beside_hole v u = refl

  pub beside_open : (n : ℕ) (v : Variable) (y : Ty) (u : Size) → beside (Open n v y) u x ≡ None
  unfolding beside
  beside_open n v y u = refl

  pub beside_fun : (k : ℕ) (p r u : Size) → beside (Fun k p r) u x ≡ None
  unfolding beside
  beside_fun k p r u = refl

  -- types of other forms have nothing side by side
  pub level_hole : (d : Dim) (t : Size) (v : Variable) → beside (Level d t) (Hole v) x ≡ None
  unfolding beside
  level_hole d t v = refl

  pub level_open : (d : Dim) (t : Size) (m : ℕ) (v : Variable) (y : Ty) → beside (Level d t) (Open m v y) x ≡ None
  unfolding beside
  level_open d t m v y = refl

  pub level_fun : (d : Dim) (t : Size) (k : ℕ) (p r : Size) → beside (Level d t) (Fun k p r) x ≡ None
  unfolding beside
  level_fun d t k p r = refl

  pub level_built : (d : Dim) (t : Size) (h : Head) (us : Sizes) → beside (Level d t) (Built h us) x ≡ None
  unfolding beside
  level_built d t h us = refl

  pub built_hole : (h : Head) (ts : Sizes) (v : Variable) → beside (Built h ts) (Hole v) x ≡ None
  unfolding beside
  built_hole h ts v = refl

  pub built_open : (h : Head) (ts : Sizes) (m : ℕ) (v : Variable) (y : Ty) → beside (Built h ts) (Open m v y) x ≡ None
  unfolding beside
  built_open h ts m v y = refl

  pub built_fun : (h : Head) (ts : Sizes) (k : ℕ) (p r : Size) → beside (Built h ts) (Fun k p r) x ≡ None
  unfolding beside
  built_fun h ts k p r = refl

  pub built_level : (h : Head) (ts : Sizes) (d : Dim) (u : Size) → beside (Built h ts) (Level d u) x ≡ None
  unfolding beside
  built_level h ts d u = refl

  module _ (t u : SizeTree) where
    module _ (n m : ℕ) (d e : dims.Dim) (p q : Bor SizeTree) (is : t ≡ form.Level n d p) (js : u ≡ form.Level m e q) (b : Bool) (same : b ≡ is_dim (dim_of d) x) where
      levels_beside : beside (size_of t) (size_of u) x ≡ cond b (Some (dim_of e)) (beside (size_of p.now) (size_of q.now) x)
      unfolding beside
      levels_beside = ap (λ z. beside z (size_of u) x) (ap size_of is ∙ size_level n d p) ∙ ap (λ z. beside (Level (dim_of d) (size_of p.now)) z x) (ap size_of js ∙ size_level m e q) ∙ ap (λ z. cond z (Some (dim_of e)) (beside (size_of p.now) (size_of q.now) x)) (sym same)

      pub level_is : b ≡ true → Some (dim_of e) ≡ beside (size_of t) (size_of u) x
      level_is j = sym (levels_beside ∙ ap (λ z. cond z (Some (dim_of e)) (beside (size_of p.now) (size_of q.now) x)) j)

      pub level_in : (o : Option dims.Dim) → b ≡ false → maybe_dim o ≡ beside (size_of p.now) (size_of q.now) x → maybe_dim o ≡ beside (size_of t) (size_of u) x
      level_in o j h = h ∙ sym (levels_beside ∙ ap (λ z. cond z (Some (dim_of e)) (beside (size_of p.now) (size_of q.now) x)) j)

    pub parts_in : (n m : ℕ) (h k : Head) (ts us : Bor (List SizeTree)) (o : Option dims.Dim) → t ≡ form.Built n h ts → u ≡ form.Built m k us → maybe_dim o ≡ all_beside (sizes_of ts.now) (sizes_of us.now) x → maybe_dim o ≡ beside (size_of t) (size_of u) x
    unfolding beside
    parts_in n m h k ts us o is js g = g ∙ sym (ap (λ z. beside z (size_of u) x) (ap size_of is ∙ size_built n h ts) ∙ ap (λ z. beside (Built h (sizes_of ts.now)) z x) (ap size_of js ∙ size_built m k us))

  module _ (ts us : List SizeTree) (i : ℕ) (e : all_beside (sizes_of ts) (sizes_of us) x ≡ all_beside (sizes_of (drop i ts)) (sizes_of (drop i us)) x) where
    module _ (t u : SizeTree) (l : i < length ts) (m : i < length us) (is : t ≡ get_or ts i t) (js : u ≡ get_or us i u) (o : Option dims.Dim) (h : maybe_dim o ≡ beside (size_of t) (size_of u) x) where
      parts_step : all_beside (sizes_of ts) (sizes_of us) x ≡ or_else (maybe_dim o) (all_beside (sizes_of (drop (i + 1) ts)) (sizes_of (drop (i + 1) us)) x)
      unfolding all_beside
      parts_step =
          e
          ∙ ap (λ z. all_beside z (sizes_of (drop i us)) x) (parts_at ts i t l)
          ∙ ap (λ z. all_beside (size_and (size_of (get_or ts i t)) (sizes_of (drop (i + 1) ts))) z x) (parts_at us i u m)
          ∙ ap (λ z. or_else (beside (size_of z) (size_of (get_or us i u)) x) (all_beside (sizes_of (drop (i + 1) ts)) (sizes_of (drop (i + 1) us)) x)) (sym is)
          ∙ ap (λ z. or_else (beside (size_of t) (size_of z) x) (all_beside (sizes_of (drop (i + 1) ts)) (sizes_of (drop (i + 1) us)) x)) (sym js)
          ∙ ap (λ z. or_else z (all_beside (sizes_of (drop (i + 1) ts)) (sizes_of (drop (i + 1) us)) x)) (sym h)

      pub parts_here : (d : dims.Dim) → o ≡ Some d → Some (dim_of d) ≡ all_beside (sizes_of ts) (sizes_of us) x
      parts_here d j = sym (parts_step ∙ ap (λ z. or_else (maybe_dim z) (all_beside (sizes_of (drop (i + 1) ts)) (sizes_of (drop (i + 1) us)) x)) j)

      pub parts_on : o ≡ None → all_beside (sizes_of ts) (sizes_of us) x ≡ all_beside (sizes_of (drop (i + 1) ts)) (sizes_of (drop (i + 1) us)) x
      parts_on j = parts_step ∙ ap (λ z. or_else (maybe_dim z) (all_beside (sizes_of (drop (i + 1) ts)) (sizes_of (drop (i + 1) us)) x)) j

    pub first_over : length ts ≤ i → None ≡ all_beside (sizes_of ts) (sizes_of us) x
    unfolding all_beside
    first_over l = sym (e ∙ ap (λ z. all_beside z (sizes_of (drop i us)) x) (parts_end ts i l))

    none_right : (xs : Sizes) → all_beside xs no_size x ≡ None
    unfolding all_beside
    none_right no_size = refl
    none_right (size_and y ys) = refl

    pub second_over : length us ≤ i → None ≡ all_beside (sizes_of ts) (sizes_of us) x
    second_over l = sym (e ∙ ap (λ z. all_beside (sizes_of (drop i ts)) z x) (parts_end us i l) ∙ none_right (sizes_of (drop i ts)))

pub ruleset beside_forms = (forms, beside_hole, beside_open, beside_fun, level_hole, level_open, level_fun, level_built, built_hole, built_open, built_fun, built_level)

-- ---- in a function's own type

module _ (Z : Sizing) (x : Dim) (t : SizeTree) (ps : List Pat) (q : ℕ) where
  abbrev pub own_in : Size → Option Dim
  own_in u = own_size Z u (nodes_from (patterns (map pattern_of ps)) q) x

  pub no_parameter : length ps ≡ 0 → None ≡ own_in (size_of t)
  unfolding patterns
  no_parameter e = by ps e (size_of t)
    where
      by : (ps : List Pat) → length ps ≡ 0 → (u : Size) → None ≡ own_size Z u (nodes_from (patterns (map pattern_of ps)) q) x
      by [] e (Hole v) = refl
      by [] e (Open n v y) = refl
      by [] e (Level d u) = refl
      by [] e (Built h ts) = refl
      by [] e (Fun k p r) = refl
      by (y ∷ ys) e u = absurd (omega (arith, e))

  pub hole_own : (v : variables.Variable) → t ≡ form.Hole v → None ≡ own_in (size_of t)
  hole_own v is = sym (ap own_in (ap size_of is ∙ size_hole v))

  pub open_own : (n : ℕ) (v : variables.Variable) (u : Bor TypeTree) → t ≡ form.Open n v u → None ≡ own_in (size_of t)
  open_own n v u is = sym (ap own_in (ap size_of is ∙ size_open n v u))

  pub level_own : (height : ℕ) (d : dims.Dim) (u : Bor SizeTree) → t ≡ form.Level height d u → None ≡ own_in (size_of t)
  level_own height d u is = sym (ap own_in (ap size_of is ∙ size_level height d u))

  pub built_own : (height : ℕ) (h : Head) (ts : Bor (List SizeTree)) → t ≡ form.Built height h ts → None ≡ own_in (size_of t)
  built_own height h ts is = sym (ap own_in (ap size_of is ∙ size_built height h ts))

  pub fun_own : (height k : ℕ) (p r : Bor SizeTree) (m : ℕ) (u : Size) (o : Option dims.Dim) → t ≡ form.Fun height k p r → (length ps ≡ 0 → ⊥) → m ≡ q → u ≡ Z.size_at m → maybe_dim o ≡ beside (size_of p.now) u x → maybe_dim o ≡ own_in (size_of t)
  unfolding patterns beside
  fun_own height k p r m u o is n e h g = g ∙ ap (λ z. beside (size_of p.now) z x) (h ∙ ap (λ z. Z.size_at z) e) ∙ by ps n ∙ sym (ap own_in (ap size_of is ∙ size_fun height k p r))
    where
      by : (ps : List Pat) → (length ps ≡ 0 → ⊥) → beside (size_of p.now) (Z.size_at q) x ≡ own_size Z (Fun k (size_of p.now) (size_of r.now)) (nodes_from (patterns (map pattern_of ps)) q) x
      by [] n = absurd (n refl)
      by (y ∷ ys) n = refl

module _ (outer : Dim → Bool) (o : Option dims.Dim) (p : Option Dim) (h : maybe_dim o ≡ p) where
  outer_step : outer_size outer p ≡ outer_size outer (maybe_dim o)
  outer_step = ap (outer_size outer) (sym h)

  pub outer_it : (d : dims.Dim) (b : Bool) → o ≡ Some d → b ≡ outer (dim_of d) → b ≡ true → Some (dim_of d) ≡ outer_size outer p
  outer_it d b is k j = sym (outer_step ∙ ap (λ z. outer_size outer (maybe_dim z)) is ∙ ap (λ z. cond z (Some (dim_of d)) None) (sym k ∙ j))

  pub outer_not : (d : dims.Dim) (b : Bool) → o ≡ Some d → b ≡ outer (dim_of d) → b ≡ false → None ≡ outer_size outer p
  outer_not d b is k j = sym (outer_step ∙ ap (λ z. outer_size outer (maybe_dim z)) is ∙ ap (λ z. cond z (Some (dim_of d)) None) (sym k ∙ j))

  pub outer_none : o ≡ None → None ≡ outer_size outer p
  outer_none is = sym (outer_step ∙ ap (λ z. outer_size outer (maybe_dim z)) is)

-- ---- one step, to the names of the function that says it

module _ (k : Held_known) (f : Bor Function) (fs : k.form ≡ known_form.Function f) where
  pub function_heavier : entered_weight (entered_of f.now.entered.now) < known_weight (known_of k)
  unfolding entered_weight known_weight
  function_heavier = omega (arith, ap known_weight (known_function k f fs))

module _ (Z : Sizing) (k : Held_known) (t : Size) (d : Free) where
  module _ (f : Bor Function) (fs : k.form ≡ known_form.Function f) where
    abbrev pub Said : Option Dim
    Said = outer_size (is_outer (told Z (entered_of f.now.entered.now)) (taken Z (entered_of f.now.entered.now))) (own_size Z t (nodes_from (patterns (map pattern_of f.now.parameters.now)) (f.now.first - all_pattern_numbers (patterns (map pattern_of f.now.parameters.now)))) (At d))

    module _ (o : Option dims.Dim) (h : maybe_dim o ≡ Said) where
      function_step : (e : Extent) → says Z (known_of k) t (At d) e ≡ on_size (maybe_dim o) (expression Z (entered_of f.now.entered.now)) e
      unfolding says
      function_step e = ap (λ z. says Z z t (At d) e) (known_function k f fs) ∙ ap (λ z. on_size z (expression Z (entered_of f.now.entered.now)) e) (sym h)

      pub function_not : o ≡ None → (e : Extent) → says Z (known_of k) t (At d) e ≡ e
      function_not j e = function_step e ∙ ap (λ z. on_size (maybe_dim z) (expression Z (entered_of f.now.entered.now)) e) j

      pub function_said : (x : dims.Dim) → o ≡ Some x → (e : Extent) → says Z (known_of k) t (At d) e ≡ expression Z (entered_of f.now.entered.now) (dim_of x)
      function_said x j e = function_step e ∙ ap (λ z. on_size (maybe_dim z) (expression Z (entered_of f.now.entered.now)) e) j

  -- what is no function says nothing
  pub scalar_says : (a : Atom) → k.form ≡ known_form.Scalar a → (e : Extent) → says Z (known_of k) t (At d) e ≡ e
  unfolding says
  scalar_says a is e = ap (λ z. says Z z t (At d) e) (known_scalar k a is)

  pub tuple_says : (ss : Bor (List Held_known)) → k.form ≡ known_form.Tuple ss → (e : Extent) → says Z (known_of k) t (At d) e ≡ e
  unfolding says
  tuple_says ss is e = ap (λ z. says Z z t (At d) e) (known_tuple k ss is)

  pub record_says : (ws : Bor (List Field)) → k.form ≡ known_form.Record ws → (e : Extent) → says Z (known_of k) t (At d) e ≡ e
  unfolding says
  record_says ws is e = ap (λ z. says Z z t (At d) e) (known_record k ws is)

  pub primitive_says : (p : Primitive) (at : Place) (ss : Bor (List Held_known)) → k.form ≡ known_form.Primitive p at ss → (e : Extent) → says Z (known_of k) t (At d) e ≡ e
  unfolding says
  primitive_says p at ss is e = ap (λ z. says Z z t (At d) e) (known_primitive k p at ss is)

module _ (c : Held_entered) (q : ℕ) (k : Held_known) (r : Bor RowShape) (es : Bor Held_entered) (is : c ≡ held.First q k r es) where
  first_is : entered_of c ≡ entry q (known_of k) (row_of r.now) (entered_of es.now)
  first_is = ap entered_of is ∙ entered_first q k r es

  pub older_lighter : (whole : Held_entered) → entered_weight (entered_of c) ≤ entered_weight (entered_of whole) → entered_weight (entered_of es.now) ≤ entered_weight (entered_of whole)
  unfolding entered_weight known_weight
  older_lighter whole l = omega (arith, l, ap entered_weight first_is)

  known_lighter : known_weight (known_of k) < entered_weight (entered_of c)
  unfolding entered_weight known_weight
  known_lighter = omega (arith, ap entered_weight first_is)

  pub step_lighter : (whole : Held_entered) (o : Option Step) → Lighter (known_weight (known_of k)) o → entered_weight (entered_of c) ≤ entered_weight (entered_of whole) → Lighter (entered_weight (entered_of whole)) o
  step_lighter whole None h l = tt
  step_lighter whole (Some y) h l = omega (arith, h, l, known_lighter)

  module _ (Z : Sizing) (s : tables.Sizes) (w : Tells s Z) (t : Size) (node : t ≡ node_at s.nodes.now q) (d : Free) where
    passed_step : passed Z (entered_of c) d ≡ says Z (known_of k) t (At d) (passed Z (entered_of es.now) d)
    unfolding passed
    passed_step = ap (λ z. passed Z z d) first_is ∙ ap (λ z. says Z (known_of k) z (At d) (passed Z (entered_of es.now) d)) (sym (node ∙ sym (w.nodes q)))

    module _ (o : Option Step) (h : Says Z (known_of k) t d o) where
      pub step_on : o ≡ None → passed Z (entered_of c) d ≡ passed Z (entered_of es.now) d
      step_on j = passed_step ∙ subst (Says Z (known_of k) t d) j h (passed Z (entered_of es.now) d)

      pub step_here : (whole : Held_entered) (y : Step) → o ≡ Some y → passed Z (entered_of whole) d ≡ passed Z (entered_of c) d → Steps Z (entered_of whole) d o
      step_here whole y j e = subst (Steps Z (entered_of whole) d) (sym j) (e ∙ passed_step ∙ subst (Says Z (known_of k) t d) j h (passed Z (entered_of es.now) d))

module _ (Z : Sizing) where
  pub passed_nothing : (c : Held_entered) (d : Free) → c ≡ held.Nothing → passed Z (entered_of c) d ≡ Nowhere
  unfolding passed
  passed_nothing c d is = ap (λ z. passed Z z d) (ap entered_of is ∙ entered_nothing)

-- ---- a size as an expression

module _ (Z : Sizing) (c : Held_entered) (x : dims.Dim) where
  pub dim_other : ((d : frees.Free) → x ≡ dim.At d → ⊥) → Nowhere ≡ expression Z (entered_of c) (dim_of x)
  dim_other never = by x never
    where
      by : (y : dims.Dim) → ((d : frees.Free) → y ≡ dim.At d → ⊥) → Nowhere ≡ expression Z (entered_of c) (dim_of y)
      by (dim.At d) given = absurd (given d refl)
      by (dim.Bound j i) given = refl

  module _ (d : frees.Free) (is : x ≡ dim.At d) where
    pub dim_const : (n : ℕ) → d ≡ free.Const n → Exactly n ≡ expression Z (entered_of c) (dim_of x)
    dim_const n e = sym (ap (λ z. expression Z (entered_of c) (dim_of z)) (is ∙ ap dim.At e))

    module _ (no : (n : ℕ) → d ≡ free.Const n → ⊥) (b : Bool) (h : b ≡ told Z (entered_of c) (free_of d)) where
      dim_free : expression Z (entered_of c) (dim_of x) ≡ cond b ((found Z (entered_of c)).size (free_of d)) (passed Z (entered_of c) (free_of d))
      dim_free = ap (λ z. expression Z (entered_of c) (dim_of z)) is ∙ by d no ∙ ap (λ z. cond z ((found Z (entered_of c)).size (free_of d)) (passed Z (entered_of c) (free_of d))) (sym h)
        where
          by : (d : frees.Free) → ((n : ℕ) → d ≡ free.Const n → ⊥) → expression Z (entered_of c) (At (free_of d)) ≡ cond (told Z (entered_of c) (free_of d)) ((found Z (entered_of c)).size (free_of d)) (passed Z (entered_of c) (free_of d))
          by (free.Const m) never = absurd (never m refl)
          by (free.Name m) never = refl
          by (free.Own m i) never = refl
          by (free.Unknown m i) never = refl
          by (free.Slot i) never = refl

      pub dim_told : (o : Many_made) (e : Extent) → b ≡ true → IfOk o (λ many. extent_of many ≡ (found Z (entered_of c)).size (free_of d)) → expression Z (entered_of c) (dim_of x) ≡ e → IfOk o (λ many. extent_of many ≡ e)
      dim_told o e j m k = many_as o _ _ m (sym (dim_free ∙ ap (λ z. cond z ((found Z (entered_of c)).size (free_of d)) (passed Z (entered_of c) (free_of d))) j) ∙ k)

      module _ (j : b ≡ false) (o : Option Step) (s : Steps Z (entered_of c) (free_of d) o) where
        dim_passed : expression Z (entered_of c) (dim_of x) ≡ passed Z (entered_of c) (free_of d)
        dim_passed = dim_free ∙ ap (λ z. cond z ((found Z (entered_of c)).size (free_of d)) (passed Z (entered_of c) (free_of d))) j

        pub dim_nowhere : o ≡ None → Nowhere ≡ expression Z (entered_of c) (dim_of x)
        dim_nowhere e = sym (dim_passed ∙ subst (Steps Z (entered_of c) (free_of d)) e s)

        pub dim_on : (y : Step) → o ≡ Some y → expression Z (entered_of c) (dim_of x) ≡ expression Z (entered_of y.entered.now) (dim_of y.size)
        dim_on y e = dim_passed ∙ subst (Steps Z (entered_of c) (free_of d)) e s

pub next_lighter : (n : ℕ) (o : Option Step) (y : Step) → Lighter n o → o ≡ Some y → entered_weight (entered_of y.entered.now) < n
next_lighter n o y h e = subst (Lighter n) e h
