-- Rows that are taken out of arrays.
use Rattle.std.proofs.Common.{◌≡◌, ℕ, zero, suc, ◌+◌, ◌-◌, ◌*◌, ◌<◌, ◌≤◌, List, [], ◌∷◌, ◌++◌, map, length, get_or, take, drop, slice_get, Some, Ok, Err, refl, sym, ap, ◌∙◌, subst, arith, add-one, append_assoc}
use Rattle.std.proofs.Math.Seq.{drop-cons}
use Rattle.std.proofs.lemmas.List.{append-nil, length-drop, length-take-le, take_all, get_or_default}
use Rattle.std.proofs.Math.Nat.{mod-lt, suc-mul, mul-le-mul_right, mul_assoc}
use Rattle.std.proofs.lemmas.Nat.{pow_pos}
use Rattle.fut_scalar.specs.declared.scalar.Scalar.{Scalar}
use Rattle.fut_scalar.specs.declared.scalar.ScalarType.{ScalarType}
use Rattle.fut_scalar.specs.declared.scalar.ScalarType.TheVariants as sort
use Rattle.fut_scalar.specs.Integers.{width_of}
use Rattle.fut_arithmetic.specs.Types.{IsOf}
use Rattle.fut_arithmetic.specs.Words.{word_of, scalar_of_word}
use Rattle.fut_value.specs.Leaves.{extent}
use Rattle.fut_meaning.specs.Outcomes.{Val}
use Rattle.core_arrays.specs.Arenas.{Array, Arena, array, with_part}
use Rattle.core_ir.specs.declared.block.Atom.{Atom}
use Rattle.core_ir.specs.declared.block.Atom.TheVariants as atom
use Rattle.core_ir.specs.Lists.{parts}
use Rattle.core_ir.specs.Bundles.{Component, One, Many, Row, formed, column}
use Rattle.core_ir.specs.Meaning.{Env, value_of, values_of}
use Rattle.core_ir.specs.Typed.{Sort, Sorts, lifted, Atom_is, Atoms_are}
use Rattle.core_code.specs.Registers.{State, elem_of, rank_of, ShowsScalar, ShowsArray, AllShow, none_shown, shown_and, Stands}
use Rattle.core_code.specs.Answers.{Answer, Read, read, Reads, Pushed, pushed, OnlyMemory}
use Rattle.core_code.specs.Answers as answer
use Rattle.core_code.specs.declared.stop.Stop.{Stop}
use Rattle.core_code.specs.declared.stop.Stop.TheVariants.{Memory}
use Rattle.core_code.proofs.Frames.{stands_on, all_show_on}
use Rattle.core_code.proofs.Reading.{elem_is, show_append}
use Rattle.core_steps.specs.Rows.{Row_at, none_at, at_and, Grown, CellTold, cell_told, no_cell, Cell_told, PartTold, part_told, no_part, Part_told, CellPushed, cell_pushed, not_pushed, Cell_pushed, RowPushed, row_pushed, no_row, Row_pushed}
use Rattle.core_steps.proofs.Operands.{get_map, get_behind, get_front, next_of, drop_past, values_many, sorts_many}
use Rattle.core_steps.proofs.Counting.{Operand_at, operand_at}

-- ---- cells and rows of words

pub cell_ok : (rs : List Array) (ty : ScalarType) (at i : ℕ) (xs : List ℕ) (d w : ℕ) → ((a : Array) → slice_get rs at ≡ Some a → xs ≡ a.words) → i < length xs → w ≡ word_of (scalar_of_word ty (get_or xs i d)) → Cell_told rs ty at i (Ok w)
unfolding Cell_told
cell_ok rs ty at i xs d w h l e a g =
    cell_told (subst (λ z. i < length z) (h a g) l) (e ∙ ap (λ z. word_of (scalar_of_word ty z)) (get_or_default xs i d 0 l ∙ ap (λ z. get_or z i 0) (h a g)))

pub cell_stop : (rs : List Array) (ty : ScalarType) (at i : ℕ) (e : Stop) → e ≡ Memory → Cell_told rs ty at i (Err e)
unfolding Cell_told
cell_stop rs ty at i e q a g = subst (λ z. CellTold ty i a (Err z)) (sym q) no_cell

pub ruleset cells = (cell_ok, cell_stop)

pub part_ok : (at i p : ℕ) (A A' : Arena) (xs ds : List ℕ) (n from count : ℕ) → ((a : Array) → slice_get A.arrays at ≡ Some a → xs ≡ a.sizes) → xs ≡ n ∷ ds → i < n → count ≡ extent ds → from ≡ i * count → p ≡ length A.arrays → ((a : Array) → slice_get A.arrays at ≡ Some a → A' ≡ with_part A a ds from count) → Part_told at i A A' (Ok p)
unfolding Part_told
part_ok at i p A A' xs ds n from count h q l e f r k a g =
    part_told n ds (sym (h a g) ∙ q) l r (k a g ∙ ap (λ z. with_part A a ds z count) f ∙ ap (λ z. with_part A a ds (i * z) z) e)

pub whole_list : (xs ds : List ℕ) → (length xs ≡ 0 → ⊥) → ds ≡ drop 1 xs → xs ≡ get_or xs 0 0 ∷ ds
whole_list [] ds n e = absurd (n refl)
whole_list (x ∷ xs) ds n e = ap (λ z. x ∷ z) (sym e)

pub tail_whole : (xs : List ℕ) → take (length xs - 1) (drop 1 xs) ≡ drop 1 xs
tail_whole xs = take_all (length xs - 1) (drop 1 xs) (omega (arith, length-drop 1 xs))

pub part_stop : (at i : ℕ) (A A' : Arena) (e : Stop) → e ≡ Memory → Part_told at i A A' (Err e)
unfolding Part_told
part_stop at i A A' e q a g = subst (λ z. PartTold i a A A' (Err z)) (sym q) no_part

pub ruleset parts_taken = (part_stop)

pub product_start : (ds : List ℕ) → 1 * extent ds ≡ extent ds
product_start ds = omega arith

pub product_more : (ds : List ℕ) (j d n m : ℕ) → j < length ds → n * extent (drop j ds) ≡ extent ds → m ≡ n * get_or ds j d → m * extent (drop (j + 1) ds) ≡ extent ds
product_more ds j d n m l e f =
    ap (λ z. m * extent (drop z ds)) (add-one j) ∙ ap (λ z. z * extent (drop (suc j) ds)) f ∙ mul_assoc n (get_or ds j d) (extent (drop (suc j) ds))
    ∙ ap (λ z. n * extent z) (sym (drop-cons ds j d l)) ∙ e

pub product_end : (ds : List ℕ) (j n : ℕ) → length ds ≤ j → n * extent (drop j ds) ≡ extent ds → n ≡ extent ds
product_end ds j n l e = let z : n * 1 ≡ extent ds = ap (λ z. n * extent z) (sym (drop_past ds j l)) ∙ e in omega (arith, z)

pub ruleset products = (product_start, product_more, product_end)

-- ---- rows of components

drop_none : {A : Type 0} (m : ℕ) → drop {A = A} m [] ≡ []
drop_none zero = refl
drop_none (suc m) = refl

pub drop_add : {A : Type 0} (n m : ℕ) (xs : List A) → drop m (drop n xs) ≡ drop (n + m) xs
drop_add zero m xs = let e : m ≡ 0 + m = omega arith in ap (λ z. drop z xs) e
drop_add (suc n) m [] = drop_none m ∙ sym (drop_none (suc n + m))
drop_add (suc n) m (x ∷ xs) = let e : suc (n + m) ≡ suc n + m = omega arith in drop_add n m xs ∙ ap (λ z. drop z (x ∷ xs)) e

pub parts_get : {A : Type 0} (n k : ℕ) (xs : List A) (i : ℕ) → i < n → slice_get (parts n k xs) i ≡ Some (take k (drop (i * k) xs))
parts_get zero k xs i l = absurd (omega arith)
parts_get (suc n) k xs zero l = let e : 0 ≡ 0 * k = omega arith in ap (λ z. Some (take k (drop z xs))) e
parts_get (suc n) k xs (suc i) l =
    let e : k + i * k ≡ suc i * k = omega (arith, suc-mul i k) in
    parts_get n k (drop k xs) i (omega arith) ∙ ap (λ z. Some (take k z)) (drop_add k (i * k) xs) ∙ ap (λ z. Some (take k (drop z xs))) e

pub of_type : (t : ScalarType) (w : ℕ) → IsOf t (scalar_of_word t w)
of_type (sort.Int t) w = (refl, mod-lt w (pow_pos (width_of t)))
of_type sort.Bool w = (refl, tt)

map_take : {A B : Type 0} (g : A → B) (n : ℕ) (xs : List A) → take n (map g xs) ≡ map g (take n xs)
map_take g zero xs = refl
map_take g (suc n) [] = refl
map_take g (suc n) (x ∷ xs) = ap (λ z. g x ∷ z) (map_take g n xs)

map_drop : {A B : Type 0} (g : A → B) (n : ℕ) (xs : List A) → drop n (map g xs) ≡ map g (drop n xs)
map_drop g zero xs = refl
map_drop g (suc n) [] = refl
map_drop g (suc n) (x ∷ xs) = map_drop g n xs

take_one : {A : Type 0} (xs : List A) (i : ℕ) (d : A) → i < length xs → take 1 (drop i xs) ≡ get_or xs i d ∷ []
take_one xs i d l = ap (take 1) (drop-cons xs i d l)

-- row i of an array, from its words
row_words : (f : ℕ → Scalar) (n : ℕ) (ds ws : List ℕ) (i : ℕ) → i < n → slice_get (column (Many (n ∷ ds) (map f ws))) i ≡ Some (formed ds (map f (take (extent ds) (drop (i * extent ds) ws))))
row_words f n ds ws i l =
    get_map (formed ds) (parts n (extent ds) (map f ws)) i (take (extent ds) (drop (i * extent ds) (map f ws))) (parts_get n (extent ds) (map f ws) i l)
    ∙ ap (λ z. Some (formed ds z)) (ap (take (extent ds)) (map_drop f (i * extent ds) ws) ∙ map_take f (extent ds) (drop (i * extent ds) ws))

-- ---- a component on the stack

sizes_one : (xs : List ℕ) → length xs ≡ 1 → (n : ℕ) × (xs ≡ n ∷ [])
sizes_one [] e = absurd (omega arith)
sizes_one (n ∷ []) e = (n, refl)
sizes_one (n ∷ m ∷ xs) e = absurd (omega arith)

record Scalar_row (ty : ScalarType) (c : Component) (i w : ℕ) : Type 0 where
  component : Component
  there : slice_get (column c) i ≡ Some component
  shown : ShowsScalar ty component w

scalar_row : (rs : List Array) (ty : ScalarType) (c : Component) (at i w : ℕ) (x : ShowsArray rs ty 1 c at) → CellTold ty i x.array (Ok w) → Scalar_row ty c i w
scalar_row rs ty c at i w x (cell_told l q) =
    let z = sizes_one x.array.sizes x.deep in
    let f : ℕ → Scalar = scalar_of_word ty in
    let ws : List ℕ = x.array.words in
    let full : length ws ≡ z.0 = let e : length ws ≡ z.0 * 1 = x.full ∙ ap extent z.1 in omega (arith, e) in
    let one : i * 1 ≡ i = omega arith in
    record {
      component = One (f (get_or ws i 0));
      there = ap (λ c. slice_get (column c) i) (x.is ∙ ap (λ ds. Many ds (map f ws)) z.1) ∙ row_words f z.0 [] ws i (omega (arith, l, full))
          ∙ ap (λ k. Some (formed [] (map f (take 1 (drop k ws))))) one ∙ ap (λ y. Some (formed [] (map f y))) (take_one ws i 0 l);
      shown = record { scalar = f (get_or ws i 0); is = refl; typed = of_type ty (get_or ws i 0); word = q };
    }

sizes_deep : (ds : List ℕ) (r : ℕ) (ws : List Scalar) → length ds ≡ suc r → formed ds ws ≡ Many ds ws
sizes_deep [] r ws e = absurd (omega arith)
sizes_deep (d ∷ ds) r ws e = refl

record Array_row (A A' : Arena) (ty : ScalarType) (r : ℕ) (c : Component) (i p : ℕ) : Type 0 where
  component : Component
  there : slice_get (column c) i ≡ Some component
  shown : ShowsArray A'.arrays ty (suc r) component p
  grows : (i : ℕ) (a : Array) → slice_get A.arrays i ≡ Some a → slice_get A'.arrays i ≡ Some a
  handed : A'.handed ≡ A.handed

array_row : (A A' : Arena) (ty : ScalarType) (r : ℕ) (c : Component) (at i p : ℕ) (x : ShowsArray A.arrays ty (suc (suc r)) c at) → PartTold i x.array A A' (Ok p) → Array_row A A' ty r c i p
array_row A A' ty r c at i p x (part_told n ds e l q f) =
    let g : ℕ → Scalar = scalar_of_word ty in
    let ws : List ℕ = x.array.words in
    let few : List ℕ = take (extent ds) (drop (i * extent ds) ws) in
    let deep : length ds ≡ suc r = let z : length (n ∷ ds) ≡ suc (suc r) = sym (ap length e) ∙ x.deep in omega (arith, z) in
    let full : length ws ≡ n * extent ds = x.full ∙ ap extent e in
    let within : suc i * extent ds ≤ n * extent ds = mul-le-mul_right (extent ds) l in
    record {
      component = Many ds (map g few);
      there = ap (λ c. slice_get (column c) i) (x.is ∙ ap (λ ds. Many ds (map g ws)) e) ∙ row_words g n ds ws i l ∙ ap Some (sizes_deep ds r (map g few) deep);
      shown = record {
        array = array ds few;
        there = ap (λ (z : Arena). slice_get z.arrays p) f ∙ ap (slice_get (A.arrays ++ array ds few ∷ [])) q ∙ get_behind A.arrays (array ds few);
        is = refl;
        deep = deep;
        full = length-take-le (extent ds) (drop (i * extent ds) ws) (omega (arith, length-drop (i * extent ds) ws, full, within, suc-mul i (extent ds)));
      };
      grows = λ j a z. ap (λ (y : Arena). slice_get y.arrays j) f ∙ get_front A.arrays (array ds few ∷ []) j a z;
      handed = ap (λ (y : Arena). y.handed) f;
    }

pub rank_is : (G : Sorts) (u : Atom) (s : Sort) → Atom_is G u s → rank_of u ≡ s.1
rank_is G (atom.Var x) s h = ap (λ (z : Sort). z.1) h.1
rank_is G (atom.Constant c) s h = ap (λ (z : Sort). z.1) h

module _ (u : Atom) (i at : ℕ) (S S' : State) (h : Reads S.words u (Ok at)) where
  pub push_scalar : (ty : ScalarType) (w : ℕ) (r : Answer) → S'.arena ≡ S.arena → rank_of u ≡ 1 → ty ≡ elem_of u → Cell_told S.arena.arrays ty at i (Ok w) → Pushed w S.stack S'.stack r → Cell_pushed u i S S' r
  unfolding Reads Cell_told Cell_pushed
  push_scalar ty w r e q f k p G env n rank ty' c st a v =
      by_rank rank (let z = rank_is G u (ty', suc rank) a in omega (arith, z, q)) (f ∙ elem_is G u (ty', suc rank) a) (h G env n S.arena.arrays (ty', suc rank) st a)
    where
      grown : Grown S S'
      grown = record { arrays = λ j b y. ap (λ (z : Arena). slice_get z.arrays j) e ∙ y; handed = ap (λ (z : Arena). z.handed) e }

      by_push : (ty : ScalarType) {r : Answer} → Scalar_row ty c i w → Pushed w S.stack S'.stack r → CellPushed (ty, 0) c i S S' r
      by_push ty x (pushed y) = cell_pushed x.component w x.there x.shown y grown
      by_push ty x answer.not_pushed = not_pushed

      by_read : Read (value_of env u) S.arena.arrays (ty, 1) (Ok at) → CellPushed (ty, 0) c i S S' r
      by_read (read {c = c'} y x) =
          let z : c' ≡ c = let b : Val c' ≡ Val c = sym y ∙ v in cc in
          by_push ty (subst (λ c. Scalar_row ty c i w) z (scalar_row S.arena.arrays ty c' at i w x (k x.array x.there))) p

      by_rank : (rank : ℕ) → rank ≡ 0 → ty ≡ ty' → Read (value_of env u) S.arena.arrays (ty', suc rank) (Ok at) → CellPushed (ty', rank) c i S S' r
      by_rank zero z g y = subst (λ t. CellPushed (t, 0) c i S S' r) g (by_read (subst (λ t. Read (value_of env u) S.arena.arrays (t, 1) (Ok at)) (sym g) y))
      by_rank (suc rank) z g y = absurd (omega (arith, z))

  pub push_array : (p : ℕ) (r : Answer) → (rank_of u ≡ 1 → ⊥) → Part_told at i S.arena S'.arena (Ok p) → Pushed p S.stack S'.stack r → Cell_pushed u i S S' r
  unfolding Reads Part_told Cell_pushed
  push_array p r ne k q G env n rank ty c st a v = by_rank rank (rank_is G u (ty, suc rank) a) (h G env n S.arena.arrays (ty, suc rank) st a)
    where
      by_push : (r' : ℕ) {r : Answer} → Array_row S.arena S'.arena ty r' c i p → Pushed p S.stack S'.stack r → CellPushed (ty, suc r') c i S S' r
      by_push r' x (pushed y) = cell_pushed x.component p x.there x.shown y (record { arrays = x.grows; handed = x.handed })
      by_push r' x answer.not_pushed = not_pushed

      by_rank : (rank : ℕ) → rank_of u ≡ suc rank → Read (value_of env u) S.arena.arrays (ty, suc rank) (Ok at) → CellPushed (ty, rank) c i S S' r
      by_rank zero z y = absurd (ne z)
      by_rank (suc r') z (read {c = c'} y x) =
          let b : c' ≡ c = let d : Val c' ≡ Val c = sym y ∙ v in cc in
          by_push r' (subst (λ c. Array_row S.arena S'.arena ty r' c i p) b (array_row S.arena S'.arena ty r' c' at i p x (k x.array x.there))) q

pub cell_memory : (u : Atom) (i : ℕ) (S S' : State) (e : Stop) → e ≡ Memory → Cell_pushed u i S S' (Err e)
unfolding Cell_pushed
cell_memory u i S S' e q G env n rank ty c st a v = subst (λ z. CellPushed (ty, rank) c i S S' (Err z)) (sym q) not_pushed

pub ruleset pushing = (cell_memory)

-- ---- all components, one after the other

pub data Half_row (G : Sorts) (env : Env) (i j : ℕ) (ss : List Sort) (cs : Row) (S0 S : State) : Type 0 where
  half_row : (ds : Row) (ws : List ℕ) → Row_at i (take j cs) ds → AllShow S.arena.arrays (take j ss) ds ws → S.stack ≡ S0.stack ++ ws → S.words ≡ S0.words → Grown S0 S → Half_row G env i j ss cs S0 S

unfoldable pub Row_goes : List Atom → ℕ → ℕ → State → State → Type 0
Row_goes us i j S0 S = (G : Sorts) (env : Env) (n : ℕ) (ss : List Sort) (cs : Row) → Stands G env n S0.arena.arrays S0.words → Atoms_are G us (lifted ss) → values_of env us ≡ Val cs → Half_row G env i j ss cs S0 S

pub grown_same : (S : State) → Grown S S
grown_same S = record { arrays = λ i a e. e; handed = refl }

pub grown_on : (S S1 S2 : State) → Grown S S1 → Grown S1 S2 → Grown S S2
grown_on S S1 S2 g h = record { arrays = λ i a e. h.arrays i a (g.arrays i a e); handed = h.handed ∙ g.handed }

row_append : (i : ℕ) (cs ds : Row) (c d : Component) → Row_at i cs ds → slice_get (column c) i ≡ Some d → Row_at i (cs ++ c ∷ []) (ds ++ d ∷ [])
row_append i _ _ c d none_at e = at_and e none_at
row_append i _ _ c d (at_and {cs = cs} {ds = ds} f h) e = at_and f (row_append i cs ds c d h e)

pub row_start : (us : List Atom) (i : ℕ) (S : State) → Row_goes us i 0 S S
unfolding Row_goes
row_start us i S G env n ss cs st a v = half_row [] [] none_at none_shown (sym (append-nil S.stack)) refl (grown_same S)

module _ (us : List Atom) (i j : ℕ) (S0 S : State) (h : Row_goes us i j S0 S) where
  pub row_more : (d : Atom) (S' : State) → j < length us → S'.words ≡ S.words → Cell_pushed (get_or us j d) i S S' (Ok tt) → Row_goes us i (j + 1) S0 S'
  unfolding Row_goes Cell_pushed
  row_more d S' l w k G env n ss cs st a v =
      subst (λ z. Half_row G env i z ss cs S0 S') (sym (add-one j)) (by_half (h G env n ss cs st a v) (operand_at G env us ss cs j d l a v))
    where
      by_cell : (s : Sort) (c : Component) (ds : Row) (ws : List ℕ) → take (suc j) ss ≡ take j ss ++ s ∷ [] → take (suc j) cs ≡ take j cs ++ c ∷ [] → Row_at i (take j cs) ds → AllShow S.arena.arrays (take j ss) ds ws → S.stack ≡ S0.stack ++ ws → S.words ≡ S0.words → Grown S0 S → CellPushed s c i S S' (Ok tt) → Half_row G env i (suc j) ss cs S0 S'
      by_cell s c ds ws e f r sh q x g (cell_pushed d w' y z p g') =
          half_row (ds ++ d ∷ []) (ws ++ w' ∷ []) (subst (λ y. Row_at i y (ds ++ d ∷ [])) (sym f) (row_append i (take j cs) ds c d r y))
          (subst (λ y. AllShow S'.arena.arrays y (ds ++ d ∷ []) (ws ++ w' ∷ [])) (sym e) (show_append S'.arena.arrays (take j ss) ds ws (s ∷ []) (d ∷ []) (w' ∷ []) (all_show_on S.arena.arrays S'.arena.arrays (take j ss) ds ws g'.arrays sh) (shown_and z none_shown)))
          (p ∙ ap (λ y. y ++ w' ∷ []) q ∙ append_assoc S0.stack ws (w' ∷ [])) (w ∙ x) (grown_on S0 S S' g g')

      by_half : Half_row G env i j ss cs S0 S → Operand_at G env us ss cs j (get_or us j d) → Half_row G env i (suc j) ss cs S0 S'
      by_half (half_row ds ws r sh q x g) o =
          by_cell o.sort o.component ds ws (next_of j ss o.sort (drop (suc j) ss) o.sorts).taken (next_of j cs o.component (drop (suc j) cs) o.components).taken r sh q x g
          (k G env n o.sort.1 o.sort.0 o.component (subst (Stands G env n S.arena.arrays) (sym x) (stands_on G env n n S0.arena.arrays S.arena.arrays S0.words S0.words (omega arith) (λ x l. refl) g.arrays st)) o.is o.value)

  pub row_end : length us ≤ j → Row_pushed us i S0 S (Ok tt)
  unfolding Row_goes Row_pushed
  row_end l G env n ss cs st a v = by_half (h G env n ss cs st a v)
    where
      by_half : Half_row G env i j ss cs S0 S → RowPushed (Row_at i cs) ss S0 S (Ok tt)
      by_half (half_row ds ws r sh q x g) =
          row_pushed ds ws (subst (λ z. Row_at i z ds) (take_all j cs (omega (arith, l, values_many env us cs v))) r) (subst (λ z. AllShow S.arena.arrays z ds ws) (take_all j ss (omega (arith, l, sorts_many G us ss a))) sh) q g

pub row_stop : (us : List Atom) (i : ℕ) (S S' : State) (e : Stop) → e ≡ Memory → Row_pushed us i S S' (Err e)
unfolding Row_pushed
row_stop us i S S' e q G env n ss cs st a v = subst (λ z. RowPushed (Row_at i cs) ss S S' (Err z)) (sym q) no_row

pub ruleset rows = (row_start, row_more, row_end, row_stop)
